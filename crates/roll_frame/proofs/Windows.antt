-- A window stays a window when a pair is noted.
use Rattle.std.proofs.Common.{ℤ, arith, length-append, length-drop}
use Rattle.std.proofs.lemmas.Int.{ints, clamps}
use Rattle.std.proofs.lemmas.List.Elements.{All-push, All-drop}
use Rattle.roll_frame.specs.Advice.{Window, IsWindow, IsWithin, IsHeld, held, noted}
use Rattle.roll_frame.specs.declared.limits.TheConstants.{ADVANTAGE_LIMIT}

pub held_within : (advantage : ℤ) → IsWithin ADVANTAGE_LIMIT (held advantage)
held_within advantage = (omega (arith, ints, clamps), omega (arith, ints, clamps))

pub IsWindow-noted : (window : Window) (local remote : ℤ) → IsWindow window → IsWindow (noted window local remote)
IsWindow-noted window local remote w =
    let pair : IsHeld (held local, held remote) = (held_within local, held_within remote) in
    record {
      short = simp (length-drop, length-append) (omega arith);
      in_range = All-drop IsHeld _ _ (All-push IsHeld window _ w.in_range pair);
    }
