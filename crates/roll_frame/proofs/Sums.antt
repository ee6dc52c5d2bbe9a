-- The sums of a window's advantages, pair by pair.
use Rattle.std.proofs.Common.{◌≡◌, ℤ, pos, ◌+ℤ◌, ◌*ℤ◌, ◌-◌, ◌≤◌, ◌∷◌, length, refl, arith}
use Rattle.std.specs.Prelude.{fold, All}
use Rattle.std.proofs.lemmas.Int.{ints}
use Rattle.std.proofs.lemmas.List.Elements.{All-head, All-tail}
use Rattle.roll_frame.specs.Advice.{Window, IsWindow, IsWithin, IsHeld, local_sum, remote_sum}
use Rattle.roll_frame.specs.declared.limits.TheConstants.{ADVANTAGE_LIMIT, ADVICE_WINDOW}

-- with the pairs of rest left to add, the sums so far are local and remote
pub record IsSummed (window rest : Window) (local remote : ℤ) : Type 0 where
  pub local_left : fold (λ sum pair. sum +ℤ pair.0) local rest ≡ local_sum window
  pub remote_left : fold (λ sum pair. sum +ℤ pair.1) remote rest ≡ remote_sum window
  pub in_range : All IsHeld rest
  pub short : length window ≤ ADVICE_WINDOW
  pub rest_short : length rest ≤ length window
  pub local_bound : IsWithin (ADVANTAGE_LIMIT *ℤ pos (length window - length rest)) local
  pub remote_bound : IsWithin (ADVANTAGE_LIMIT *ℤ pos (length window - length rest)) remote

pub IsSummed-start : (window : Window) → IsWindow window → IsSummed window window (pos 0) (pos 0)
IsSummed-start window w = record {
  local_left = refl;
  remote_left = refl;
  in_range = w.in_range;
  short = w.short;
  rest_short = omega arith;
  local_bound = (omega (arith, ints), omega (arith, ints));
  remote_bound = (omega (arith, ints), omega (arith, ints));
}

pub IsSummed-more : (window rest : Window) (pair : ℤ × ℤ) (local remote more_local more_remote : ℤ) → IsSummed window (pair ∷ rest) local remote → more_local ≡ local +ℤ pair.0 → more_remote ≡ remote +ℤ pair.1 → IsSummed window rest more_local more_remote
IsSummed-more window rest pair local remote more_local more_remote s e f =
    let p = All-head IsHeld pair rest s.in_range in
    record {
      local_left = rw e s.local_left;
      remote_left = rw f s.remote_left;
      in_range = All-tail IsHeld pair rest s.in_range;
      short = s.short;
      rest_short = omega arith;
      local_bound = (omega (arith, ints), omega (arith, ints));
      remote_bound = (omega (arith, ints), omega (arith, ints));
    }
