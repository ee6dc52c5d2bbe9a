-- Rows that are settled are known.
use Rattle.std.proofs.Common.{◌≡◌, ℕ, ◌≤◌, List, [], ◌∷◌, true, refl, ap, sym, subst, arith}
use Rattle.roll_frame.specs.Core.{Core, settled}
use Rattle.roll_frame.specs.Events.{replay}
use Rattle.roll_frame.specs.Timeline.{Player, front}
use Rattle.roll_laws.proofs.Fronts.{known_below_front, settled_is}
use Rattle.roll_laws.proofs.Glue.{always_holds}
use Rattle.roll_laws.proofs.Known.{AllKnown}
use Rattle.roll_laws.proofs.Sound.{Sound, sound_played}
use Rattle.roll_session.specs.Seen.{game_of, FollowsLog, Seen, Step}
use Rattle.roll_peer.specs.Known.{is_row_known, IsKnownTo}

row_known : (t : ℕ) (players : List Player) → AllKnown t players → is_row_known players t ≡ true
row_known t [] known = refl
row_known t (p ∷ players) known = rw (known.0, row_known t players known.1) refl

pub settled_known : (step : Step) (s : Seen) → FollowsLog step s → IsKnownTo s (settled s.core)
settled_known step s follows t before =
    let sound : Sound s.settings (replay s.settings s.log) = always_holds Sound sound_played s.settings (game_of step s) s.log follows.log in
    let within : settled (replay s.settings s.log) ≤ front (replay s.settings s.log).players = omega (arith, (settled_is (replay s.settings s.log) sound.root).0) in
    let same : settled s.core ≡ settled (replay s.settings s.log) = ap settled follows.core in
    subst (λ (core : Core). is_row_known core.players t ≡ true) (sym follows.core)
    (row_known t (replay s.settings s.log).players (known_below_front t (replay s.settings s.log).players (omega (arith, before, same, within))))
