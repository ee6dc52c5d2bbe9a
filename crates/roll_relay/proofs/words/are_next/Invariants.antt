use Rattle.std.proofs.Common.{◌≡◌, ℕ, ◌<◌, true}
use Rattle.roll_relay.specs.Told.{is_next_at}
use Rattle.roll_relay.proofs.words.are_next.Given as goal

abbrev pub invariant-loop-place : goal.invariant-loop-place
invariant-loop-place g l = (k : ℕ) → k < l.place → is_next_at (g.S.Networked.seen l.session) l.words k ≡ true
