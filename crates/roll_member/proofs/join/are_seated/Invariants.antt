use Rattle.std.proofs.Common.{◌≡◌, ℕ, ◌<◌, true}
use Rattle.roll_member.specs.Joined.{is_seated_at}
use Rattle.roll_member.proofs.join.are_seated.Given as goal

abbrev pub invariant-loop-place : goal.invariant-loop-place
invariant-loop-place g l = (p : ℕ) → p < l.place → is_seated_at (g.S.Networked.seen l.session) l.seat p ≡ true
