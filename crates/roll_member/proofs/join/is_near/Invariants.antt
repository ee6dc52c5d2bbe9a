use Rattle.std.proofs.Common.{◌≡◌, ℕ, ◌<◌, true}
use Rattle.roll_member.specs.Beside.{is_near_at}
use Rattle.roll_member.proofs.join.is_near.Given as goal

abbrev pub invariant-loop-place : goal.invariant-loop-place
invariant-loop-place g l = (p : ℕ) → p < l.place → is_near_at (g.S.Networked.seen l.session) l.mesh p ≡ true
