use Rattle.std.proofs.Common.{◌≡◌, ◌<◌, ℕ, true}
use Rattle.roll_member.specs.Taking.{is_full}
use Rattle.roll_member.proofs.words.are_full.Given as goal

abbrev pub invariant-loop-place : goal.invariant-loop-place
invariant-loop-place l = (p : ℕ) → p < l.place → is_full l.mesh.seat l.mesh.machine l.end l.most p ≡ true
