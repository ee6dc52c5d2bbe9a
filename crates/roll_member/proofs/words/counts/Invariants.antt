use Rattle.std.proofs.Common.{◌≡◌, ℕ, ◌<◌, length}
use Rattle.std.specs.Prelude.{slice_index}
use Rattle.roll_mesh.specs.declared.limits.TheConstants.{PLAYER_LIMIT}
use Rattle.roll_member.specs.Joined.{known}
use Rattle.roll_member.proofs.words.counts.Given as goal

abbrev pub invariant-loop-place : goal.invariant-loop-place
invariant-loop-place g l = record {
  all : length l.counts ≡ PLAYER_LIMIT;
  so_far : (p : ℕ) → p < l.place → slice_index l.counts p ≡ known (g.S.Networked.seen l.session) l.seat p;
}
