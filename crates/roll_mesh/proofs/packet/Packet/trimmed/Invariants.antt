use Rattle.std.proofs.Common.{◌≡◌, ℕ, ◌<◌, length}
use Rattle.std.specs.Prelude.{slice_index, slice_index_or}
use Rattle.roll_mesh.specs.Machines.{none_offered, offer_at, trimmed_offer}
use Rattle.roll_mesh.specs.declared.limits.TheConstants.{PLAYER_LIMIT}
use Rattle.roll_mesh.proofs.packet.Packet.trimmed.Given as goal

abbrev pub invariant-loop-player : goal.invariant-loop-player
invariant-loop-player l = record {
  all : length l.offers ≡ PLAYER_LIMIT;
  so_far : (p : ℕ)
      → p < l.player → slice_index_or l.offers p none_offered
      ≡ trimmed_offer (slice_index l.most p) (offer_at l.self p);
}
