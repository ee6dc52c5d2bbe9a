use Rattle.std.proofs.Common.{◌≡◌, ℕ, ◌<◌, length, get_or}
use Rattle.roll_mesh.specs.declared.limits.TheConstants.{MACHINE_LIMIT}
use Rattle.std.proofs.Common.{false}
use Rattle.roll_peer.specs.Following.{seating_at as sits_at}
use Rattle.roll_chain.specs.Seams.{is_staying}
use Rattle.roll_chain.proofs.seating.stay_where.Given as goal

abbrev pub invariant-loop-machine : goal.invariant-loop-machine
invariant-loop-machine l =
    (length l.stays ≡ MACHINE_LIMIT) × ((k : ℕ) → k < l.machine → get_or l.stays k false ≡ is_staying (sits_at l.seating k))
