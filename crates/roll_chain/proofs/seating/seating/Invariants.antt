use Rattle.std.proofs.Common.{◌≡◌, ℕ, ◌<◌, length, get_or}
use Rattle.roll_mesh.specs.declared.limits.TheConstants.{MACHINE_LIMIT}
use Rattle.roll_peer.specs.declared.following.Seating.TheVariants.{Empty}
use Rattle.roll_chain.specs.Seams.{seating_at}
use Rattle.roll_chain.proofs.seating.seating.Given as goal

abbrev pub invariant-loop-machine : goal.invariant-loop-machine
invariant-loop-machine l =
    (length l.seating ≡ MACHINE_LIMIT) × ((k : ℕ) → k < l.machine → get_or l.seating k Empty ≡ seating_at l.old l.new l.end l.left k)
