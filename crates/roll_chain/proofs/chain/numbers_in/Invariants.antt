use Rattle.std.proofs.Common.{◌≡◌, ℕ, ◌<◌, length, get_or}
use Rattle.roll_mesh.specs.declared.limits.TheConstants.{MACHINE_LIMIT}
use Rattle.std.specs.Prelude.{slice_index}
use Rattle.roll_epoch.specs.Ids.{key_of}
use Rattle.roll_chain.proofs.chain.numbers_in.Given as goal

abbrev pub invariant-loop-machine : goal.invariant-loop-machine
invariant-loop-machine l =
    (length l.numbers ≡ MACHINE_LIMIT) × ((k : ℕ) → k < l.machine → get_or l.numbers k 0 ≡ key_of (slice_index l.base k) l.id)
