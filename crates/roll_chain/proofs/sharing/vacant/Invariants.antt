use Rattle.std.proofs.Common.{◌≡◌, ℕ, ◌<◌, length, get_or, false}
use Rattle.roll_mesh.specs.declared.limits.TheConstants.{MACHINE_LIMIT}
use Rattle.roll_chain.specs.Sharing.{is_vacant}
use Rattle.roll_chain.proofs.sharing.vacant.Given as goal

abbrev pub invariant-loop-machine : goal.invariant-loop-machine
invariant-loop-machine l =
    (length l.vacant ≡ MACHINE_LIMIT)
    × ((k : ℕ) → k < l.machine → get_or l.vacant k false ≡ is_vacant l.terms k)
