use Rattle.std.proofs.Common.{◌≡◌, ℕ, ◌<◌, length, get_or, false}
use Rattle.roll_mesh.specs.declared.limits.TheConstants.{MACHINE_LIMIT}
use Rattle.roll_chain.specs.Sharing.{is_gone_in_either}
use Rattle.roll_chain.proofs.chain.Chain.gone_in_either.Given as goal

abbrev pub invariant-loop-machine : goal.invariant-loop-machine
invariant-loop-machine l =
    (length l.gone ≡ MACHINE_LIMIT)
    × ((k : ℕ) → k < l.machine → get_or l.gone k false ≡ is_gone_in_either l.self l.peer l.past k)
