use Rattle.std.proofs.Common.{◌≡◌}
use Rattle.roll_chain.specs.Sharing.{parted_until}
use Rattle.roll_chain.proofs.sharing.part.Given as goal

abbrev pub invariant-loop-machine : goal.invariant-loop-machine
invariant-loop-machine l = l.peer ≡ parted_until l.gone l.machine l.fn.peer
