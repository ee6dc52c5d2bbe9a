use Rattle.std.proofs.Common.{◌≡◌}
use Rattle.roll_chain.specs.Sharing.{heard_until}
use Rattle.roll_chain.proofs.sharing.hear.Given as goal

abbrev pub invariant-loop-machine : goal.invariant-loop-machine
invariant-loop-machine l = l.peer ≡ heard_until l.stays l.past l.machine l.fn.peer
