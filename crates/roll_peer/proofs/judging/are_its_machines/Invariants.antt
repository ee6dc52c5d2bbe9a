use Rattle.std.proofs.Common.{◌≡◌, ◌<◌, ℕ, true}
use Rattle.roll_peer.specs.Judging.{is_its_machine}
use Rattle.roll_peer.proofs.judging.are_its_machines.Given as goal

abbrev pub invariant-loop-machine : goal.invariant-loop-machine
invariant-loop-machine l = (k : ℕ) → k < l.machine → is_its_machine l.seat l.packet k ≡ true
