use Rattle.std.proofs.Common.{◌∙◌, sym, arith}
use Rattle.roll_mesh.proofs.Places.{all_until, not_all_below}
use Rattle.roll_mesh.specs.declared.limits.TheConstants.{MACHINE_LIMIT}
use Rattle.roll_peer.specs.Judging.{are_its_machines, is_its_machine}
use Rattle.roll_peer.proofs.judging.are_its_machines.Goals as goal

pub returns-then-not-is_its_machine : goal.returns-then-not-is_its_machine
unfolding are_its_machines
returns-then-not-is_its_machine c =
    sym (not_all_below (is_its_machine c.args.seat.now c.args.packet.now) MACHINE_LIMIT c.loop-machine.machine (omega arith)
    (sym c.is_its_machine.ensures ∙ c.if-not-is_its_machine.true))

pub returns : goal.returns
unfolding are_its_machines
returns c =
    sym (all_until (is_its_machine c.args.seat.now c.args.packet.now) MACHINE_LIMIT c.loop-machine.machine (omega arith) c.loop-machine.invariant)
