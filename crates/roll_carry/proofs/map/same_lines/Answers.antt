use Rattle.std.proofs.Common.{◌<◌, length, arith, sym, ◌∙◌}
use Rattle.roll_carry.specs.Mapping.{same_lines}
use Rattle.roll_carry.specs.Ways.{hearing_of}
use Rattle.roll_mesh.specs.Machines.{same_gone as same_machines}
use Rattle.roll_mesh.proofs.Places.{all_places, not_all_places}
use Rattle.roll_carry.proofs.map.same_lines.Goals as goal

pub returns-then-not-same_machines : goal.returns-then-not-same_machines
unfolding same_lines
returns-then-not-same_machines c =
    let inside : c.loop-machine.machine < length c.args.one.now = omega arith in
    not_all_places (λ m. same_machines (hearing_of c.args.one.now m).hears (hearing_of c.args.other.now m).hears)
    c.args.one.now c.loop-machine.machine inside (sym c.same_machines.ensures ∙ c.if-not-same_machines.true)

pub returns : goal.returns
unfolding same_lines
returns c = all_places (λ m. same_machines (hearing_of c.args.one.now m).hears (hearing_of c.args.other.now m).hears)
    c.args.one.now c.loop-machine.machine (omega arith) c.loop-machine.invariant
