use Rattle.std.proofs.Common.{◌<◌, length, arith}
use Rattle.std.specs.Bool.{beq}
use Rattle.std.proofs.lemmas.Bool.{not-true}
use Rattle.roll_mesh.specs.Machines.{is_in, same_gone}
use Rattle.roll_mesh.proofs.Places.{all_places, not_all_places}
use Rattle.roll_carry.proofs.map.same_machines.Goals as goal

pub returns-then-one-machine : goal.returns-then-one-machine
unfolding same_gone
returns-then-one-machine c =
    let inside : c.loop-machine.machine < length c.args.one.now = omega arith in
    not_all_places (λ m. beq (is_in c.args.one.now m) (is_in c.args.other.now m)) c.args.one.now
    c.loop-machine.machine inside
    (not-true (beq (is_in c.args.one.now c.loop-machine.machine)
    (is_in c.args.other.now c.loop-machine.machine)) c.if-one-machine.true)

pub returns : goal.returns
unfolding same_gone
returns c = all_places (λ m. beq (is_in c.args.one.now m) (is_in c.args.other.now m))
    c.args.one.now c.loop-machine.machine (omega arith) c.loop-machine.invariant
