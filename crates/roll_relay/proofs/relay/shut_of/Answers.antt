use Rattle.std.proofs.Common.{false, arith, sym, ◌∙◌}
use Rattle.std.proofs.lemmas.List.{length-replicate}
use Rattle.roll_relay.specs.Relaying.{is_shut}
use Rattle.roll_relay.specs.Relaying.{nobody}
use Rattle.roll_mesh.specs.declared.limits.TheConstants.{MACHINE_LIMIT}
use Rattle.roll_mesh.proofs.Places.{filled}
use Rattle.roll_relay.proofs.relay.shut_of.Goals as goal

pub returns : goal.returns
returns c = filled (is_shut c.args.peer.now) nobody c.loop-machine.shut false
    (c.loop-machine.invariant.0 ∙ sym (length-replicate MACHINE_LIMIT false))
    (λ m h. c.loop-machine.invariant.1 m (omega (arith, h, length-replicate MACHINE_LIMIT false)))
