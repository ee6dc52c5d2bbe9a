use Rattle.std.proofs.Common.{arith, false}
use Rattle.std.proofs.lemmas.List.FromFn.{fill_by_all}
use Rattle.roll_mesh.specs.declared.limits.TheConstants.{MACHINE_LIMIT}
use Rattle.roll_chain.specs.Sharing.{is_gone_in_either}
use Rattle.roll_chain.proofs.chain.Chain.gone_in_either.Goals as goal

pub returns : goal.returns
returns c =
    fill_by_all (is_gone_in_either c.args.self.now c.args.peer.now c.args.past.now) c.loop-machine.gone MACHINE_LIMIT false c.loop-machine.invariant.0
    (λ k l. c.loop-machine.invariant.1 k (omega (arith, l)))
