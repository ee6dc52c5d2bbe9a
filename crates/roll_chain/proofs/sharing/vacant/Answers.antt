use Rattle.std.proofs.Common.{arith, false}
use Rattle.std.proofs.lemmas.List.FromFn.{fill_by_all}
use Rattle.roll_mesh.specs.declared.limits.TheConstants.{MACHINE_LIMIT}
use Rattle.roll_chain.specs.Sharing.{is_vacant}
use Rattle.roll_chain.proofs.sharing.vacant.Goals as goal

pub returns : goal.returns
returns c =
    fill_by_all (is_vacant c.args.terms.now) c.loop-machine.vacant MACHINE_LIMIT false c.loop-machine.invariant.0
    (λ k l. c.loop-machine.invariant.1 k (omega (arith, l)))
