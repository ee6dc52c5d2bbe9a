use Rattle.std.proofs.Common.{arith}
use Rattle.std.proofs.lemmas.List.FromFn.{fill_by_all}
use Rattle.roll_mesh.specs.declared.limits.TheConstants.{MACHINE_LIMIT}
use Rattle.std.specs.Prelude.{slice_index}
use Rattle.roll_epoch.specs.Ids.{key_of}
use Rattle.roll_chain.proofs.chain.numbers_in.Goals as goal

pub returns : goal.returns
returns c =
    fill_by_all (λ m. key_of (slice_index c.args.base.now m) c.args.id) c.loop-machine.numbers MACHINE_LIMIT 0 c.loop-machine.invariant.0
    (λ k l. c.loop-machine.invariant.1 k (omega (arith, l)))
