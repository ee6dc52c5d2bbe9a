use Rattle.std.proofs.Common.{arith, None}
use Rattle.std.proofs.lemmas.List.FromFn.{fill_by_all}
use Rattle.roll_mesh.specs.declared.limits.TheConstants.{PLAYER_LIMIT}
use Rattle.fazgrond_c.specs.EpochKinds.{delay_at}
use Rattle.fazgrond_c.proofs.epoch_kinds.delays_of.Goals as goal

pub returns-clause-delays : goal.returns-clause-delays
returns-clause-delays c =
    fill_by_all (delay_at c.args.numbers.now) c.loop-place.delays PLAYER_LIMIT None c.loop-place.invariant.0
    (λ k l. c.loop-place.invariant.1 k (omega (arith, l)))
