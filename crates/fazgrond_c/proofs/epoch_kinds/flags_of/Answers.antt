use Rattle.std.proofs.Common.{arith, false}
use Rattle.std.proofs.lemmas.List.FromFn.{fill_by_all}
use Rattle.roll_mesh.specs.declared.limits.TheConstants.{PLAYER_LIMIT}
use Rattle.fazgrond_c.specs.EpochKinds.{flag_at}
use Rattle.fazgrond_c.proofs.epoch_kinds.flags_of.Goals as goal

pub returns : goal.returns
returns c =
    fill_by_all (flag_at c.args.numbers.now) c.loop-place.flags PLAYER_LIMIT false c.loop-place.invariant.0
    (λ k l. c.loop-place.invariant.1 k (omega (arith, l)))
