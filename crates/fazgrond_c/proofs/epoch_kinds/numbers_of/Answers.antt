use Rattle.std.proofs.Common.{arith}
use Rattle.std.proofs.lemmas.List.FromFn.{fill_by_all}
use Rattle.roll_mesh.specs.declared.limits.TheConstants.{PLAYER_LIMIT}
use Rattle.std.specs.Prelude.{slice_index}
use Rattle.fazgrond_c.proofs.epoch_kinds.numbers_of.Goals as goal

pub returns : goal.returns
returns c =
    fill_by_all (slice_index c.args.bytes.now) c.loop-place.numbers PLAYER_LIMIT 0 c.loop-place.invariant.0
    (λ k l. c.loop-place.invariant.1 k (omega (arith, l)))
