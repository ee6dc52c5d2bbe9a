use Rattle.std.proofs.Common.{arith}
use Rattle.std.proofs.lemmas.List.FromFn.{fill_by_all}
use Rattle.roll_mesh.specs.declared.limits.TheConstants.{PLAYER_LIMIT}
use Rattle.fazgrond_c.specs.MatchKinds.{spread_at}
use Rattle.fazgrond_c.proofs.match_settings.spread.Goals as goal

pub returns : goal.returns
returns c =
    fill_by_all (spread_at c.args.players.now c.args.words) c.loop-place.spread PLAYER_LIMIT 0 c.loop-place.invariant.0
    (λ k l. c.loop-place.invariant.1 k (omega (arith, l)))
