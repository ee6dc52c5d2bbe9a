use Rattle.std.proofs.Common.{arith}
use Rattle.std.proofs.lemmas.List.FromFn.{fill_by_all}
use Rattle.roll_mesh.specs.declared.limits.TheConstants.{PLAYER_LIMIT}
use Rattle.fazgrond_c.specs.Matches.{of_player}
use Rattle.fazgrond_c.proofs.match_reads.of_players.Goals as goal

pub returns : goal.returns
returns c =
    fill_by_all (of_player c.args.row.now c.args.words) c.loop-place.players PLAYER_LIMIT 0 c.loop-place.invariant.0
    (λ k l. c.loop-place.invariant.1 k (omega (arith, l)))
