use Rattle.std.proofs.Common.{◌==◌, refl}
use Rattle.prog_scripts.proofs.Engines.{plays_handed_on}
use Rattle.roll_cli.proofs.program.play_named.Goals as goal

pub returns-in_err-play_tally-in-Tally-clause-plays : goal.returns-in_err-play_tally-in-Tally-clause-plays
returns-in_err-play_tally-in-Tally-clause-plays g c =
    rw c.in-Tally.is
    (plays_handed_on (g.R.Read.remaining c.args.reader.now) (g.W.Write.contents c.args.writer.now) (g.W.Write.contents c.play_tally.new.writer) (λ n. n == 0) (λ text whole n is. (n, is.is_output, refl)) c.play_tally.result c.play_tally.ensures.plays
    c.from_residual.result c.in_err-play_tally-in-Tally.field-0.0 c.in_err-play_tally-in-Tally.was c.from_residual.ensures.1)

pub returns-in_err-play_duel-in-Duel-clause-plays : goal.returns-in_err-play_duel-in-Duel-clause-plays
returns-in_err-play_duel-in-Duel-clause-plays g c =
    rw c.in-Duel.is
    (plays_handed_on (g.R.Read.remaining c.args.reader.now) (g.W.Write.contents c.args.writer.now) (g.W.Write.contents c.play_duel.new.writer) (λ n. n == 0) (λ text whole n is. (n, is.is_output, refl)) c.play_duel.result c.play_duel.ensures.plays
    c.from_residual-in_err-play_duel-in-Duel.result c.in_err-play_duel-in-Duel.field-0.0 c.in_err-play_duel-in-Duel.was c.from_residual-in_err-play_duel-in-Duel.ensures.1)
