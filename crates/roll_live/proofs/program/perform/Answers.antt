use Rattle.std.proofs.Common.{◌≡◌, ℕ, [], ◌∷◌, ap, subst, inl, inr}
use Rattle.std.proofs.lemmas.Option.{IfSome_then}
use Rattle.roll_frame.specs.Games.{Game}
use Rattle.roll_game.specs.Shown.{tally_text}
use Rattle.roll_game.specs.Tally.{tally_step}
use Rattle.prog_scripts.specs.Engines.{Plays}
use Rattle.prog_scripts.specs.Plays.{play_of}
use Rattle.prog_scripts.specs.Output.{tally_game}
use Rattle.roll_live.specs.Lives.{IsFarOf, IsOutput, IsUnreadable, Writes}
use Rattle.prog_scripts.proofs.Engines.{plays_read, plays_unread}
use Rattle.roll_live.proofs.program.perform.Goals as goal

pub returns-in_err-script-in-Duel-clause-plays : goal.returns-in_err-script-in-Duel-clause-plays
returns-in_err-script-in-Duel-clause-plays g c =
    rw c.in-Duel.is
    (plays_unread (g.R.Read.remaining c.args.reader.now) (g.W.Write.contents c.args.writer.now) (g.W.Write.contents c.args.writer.now) c.read_script.result c.from_residual-in_err-script-in-Duel.result c.in_err-script-in-Duel.field-0.0 c.in_err-script-in-Duel.was c.from_residual-in_err-script-in-Duel.ensures.1 c.read_script.ensures.fault
    (λ line e. IfSome_then (g.R.Read.remaining c.args.reader.now) (c.read_script.ensures.unreadable line e) (λ text bad. inl bad)))

pub returns-in_ok-helpers-in-Tally-clause-plays : goal.returns-in_ok-helpers-in-Tally-clause-plays
returns-in_ok-helpers-in-Tally-clause-plays g c =
    let same : record { opening = c.opening.result ∷ []; step = tally_step } ≡ tally_game = ap (λ (n : ℕ). record { opening = n ∷ []; step = tally_step }) c.opening.ensures in
    rw c.in-Tally.is
    (subst (λ (game : Game). Plays (IsUnreadable (IsFarOf tally_text game)) (IsOutput (Writes tally_text game)) (g.R.Read.remaining c.args.reader.now) (g.W.Write.contents c.args.writer.now) (g.W.Write.contents c.live.new.writer) c.live.result) same c.live.ensures.plays)

pub returns-in_ok-script-in-Duel-clause-plays : goal.returns-in_ok-script-in-Duel-clause-plays
returns-in_ok-script-in-Duel-clause-plays g c =
    let it = c.in_ok-script-in-Duel in
    rw c.in-Duel.is
    (plays_read (g.R.Read.remaining c.args.reader.now) (g.W.Write.contents c.args.writer.now) (g.W.Write.contents c.write_duel.new.writer) c.write_duel.result
    (IfSome_then (g.R.Read.remaining c.args.reader.now) it.ensures.spelled
    (λ text spelled whole refused writes. record { play = play_of it.script; fits = it.ensures.fits; spelled = spelled; written_is = writes }))
    (λ line e. IfSome_then (g.R.Read.remaining c.args.reader.now) it.ensures.spelled
    (λ text spelled. inr (record { play = play_of it.script; fits = it.ensures.fits; spelled = spelled; far = c.write_duel.ensures.far line e })))
    c.write_duel.ensures.outputs)
