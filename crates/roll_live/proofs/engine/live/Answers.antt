use Rattle.std.proofs.Common.{inl, inr}
use Rattle.std.proofs.lemmas.Option.{IfSome_then}
use Rattle.prog_scripts.specs.Plays.{play_of}
use Rattle.prog_scripts.proofs.Engines.{plays_read, plays_unread}
use Rattle.roll_live.proofs.engine.live.Goals as goal

pub returns-in_err-script-clause-plays : goal.returns-in_err-script-clause-plays
returns-in_err-script-clause-plays g c =
    plays_unread (g.R.Read.remaining c.args.reader.now) (g.W.Write.contents c.args.writer.now) (g.W.Write.contents c.args.writer.now) c.read_script.result c.from_residual.result c.in_err-script.field-0.0 c.in_err-script.was c.from_residual.ensures.1 c.read_script.ensures.fault
    (λ line e. IfSome_then (g.R.Read.remaining c.args.reader.now) (c.read_script.ensures.unreadable line e) (λ text bad. inl bad))

pub returns-clause-plays : goal.returns-clause-plays
returns-clause-plays g c =
    let it = c.in_ok-script in
    plays_read (g.R.Read.remaining c.args.reader.now) (g.W.Write.contents c.args.writer.now) (g.W.Write.contents c.write_live.new.writer) c.write_live.result
    (IfSome_then (g.R.Read.remaining c.args.reader.now) it.ensures.spelled
    (λ text spelled whole refused writes. record { play = play_of it.script; fits = it.ensures.fits; spelled = spelled; written_is = writes }))
    (λ line e. IfSome_then (g.R.Read.remaining c.args.reader.now) it.ensures.spelled
    (λ text spelled. inr (record { play = play_of it.script; fits = it.ensures.fits; spelled = spelled; far = c.write_live.ensures.far line e })))
    c.write_live.ensures.outputs
