use Rattle.std.proofs.lemmas.Option.{IfSome_then}
use Rattle.prog_scripts.proofs.Engines.{plays_written}
use Rattle.roll_cli.proofs.certificate.certify.Goals as goal

pub returns-clause-plays : goal.returns-clause-plays
returns-clause-plays g c =
    plays_written (g.R.Read.remaining c.args.reader.now) (g.W.Write.contents c.args.writer.now) (g.W.Write.contents c.write_answer.new.writer) _ c.write_answer.result
    (IfSome_then (g.R.Read.remaining c.args.reader.now) c.in_ok-claim.ensures.spelled
    (λ text spelled whole right answered. record { claim = c.in_ok-claim.claim; fits = c.in_ok-claim.ensures.fits; spelled = spelled; answered = answered }))
    c.write_answer.ensures.fault c.write_answer.ensures.outputs
