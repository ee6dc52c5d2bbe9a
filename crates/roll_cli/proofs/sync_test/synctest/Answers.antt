use Rattle.std.proofs.Common.{subst}
use Rattle.std.proofs.lemmas.Option.{IfSome_then}
use Rattle.std.proofs.lemmas.Result.{IfOk-weaker}
use Rattle.prog_scripts.specs.RowsFiles.{file_of}
use Rattle.roll_cli.specs.SyncTests.{IsTold}
use Rattle.prog_scripts.proofs.Engines.{plays_written}
use Rattle.roll_cli.proofs.Tested.{told_of_game}
use Rattle.roll_cli.proofs.sync_test.synctest.Goals as goal

pub returns-clause-plays : goal.returns-clause-plays
returns-clause-plays g c =
    plays_written (g.R.Read.remaining c.args.reader.now) (g.W.Write.contents c.args.writer.now) (g.W.Write.contents c.write_test.new.writer) _ c.write_test.result
    (IfSome_then (g.R.Read.remaining c.args.reader.now) c.in_ok-file.ensures.spelled
    (λ text spelled whole well told. record { file = file_of c.in_ok-file.file; fits = c.in_ok-file.ensures.fits; spelled = spelled; told = subst (λ rows. IsTold g.G.RawGame.ran (g.G.RawGame.snapshot_value c.args.opening) c.args.frames rows whole well) c.deref.ensures.value told }))
    c.write_test.ensures.fault c.write_test.ensures.outputs

pub returns-clause-game : goal.returns-clause-game
returns-clause-game g c = λ never.
    IfOk-weaker c.write_test.result _ _
    (λ well h. (told_of_game g.G.RawGame.ran (g.G.RawGame.snapshot_value c.args.opening) c.args.frames c.deref.result.now never h.0 well h.1).1) c.write_test.ensures.outputs.written
