use Rattle.std.proofs.Common.{◌≡◌, ◌∙◌, ap, arith, length, true}
use Rattle.std.specs.Int.{is_in_range}
use Rattle.std.proofs.lemmas.Grind.{common_steps}
use Rattle.roll_frame.specs.Cells.{Rows}
use Rattle.roll_cli.specs.SyncTests.{sync_output}
use Rattle.prog_scripts.proofs.Engines.{outputs_weaker}
use Rattle.roll_cli.proofs.Tested.{told_of_game}
use Rattle.roll_cli.proofs.sync_test.write_duel_test.Goals as goal

pub returns-clause-outputs : goal.returns-clause-outputs
returns-clause-outputs g c =
    let within : is_in_range 2 4 c.args.file.now.players ≡ true = grind (arith, common_steps) in
    outputs_weaker (g.W.Write.contents c.args.writer.now) (g.W.Write.contents c.write_test.new.writer) c.write_test.result
    (λ whole well told.
    let said = told_of_game _ _ c.args.frames c.deref.result.now c.never_diverges.ensures whole well told in
    rw within (said.0 ∙ ap (λ (rows : Rows). sync_output c.args.frames (length rows)) c.deref.ensures.value, said.1))
    c.write_test.ensures.outputs
