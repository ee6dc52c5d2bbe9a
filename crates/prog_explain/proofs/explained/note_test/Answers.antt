use Rattle.prog_explain.proofs.Noting.{noted_start}
use Rattle.prog_explain.proofs.explained.note_test.Goals as goal

pub returns : goal.returns
returns g c =
    let told = c.note_not_started.ensures in
    noted_start c.note_not_started.result _ c.in-Err.fault.why _ _ c.in-Err.ensures.refused told.memory told.noted
