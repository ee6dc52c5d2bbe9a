use Rattle.std.proofs.Common.{map, refl, subst}
use Rattle.std.proofs.lemmas.Result.{IfOk-weaker}
use Rattle.roll_synctest.specs.Tests.{Tested}
use Rattle.roll_text.specs.Lines.{text_of}
use Rattle.roll_cli.specs.SyncTests.{AreSaid, verdict_line}
use Rattle.roll_cli.proofs.sync_test.push_test.Goals as goal

pub returns-in-Ok-clause-told : goal.returns-in-Ok-clause-told
returns-in-Ok-clause-told g c =
    IfOk-weaker c.push_verdicts.result _ _
    (λ well h.
    let said = subst (λ (t : Tested). AreSaid g.G.RawGame.ran t.second t.frames c.args.rows.now h.0 well) c.in-Ok.ensures.test h.1 in
    (text_of (map verdict_line h.0), rw c.in-Ok.ensures.accepted (h.0, refl, said), h.2))
    c.push_verdicts.ensures.said
