use Rattle.roll_session.proofs.Answering.{judged_word}
use Rattle.roll_session.proofs.saves.Saves.judge.Goals as goal

pub returns-in-Remote : goal.returns-in-Remote
returns-in-Remote g c =
    let r = c.in-Remote in
    let e = c.remote_reply.ensures in
    rw r.is (judged_word c.remote_reply.result _ _ e.heard e.accepted e.refused e.new)
