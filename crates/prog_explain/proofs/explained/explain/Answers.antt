use Rattle.std.proofs.Common.{ap}
use Rattle.std.specs.Prelude.{Err}
use Rattle.prog_explain.proofs.Unread.{ends_of_read, ends_unread}
use Rattle.prog_explain.proofs.explained.explain.Goals as goal

pub returns-in-Err-clause-ends : goal.returns-in-Err-clause-ends
returns-in-Err-clause-ends g c =
    ends_unread c.args.task (g.R.Read.remaining c.args.reader.now) (g.W.Write.contents c.args.writer.now) c.in-Err.fault c.from.result c.from-in-Err.result
    c.from.ensures c.from-in-Err.ensures (λ e. c.in-Err.ensures.long (ap Err e))

pub returns-in-Ok-clause-ends : goal.returns-in-Ok-clause-ends
returns-in-Ok-clause-ends g c =
    ends_of_read c.args.task (g.R.Read.remaining c.args.reader.now) (g.W.Write.contents c.args.writer.now) (g.W.Write.contents c.explain_text.new.writer)
    c.deref.result.now c.in-Ok.text.items c.explain_text.result c.deref.ensures.value c.in-Ok.ensures.all c.explain_text.ensures.ends
