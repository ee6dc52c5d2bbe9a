use Rattle.prog_explain.proofs.Unread.{ends_of_read}
use Rattle.prog_explain.proofs.pictured.show.Goals as goal

pub returns-in-Ok-clause-ends : goal.returns-in-Ok-clause-ends
returns-in-Ok-clause-ends g c =
    ends_of_read c.args.task (g.R.Read.remaining c.args.reader.now) (g.W.Write.contents c.args.writer.now) (g.W.Write.contents c.show_text.new.writer)
    c.deref.result.now c.in-Ok.text.items c.show_text.result c.deref.ensures.value c.in-Ok.ensures.all c.show_text.ensures.ends
