use Rattle.roll_frame.specs.declared.entry.Entry.TheVariants.{Remote}
use Rattle.roll_session.proofs.Changes.{heard_of}
use Rattle.roll_session.proofs.Hearing.{hears_answered}
use Rattle.roll_session.specs.Gameless.{still}
use Rattle.roll_session.proofs.networked.CoreNetworked.remote_input.Goals as goal

pub returns-clause-refused : goal.returns-clause-refused
returns-clause-refused g c =
    (heard_of still c.args.self.now.seen c.take.new.self.seen c.args.player c.args.frame c.args.word c.take.result c.take.ensures.answered).2

pub returns-clause-keeps : goal.returns-clause-keeps
returns-clause-keeps g c = record {
  hears = hears_answered still c.args.self.now.seen c.take.new.self.seen (Remote c.args.player c.args.frame c.args.word) _ tt c.take.ensures.answered;
  values = c.take.ensures.keeps;
}
