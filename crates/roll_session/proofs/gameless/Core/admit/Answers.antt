use Rattle.std.proofs.Common.{◌∙◌, inl, sym}
use Rattle.roll_session.specs.Gameless.{still}
use Rattle.roll_session.proofs.Answering.{refused_replied}
use Rattle.roll_session.proofs.gameless.Core.admit.Goals as goal

pub returns-in-Err-clause-refused : goal.returns-in-Err-clause-refused
returns-in-Err-clause-refused g c = inl (refused_replied still c.args.self.now.seen c.args.call c.in-Err.why (sym c.in-Err.is ∙ c.judge.ensures))
