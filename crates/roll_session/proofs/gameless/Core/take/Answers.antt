use Rattle.std.proofs.Common.{inl}
use Rattle.roll_session.specs.Gameless.{still}
use Rattle.roll_session.proofs.Answering.{taken_replied}
use Rattle.roll_session.proofs.gameless.Core.take.Goals as goal

pub returns-in-Taken-clause-answered : goal.returns-in-Taken-clause-answered
returns-in-Taken-clause-answered g c =
    inl (taken_replied still c.args.self.now.seen c.admit.new.self.seen c.apply_input.new.self.seen c.args.call c.requires.input (rw c.in-Taken.is at c.in_ok-admit.ensures.heard) c.apply_input.ensures.taken)

pub returns-in-Taken-clause-keeps : goal.returns-in-Taken-clause-keeps
returns-in-Taken-clause-keeps g c = rw c.admit.ensures.saves at c.apply_input.ensures.keeps
