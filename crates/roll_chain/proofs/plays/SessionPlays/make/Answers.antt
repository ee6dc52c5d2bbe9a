use Rattle.std.proofs.Common.{inl, inr, refl, subst}
use Rattle.roll_frame.specs.declared.refusal.Refusal.TheVariants.{NoMemory}
use Rattle.roll_frame.specs.declared.reply.Reply.{Reply}
use Rattle.roll_session.specs.Answered.{IsReplied}
use Rattle.roll_session.specs.Calls.{event_of}
use Rattle.roll_chain.proofs.plays.SessionPlays.make.Goals as goal

pub returns-in-Ok-Refused-clause-declined : goal.returns-in-Ok-Refused-clause-declined
returns-in-Ok-Refused-clause-declined g c = record {
  why = c.in-Ok-Refused.field-0-0;
  answered = inl (subst (λ (said : Reply). IsReplied g.G.Game.step c.args.self.now c.perform.new.self (event_of c.args.call) said)
      c.in-Ok-Refused.field-0-is c.in-Ok-Refused.ensures.replied);
}

pub returns-in-Err-clause-declined : goal.returns-in-Err-clause-declined
returns-in-Err-clause-declined g c = record { why = NoMemory; answered = inr (refl, c.in-Err.ensures.short) }
