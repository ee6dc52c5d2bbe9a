use Rattle.std.proofs.Common.{◌∙◌}
use Rattle.roll_session.proofs.Bares.{roll_allowed}
use Rattle.roll_session.proofs.gameless.Core.look.Goals as goal

pub returns-clause-looked : goal.returns-clause-looked
returns-clause-looked g c =
    let let_in = roll_allowed c.args.self.now.seen c.admit.new.self.seen c.args.call c.in_ok-admit.field-0 c.requires c.in_ok-admit.ensures.heard in
    record { seen = c.begin.ensures.seen ∙ let_in.1; saves = rw c.admit.ensures.saves at c.begin.ensures.told }

pub returns-clause-way : goal.returns-clause-way
returns-clause-way g c =
    let let_in = roll_allowed c.args.self.now.seen c.admit.new.self.seen c.args.call c.in_ok-admit.field-0 c.requires c.in_ok-admit.ensures.heard in
    let seen = c.begin.ensures.seen ∙ let_in.1 in
    record {
      going = c.begin.ensures.going;
      to = rw seen (rw let_in.1 at c.begin.ensures.to);
      allowed = rw seen (record { new = let_in.0.new; accepted = let_in.0.accepted });
    }

pub returns-clause-from : goal.returns-clause-from
returns-clause-from g c =
    let let_in = roll_allowed c.args.self.now.seen c.admit.new.self.seen c.args.call c.in_ok-admit.field-0 c.requires c.in_ok-admit.ensures.heard in
    rw let_in.1 at c.begin.ensures.from
