use Rattle.std.proofs.Common.{◌≡◌, List, [], ap, false, sym, length, rules, subst, arith}
use Rattle.std.specs.Prelude.{is_ok}
use Rattle.roll_frame.specs.declared.reply.Reply.{Reply}
use Rattle.roll_session.specs.Requests.{IsDoneTo}
use Rattle.roll_session.proofs.Headlines.{headline_done, headline_short, not_ok}
use Rattle.roll_session.proofs.Runs.{done_more}
use Rattle.roll_session.proofs.session.Session.run.Goals as goal

pub loop-request-preserved : goal.loop-request-preserved
loop-request-preserved g c =
    let now = c.loop-request.invariant in
    let popped = c.in-Some.ensures.items in
    let to = subst (λ rs. IsDoneTo g.G.Game.step c.args.self.now c.loop-request.self c.args.requests.now.items rs c.args.replies.now.items c.loop-request.replies.items) popped now.done in
    record {
      done =
          subst (λ (rs : List Reply). IsDoneTo g.G.Game.step c.args.self.now c.perform.new.self c.args.requests.now.items c.pop_front.new.self.items c.args.replies.now.items rs) (sym c.push_reserved.ensures.items)
          (done_more g.G.Game.step c.args.self.now c.args.requests.now.items c.args.replies.now.items c.loop-request.self c.perform.new.self c.pop_front.new.self.items c.loop-request.replies.items c.in-Some.request c.in_ok-reply.reply to
          c.in_ok-reply.ensures.replied);
      room = omega (arith, now.room, ap (λ rs. length rs) popped, c.push_reserved.ensures.len, c.push_reserved.ensures.capacity);
    }

pub returns-clause-headline : goal.returns-clause-headline
returns-clause-headline g c =
    let none : c.loop-request.requests.items ≡ [] = search rules in
    headline_done g.G.Game.step c.args.self.now c.loop-request.self c.args.requests.now.items c.loop-request.requests.items c.args.replies.now.items c.loop-request.replies.items c.laws.ensures.log c.loop-request.invariant.done none

pub returns-in_err-reply-clause-headline : goal.returns-in_err-reply-clause-headline
returns-in_err-reply-clause-headline g c =
    let fails : is_ok c.from_residual.result ≡ false = not_ok c.from_residual.result c.from_residual.ensures.0 in
    rw fails
    (headline_short g.G.Game.step c.args.self.now c.perform.new.self c.args.requests.now.items c.pop_front.new.self.items c.args.replies.now.items c.loop-request.replies.items c.laws.ensures.log c.loop-request.self c.in-Some.request
    c.loop-request.requests.items c.loop-request.invariant.done c.in-Some.ensures.items c.in_err-reply.ensures.short)
