use Rattle.std.proofs.Common.{◌≡◌, ◌∙◌, List, map, ap, sym, subst, false, length, arith}
use Rattle.std.proofs.lemmas.List.Elements.{All-rest, All-weaker}
use Rattle.std.specs.Prelude.{is_ok, All}
use Rattle.roll_link.specs.Rings.{Ring}
use Rattle.roll_session.proofs.Headlines.{not_ok}
use Rattle.roll_host.proofs.Headlines.{headline_short, headline_to}
use Rattle.roll_host.proofs.Running.{done_more, own_after, rings_more}
use Rattle.roll_host.specs.Hosted.{rings_of}
use Rattle.roll_host.specs.Requests.{rings_after, EndsOwn}
use Rattle.roll_host.proofs.host.Host.run.Goals as goal

pub loop-request-preserved : goal.loop-request-preserved
loop-request-preserved g c =
    let now = c.loop-request.invariant in
    record {
      done =
          done_more g.G.Game.step c.args.self.now c.args.requests.now.items c.args.replies.now.items c.loop-request.self c.perform.new.self c.loop-request.requests.items c.pop_front.new.self.items c.loop-request.replies.items c.push_reserved.new.self.items
          c.in-Some.request c.in_ok-reply.reply c.in-Some.ensures.items c.push_reserved.ensures.items now.done c.in_ok-reply.ensures.done;
      rings =
          c.in_ok-reply.ensures.rings ∙ ap (λ (rs : List Ring). rings_after rs c.in_ok-reply.reply) now.rings
          ∙ sym (rings_more (rings_of c.args.self.now.links) c.args.replies.now.items (map (λ e. e.reply) now.done.exchanges) c.loop-request.replies.items c.push_reserved.new.self.items c.in_ok-reply.reply now.done.replies c.push_reserved.ensures.items);
      ends =
          subst (λ (rs : List Ring). All (EndsOwn rs) c.pop_front.new.self.items) (sym c.in_ok-reply.ensures.rings)
          (All-weaker (EndsOwn (rings_of c.loop-request.self.links)) (EndsOwn (rings_after (rings_of c.loop-request.self.links) c.in_ok-reply.reply)) (own_after (rings_of c.loop-request.self.links) c.in_ok-reply.reply) c.pop_front.new.self.items
          (All-rest (EndsOwn (rings_of c.loop-request.self.links)) c.in-Some.request c.pop_front.new.self.items c.loop-request.requests.items c.in-Some.ensures.items now.ends));
      places = c.perform.ensures.places ∙ now.places;
      room = omega (arith, now.room, ap (λ rs. length rs) c.in-Some.ensures.items, c.push_reserved.ensures.len, c.push_reserved.ensures.capacity);
    }

pub returns-clause-headline : goal.returns-clause-headline
returns-clause-headline g c =
    let logged = rw c.session.ensures at c.laws.ensures.log in
    headline_to g.G.Game.step c.args.self.now logged c.args.requests.now.items c.args.replies.now.items c.loop-request.replies.items c.loop-request.self c.pop_front.new.self.items c.loop-request.requests.items c.loop-request.invariant.done
    c.in_default.ensures.items

pub returns-in_err-reply-clause-headline : goal.returns-in_err-reply-clause-headline
returns-in_err-reply-clause-headline g c =
    let logged = rw c.session.ensures at c.laws.ensures.log in
    let fails : is_ok c.from_residual.result ≡ false = not_ok c.from_residual.result c.from_residual.ensures.0 in
    rw fails
    (headline_short g.G.Game.step c.args.self.now logged c.args.requests.now.items c.args.replies.now.items c.loop-request.replies.items c.loop-request.self c.perform.new.self c.in-Some.request c.pop_front.new.self.items c.loop-request.requests.items
    c.loop-request.invariant.done c.in-Some.ensures.items c.in_err-reply.ensures.short)
