use Rattle.std.proofs.Common.{◌≡◌, ap, false, length, arith}
use Rattle.std.specs.Prelude.{is_ok}
use Rattle.roll_session.proofs.Headlines.{not_ok}
use Rattle.roll_peer.specs.Requests.{Beside}
use Rattle.roll_peer.proofs.Running.{done_more, done_none, headline_short, headline_to}
use Rattle.roll_peer.proofs.peer.Peer.run.Goals as goal

pub loop-request-init : goal.loop-request-init
loop-request-init g c =
    let here : Beside = record { session = c.args.session.now; peer = c.args.self.now } in
    record { done = done_none g.G.Game.step here c.args.requests.now.items c.args.replies.now.items; room = c.requires }

pub loop-request-preserved : goal.loop-request-preserved
loop-request-preserved g c =
    let now = c.loop-request.invariant in
    let here : Beside = record { session = c.args.session.now; peer = c.args.self.now } in
    let mid : Beside = record { session = c.loop-request.session; peer = c.loop-request.self } in
    let new : Beside = record { session = c.perform.new.session; peer = c.perform.new.self } in
    record {
      done =
          done_more g.G.Game.step here c.args.requests.now.items c.args.replies.now.items mid new c.loop-request.requests.items c.pop_front.new.self.items c.loop-request.replies.items c.push_reserved.new.self.items
          c.in-Some.request c.in_ok-reply.reply c.in-Some.ensures.items c.push_reserved.ensures.items now.done c.in_ok-reply.ensures.done;
      room = omega (arith, now.room, ap (λ rs. length rs) c.in-Some.ensures.items, c.push_reserved.ensures.len, c.push_reserved.ensures.capacity);
    }

pub returns : goal.returns
returns g c =
    let here : Beside = record { session = c.args.session.now; peer = c.args.self.now } in
    let mid : Beside = record { session = c.loop-request.session; peer = c.loop-request.self } in
    headline_to g.G.Game.step here c.args.requests.now.items c.args.replies.now.items c.laws.ensures.log mid c.pop_front.new.self.items c.loop-request.requests.items c.loop-request.replies.items c.loop-request.invariant.done c.in_default.ensures.items

pub returns-in_err-reply : goal.returns-in_err-reply
returns-in_err-reply g c =
    let here : Beside = record { session = c.args.session.now; peer = c.args.self.now } in
    let mid : Beside = record { session = c.loop-request.session; peer = c.loop-request.self } in
    let new : Beside = record { session = c.perform.new.session; peer = c.perform.new.self } in
    let fails : is_ok c.from_residual.result ≡ false = not_ok c.from_residual.result c.from_residual.ensures.0 in
    rw fails
    (headline_short g.G.Game.step here c.args.requests.now.items c.args.replies.now.items c.laws.ensures.log mid new c.in-Some.request c.pop_front.new.self.items c.loop-request.requests.items c.loop-request.replies.items
    c.loop-request.invariant.done c.in-Some.ensures.items c.in_err-reply.ensures.short)
