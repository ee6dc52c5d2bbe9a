use Rattle.std.proofs.Common.{◌∙◌, [], ap, sym, subst}
use Rattle.roll_chain.specs.Chains.{settings_in}
use Rattle.roll_peer.specs.Following.{IsFollowedAs}
use Rattle.roll_game.specs.Counts.{no_calls}
use Rattle.roll_session.specs.Gameless.{with_game}
use Rattle.roll_session.specs.Seen.{Seen}
use Rattle.roll_chain.specs.GoingOnHere.{IsStartedFrom}
use Rattle.roll_chain.proofs.going_on_here.follow.Goals as goal

pub returns-clause-goes_on : goal.returns-clause-goes_on
returns-clause-goes_on g c =
    let o = c.args.opening.now in
    let started = sym c.replace.ensures.after in
    record {
      starts = subst (λ (s : Seen). IsStartedFrom g.G.Game.step o c.args.session.now s) started c.in-Ok.ensures.started;
      follows =
          subst (λ (s : Seen). IsFollowedAs s (settings_in c.args.chain.now o.terms) c.args.peer.now o.seating c.follow.new.peer) started
          c.in-Ok-follow.ensures.followed;
      chain = c.in-Ok-follow.ensures.chain;
      carries = c.replace-2.ensures.after ∙ c.in-Ok-open.ensures;
      past_peer = c.in-Ok-follow.ensures.past;
      past_relay = c.replace-2.ensures.value;
      past_session = c.into_parts-parts.ensures.core ∙ ap (with_game [] no_calls) c.replace.ensures.value;
    }
