use Rattle.std.proofs.Common.{◌≡◌, ap, subst}
use Rattle.std.proofs.lemmas.Result.{IfOk-weaker}
use Rattle.roll_session.specs.Seen.{Seen}
use Rattle.roll_host.specs.Hosted.{Hosted}
use Rattle.roll_live.specs.Lives.{IsFarAt}
use Rattle.roll_live.specs.Tellings.{IsLive}
use Rattle.roll_live.proofs.Headlines.{live_headline}
use Rattle.roll_live.proofs.engine.play_hosted.Goals as goal

pub returns-in-Ok-clause-far : goal.returns-in-Ok-clause-far
returns-in-Ok-clause-far g c = λ line e.
    let same : c.add_link.new.self.session ≡ c.args.host.session = ap (λ (h : Hosted _). h.session) c.in-Ok.ensures.added in
    subst (λ (s : Seen). IsFarAt g.G.Game.step g.G.Shown.text_of s c.args.commands.now line) same (c.play_all-played.ensures.far line e)

pub returns-in-Ok-clause-played : goal.returns-in-Ok-clause-played
returns-in-Ok-clause-played g c =
    let same : c.add_link.new.self.session ≡ c.args.host.session = ap (λ (h : Hosted _). h.session) c.in-Ok.ensures.added in
    let logged = rw c.session.ensures at c.laws.ensures.log in
    IfOk-weaker c.play_all-played.result _ _
    (λ refused h. (
      c.play_all-played.new.self.host.session,
      h.0,
      live_headline g.G.Game.step g.G.Shown.text_of c.args.host.session c.play_all-played.new.self.host.session c.args.commands.now h.0 refused logged
          (subst (λ (s : Seen). IsLive g.G.Game.step g.G.Shown.text_of s c.play_all-played.new.self.host.session c.args.commands.now h.0 refused) same h.1),
      h.2,
    ))
    c.play_all-played.ensures.played
