use Rattle.std.proofs.Common.{◌≡◌, ◌++◌, ℕ, List, ap, subst}
use Rattle.std.specs.Prelude.{IfOk}
use Rattle.roll_session.specs.Seen.{Seen}
use Rattle.roll_host.specs.Hosted.{Hosted}
use Rattle.roll_live.specs.Headlines.{HasHeadline}
use Rattle.roll_live.specs.Lives.{IsFarAt}
use Rattle.roll_live.proofs.engine.play_session.Goals as goal

pub returns-in-Ok-with_workers-clause-far : goal.returns-in-Ok-with_workers-clause-far
returns-in-Ok-with_workers-clause-far g c = λ line e.
    let same : c.in-Ok-with_workers.host.session ≡ c.args.session = ap (λ (h : Hosted _). h.session) c.in-Ok-with_workers.ensures.host in
    subst (λ (s : Seen). IsFarAt g.G.Game.step g.G.Shown.text_of s c.args.commands.now line) same (c.play_hosted.ensures.far line e)

pub returns-in-Ok-with_workers-clause-played : goal.returns-in-Ok-with_workers-clause-played
returns-in-Ok-with_workers-clause-played g c =
    let same : c.in-Ok-with_workers.host.session ≡ c.args.session = ap (λ (h : Hosted _). h.session) c.in-Ok-with_workers.ensures.host in
    subst (λ (s : Seen). IfOk c.play_hosted.result (λ refused. (new : Seen) × (written : List ℕ) × HasHeadline g.G.Game.step g.G.Shown.text_of s new c.args.commands.now written refused × (c.play_hosted.new.out.items ≡ c.args.out.now.items ++ written))) same
    c.play_hosted.ensures.played
