use Rattle.std.proofs.Common.{subst}
use Rattle.roll_session.specs.Seen.{Seen}
use Rattle.roll_live.specs.Lives.{IsFarAt}
use Rattle.roll_live.proofs.Ending.{not_started, started_so}
use Rattle.roll_live.proofs.engine.push_live.Goals as goal

pub returns-in-Ok-clause-far : goal.returns-in-Ok-clause-far
returns-in-Ok-clause-far g c = λ line e.
    (c.in-Ok.session.counts, subst (λ (s : Seen). IsFarAt g.G.Game.step g.G.Shown.text_of s c.args.commands.now line) (started_so c.in-Ok.session c.args.settings (g.G.RawGame.snapshot_value c.args.opening) _ c.in-Ok.ensures.session) (c.play_session.ensures.far line e))

pub returns-in-Err-clause-written : goal.returns-in-Err-clause-written
returns-in-Err-clause-written g c =
    not_started g.G.Shown.text_of (record { opening = g.G.RawGame.snapshot_value c.args.opening; step = g.G.Game.step }) c.args.settings c.args.commands.now c.in-Err.fault.why c.args.out.now.items c.push_not_started.new.out.items c.push_not_started.result c.in-Err.ensures.refused c.push_not_started.ensures.written c.push_not_started.ensures.refused
