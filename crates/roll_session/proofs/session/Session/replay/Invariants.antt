use Rattle.std.proofs.Common.{take}
use Rattle.roll_session.specs.Replaying.{IsReplayed}
use Rattle.roll_session.proofs.session.Session.replay.Given as goal

abbrev pub invariant-loop-place : goal.invariant-loop-place
invariant-loop-place g l = IsReplayed g.G.Game.step l.fn.self l.self (take l.place l.log.entries)
