use Rattle.roll_session.specs.Standing.{settled_rows}
use Rattle.roll_spectate.proofs.Sending.{IsSentTo}
use Rattle.roll_spectate.proofs.feed.Feed.push.Given as goal

abbrev pub invariant-loop-sender : goal.invariant-loop-sender
invariant-loop-sender g l =
    IsSentTo (settled_rows (g.S.Networked.seen l.session).core) l.fn.self l.sender-items l.sender-index l.count
