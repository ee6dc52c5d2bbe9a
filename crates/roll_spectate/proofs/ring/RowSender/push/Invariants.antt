use Rattle.std.proofs.Common.{◌≡◌, ◌≤◌, ◌-◌, length}
use Rattle.roll_frame.specs.Core.{settled}
use Rattle.roll_session.specs.Standing.{settled_rows}
use Rattle.roll_spectate.specs.Sent.{IsFirstPart}
use Rattle.roll_spectate.proofs.ring.RowSender.push.Given as goal

abbrev pub invariant-loop-row : goal.invariant-loop-row
invariant-loop-row g l =
    (IsFirstPart l.fn.self.rows (settled_rows (g.S.Networked.seen l.session).core)
    → IsFirstPart l.self.rows (settled_rows (g.S.Networked.seen l.session).core))
    × IsFirstPart l.fn.self.rows l.self.rows × (l.from ≡ length l.fn.self.rows) × (l.from ≤ length l.self.rows) × (l.self.ring ≡ l.fn.self.ring)
    × (l.fn.self.taken ≤ l.self.taken)

abbrev pub decreases-loop-row : goal.decreases-loop-row
decreases-loop-row g l = settled (g.S.Networked.seen l.session).core - length l.self.rows
