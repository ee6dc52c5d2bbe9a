use Rattle.std.proofs.Common.{arith, None}
use Rattle.std.proofs.lemmas.List.FromFn.{fill_by_all}
use Rattle.roll_mesh.specs.declared.limits.TheConstants.{PLAYER_LIMIT}
use Rattle.roll_peer.specs.Marks.{told_mark}
use Rattle.roll_peer.proofs.Marked.{told_all_spelled}
use Rattle.roll_peer.proofs.peer.Peer.told_marks.Goals as goal

pub returns-clause-marks : goal.returns-clause-marks
returns-clause-marks c =
    fill_by_all (told_mark c.args.offers.now c.args.self.now.member.mesh.machine.has c.args.self.now.marks) c.loop-player.marks PLAYER_LIMIT None
    c.loop-player.invariant.0 (λ p l. c.loop-player.invariant.1 p (omega (arith, l)))

pub returns-clause-spelled : goal.returns-clause-spelled
returns-clause-spelled c =
    rw (returns-clause-marks c)
    (told_all_spelled c.args.offers.now c.args.self.now.member.mesh.machine.has c.args.self.now.marks (rw (← c.self.view_is) c.self.invariant.3))
