use Rattle.std.proofs.Common.{arith, None}
use Rattle.std.proofs.lemmas.List.FromFn.{fill_by_all}
use Rattle.roll_mesh.specs.declared.limits.TheConstants.{PLAYER_LIMIT}
use Rattle.roll_peer.specs.Marks.{told_at}
use Rattle.roll_peer.proofs.Marked.{told_spelled}
use Rattle.roll_peer.proofs.peer.Peer.told_with.Goals as goal

pub returns-clause-told : goal.returns-clause-told
returns-clause-told c =
    fill_by_all (told_at c.args.self.now.member.mesh.machine.has c.args.self.now.marks c.args.told.now) c.loop-player.marks PLAYER_LIMIT None c.loop-player.invariant.0
    (λ p l. c.loop-player.invariant.1 p (omega (arith, l)))

pub returns-clause-spelled : goal.returns-clause-spelled
returns-clause-spelled c =
    rw (returns-clause-told c)
    (told_spelled c.args.self.now.member.mesh.machine.has c.args.self.now.marks c.args.told.now (rw (← c.self.view_is) c.self.invariant.3) c.requires)
