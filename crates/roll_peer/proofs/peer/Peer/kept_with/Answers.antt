use Rattle.std.proofs.Common.{arith, None}
use Rattle.std.proofs.lemmas.List.FromFn.{fill_by_all}
use Rattle.roll_mesh.specs.declared.limits.TheConstants.{PLAYER_LIMIT}
use Rattle.roll_peer.specs.Marks.{kept_at}
use Rattle.roll_peer.proofs.Marked.{kept_spelled}
use Rattle.roll_peer.proofs.peer.Peer.kept_with.Goals as goal

pub returns-clause-kept : goal.returns-clause-kept
returns-clause-kept c =
    fill_by_all (kept_at c.args.self.now.member.mesh.machine.has c.args.self.now.marks c.args.told.now) c.loop-player.marks PLAYER_LIMIT None c.loop-player.invariant.0
    (λ p l. c.loop-player.invariant.1 p (omega (arith, l)))

pub returns-clause-spelled : goal.returns-clause-spelled
returns-clause-spelled c =
    rw (returns-clause-kept c)
    (kept_spelled c.args.self.now.member.mesh.machine.has c.args.self.now.marks c.args.told.now (rw (← c.self.view_is) c.self.invariant.3) c.requires)
