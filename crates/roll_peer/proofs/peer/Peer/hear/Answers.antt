use Rattle.std.proofs.Common.{sym, subst}
use Rattle.roll_member.proofs.Tied.{leave_tied}
use Rattle.roll_member.specs.Joined.{IsTied}
use Rattle.roll_peer.specs.Peered.{Peered}
use Rattle.roll_peer.proofs.peer.Peer.hear.Goals as goal

pub returns-in-Bye-clause-tied : goal.returns-in-Bye-clause-tied
returns-in-Bye-clause-tied g c =
    let s = g.S.Networked.seen c.args.session.now in
    subst (λ (p : Peered). IsTied s p.member.mesh) (sym c.hear_bye.ensures)
    (leave_tied s c.args.self.now.member.mesh c.args.sender c.requires.tied)
