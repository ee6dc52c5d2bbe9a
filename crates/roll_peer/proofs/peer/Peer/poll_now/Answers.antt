use Rattle.std.proofs.Common.{sym, subst}
use Rattle.roll_member.specs.Joined.{IsTied}
use Rattle.roll_peer.specs.Peered.{Peered}
use Rattle.roll_peer.proofs.Ties.{begun_tied, looked_tied}
use Rattle.roll_peer.proofs.peer.Peer.poll_now.Goals as goal

pub part-refusal-requires : goal.part-refusal-requires
part-refusal-requires g c =
    let s = g.S.Networked.seen c.args.session.now in
    let old : Peered = c.args.self.now in
    subst (λ (p : Peered). IsTied s p.member.mesh) (sym c.look_after.ensures)
    (looked_tied s old.clock.moment old.settings.machines _ old c.requires)

pub returns-clause-tied : goal.returns-clause-tied
returns-clause-tied g c =
    let after = g.S.Networked.seen c.part-refusal.new.session in
    subst (λ (p : Peered). IsTied after p.member.mesh) (sym c.begin.ensures)
    (begun_tied after c.part-refusal.new.self c.part-refusal.ensures.tied)
