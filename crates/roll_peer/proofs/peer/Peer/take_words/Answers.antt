use Rattle.std.proofs.Common.{◌≡◌, ◌∙◌, ap, subst, sym}
use Rattle.std.specs.Prelude.{is_some, not}
use Rattle.std.proofs.lemmas.Bool.{not-false, not-true}
use Rattle.roll_mesh.specs.Meshes.{hear_refusal, is_had}
use Rattle.roll_mesh.specs.declared.packet.Packet.{Packet}
use Rattle.roll_wire.specs.Spelling.{turn}
use Rattle.roll_peer.specs.Peered.{Peered}
use Rattle.roll_peer.specs.Receiving.{packet_of}
use Rattle.roll_peer.proofs.Heard.{heard_of}
use Rattle.roll_peer.proofs.peer.Peer.take_words.Goals as goal
use Rattle.roll_peer.proofs.peer.Peer.take_words.Goals.{in-Ok, in-Err}

pub returns-clause-had : goal.returns-clause-had
returns-clause-had g c =
    let packet : Packet = packet_of c.args.sender (turn c.args.play.now) in
    let same = ap (λ (p : Packet). hear_refusal c.self.inside.member.mesh p) c.requires.same in
    let why = subst (λ (peer : Peered). is_some (hear_refusal peer.member.mesh packet) ≡ not (is_had packet))
    (sym c.self.view_is) (heard_of c.args.self.now packet c.requires.listened c.requires.played) in
    elim c.match-hear.branch [
      | in-Ok w ↦ ap (λ o. is_some o) w.result-is
          ∙ sym (not-false (is_had packet) (sym why ∙ ap (λ o. is_some o) (sym same ∙ w.in-Ok.ensures.accepted)))
      | in-Err w ↦ ap (λ o. is_some o) w.result-is
          ∙ sym (not-true (is_had packet) (sym why ∙ ap (λ o. is_some o) (sym same ∙ w.in-Err.ensures.refused)))
    ]
