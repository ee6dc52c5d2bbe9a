use Rattle.std.proofs.Common.{◌≡◌, ◌∙◌, ℕ, ap, Bool, subst}
use Rattle.std.specs.Prelude.{is_some}
use Rattle.roll_wire.specs.Spelling.{turn}
use Rattle.roll_peer.specs.CutOffs.{over_if}
use Rattle.roll_peer.specs.Peered.{contact_at, Peered}
use Rattle.roll_peer.specs.Receiving.{after_words, is_dropped, knowing, moment_of}
use Rattle.roll_peer.proofs.Heard.{turn_heard}
use Rattle.roll_peer.proofs.peer.Peer.hear_turn.Goals as goal

pub returns-clause-heard : goal.returns-clause-heard
returns-clause-heard g c =
    let s = g.S.Networked.seen c.args.session.now in
    let after = g.S.Networked.seen c.take_turn.new.session in
    let old : Peered = c.args.self.now in
    let mid : Peered = c.take_turn.new.self in
    let head = c.args.play.now.head in
    let by_frame = subst (λ (n : ℕ). c.know_turn.new.self
    ≡ knowing (turn c.args.play.now) c.args.sender
    (after_words c.is_some.result c.is_dropped-dropped.result head n (moment_of mid) (contact_at mid c.args.sender)) mid)
    c.frame-frame.ensures c.know_turn.ensures in
    let by_refusal = subst (λ (b : Bool). c.know_turn.new.self
    ≡ knowing (turn c.args.play.now) c.args.sender
    (after_words b c.is_dropped-dropped.result head s.core.frame (moment_of mid) (contact_at mid c.args.sender)) mid)
    c.is_some.ensures by_frame in
    let known = subst (λ (b : Bool). c.know_turn.new.self
    ≡ knowing (turn c.args.play.now) c.args.sender
    (after_words (is_some c.in_ok-taken.taken.refusal) b head s.core.frame (moment_of mid) (contact_at mid c.args.sender)) mid)
    c.is_dropped-dropped.ensures by_refusal in
    turn_heard g.S.Networked.step s after old mid c.know_turn.new.self _ c.args.sender
    (turn c.args.play.now) c.in_ok-taken.taken c.in_ok-taken.ensures.heard (c.take_turn.ensures.rest (ap is_some c.in_ok-taken.was))
    c.take_turn.ensures.limits known
    (c.end_if.ensures ∙ ap (λ (b : Bool). over_if b c.dispute.new.self) c.is_dropped-dropped.ensures
    ∙ ap (λ (p : Peered). over_if (is_dropped c.in_ok-taken.taken.heard) p) c.dispute.ensures)
