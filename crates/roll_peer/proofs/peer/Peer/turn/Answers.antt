use Rattle.std.proofs.Common.{◌≡◌, Err}
use Rattle.roll_frame.specs.declared.refusal.Refusal.TheVariants.{NoMemory}
use Rattle.roll_peer.specs.declared.refusal.PeerRefusal.TheVariants.{Session}
use Rattle.roll_peer.proofs.Rolls.{rolls_told}
use Rattle.roll_peer.proofs.peer.Peer.turn.Goals as goal
use Rattle.roll_peer.proofs.peer.Peer.turn.Goals.{in-Ok, in-Err}

pub returns-clause-once : goal.returns-clause-once
returns-clause-once g c =
    let told : c.play.result ≡ Err NoMemory → c.match-play.result ≡ Err (Session NoMemory) = λ e.
    elim c.match-play.branch [
      | in-Ok w ↦ absurd (cc (e, w.in-Ok.is))
      | in-Err w ↦ cc (e, w.in-Err.is, w.result-is)
    ] in
    let only : c.match-play.result ≡ Err (Session NoMemory) → c.play.result ≡ Err NoMemory = λ e.
    elim c.match-play.branch [
      | in-Ok w ↦ absurd (cc (e, w.result-is))
      | in-Err w ↦ cc (e, w.in-Err.is, w.result-is)
    ] in
    record {
      between = c.poll.new.session;
      hears = c.in_ok-poll.ensures.keeps;
      rolls = rolls_told g.G.Game.step c.poll.new.session c.play.new.session _ _ told only c.play.ensures.once;
    }
