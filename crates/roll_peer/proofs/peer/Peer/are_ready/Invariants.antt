use Rattle.std.proofs.Common.{◌≡◌, ℕ, ◌<◌, true}
use Rattle.roll_peer.specs.Turning.{is_ready_at}
use Rattle.roll_peer.proofs.peer.Peer.are_ready.Given as goal

abbrev pub invariant-loop-machine : goal.invariant-loop-machine
invariant-loop-machine l =
    (m : ℕ) → m < l.machine → is_ready_at l.self l.self.member.mesh m ≡ true
