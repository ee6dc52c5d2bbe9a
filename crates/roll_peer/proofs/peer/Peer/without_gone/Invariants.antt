use Rattle.std.proofs.Common.{◌≡◌}
use Rattle.std.specs.List.{filter, range_with_len}
use Rattle.roll_peer.specs.Following.{begins_without}
use Rattle.roll_peer.specs.Peered.{without_all}
use Rattle.roll_peer.specs.Settings.{seat_of}
use Rattle.roll_peer.proofs.peer.Peer.without_gone.Given as goal

abbrev pub invariant-loop-machine : goal.invariant-loop-machine
invariant-loop-machine l =
    (l.member.mesh ≡ without_all (filter (begins_without l.self l.settings l.seating) (range_with_len 0 l.machine)) l.fn.member.mesh)
    × (l.member.limits ≡ l.fn.member.limits)
    × (l.member.mesh.seat ≡ seat_of l.settings)
