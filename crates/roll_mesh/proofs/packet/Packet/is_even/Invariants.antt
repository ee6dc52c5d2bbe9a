use Rattle.std.proofs.Common.{◌≡◌, ℕ, ◌<◌, true}
use Rattle.roll_mesh.specs.Groups.{is_even_at}
use Rattle.roll_mesh.proofs.packet.Packet.is_even.Given as goal

abbrev pub invariant-loop-player : goal.invariant-loop-player
invariant-loop-player l = (p : ℕ) → p < l.player → is_even_at l.seat l.self p ≡ true
