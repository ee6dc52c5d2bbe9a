use Rattle.std.proofs.Common.{◌≡◌, ◌+◌, ◌<◌, ◌^◌, ℕ, None, take}
use Rattle.std.specs.Prelude.{◌==◌}
use Rattle.std.specs.Int.{bit_at}
use Rattle.std.specs.List.{list_any}
use Rattle.roll_frame.specs.Faults.{outside}
use Rattle.roll_frame.proofs.settings.local_bits.Given as goal

abbrev pub invariant-loop-player : goal.invariant-loop-player
invariant-loop-player l = record {
  bits : (place : ℕ) → place < 8 → (bit_at l.bits place == 1) ≡ list_any (λ p. p == place + 1) (take l.player-index l.local);
  small : l.bits < 2 ^ l.players;
  inside : outside l.players (take l.player-index l.local) ≡ None;
}
