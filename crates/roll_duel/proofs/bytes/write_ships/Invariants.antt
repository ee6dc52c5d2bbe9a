use Rattle.std.proofs.Common.{◌≡◌, ◌++◌, take, flat_map}
use Rattle.roll_duel.specs.Bytes.{ship_bytes}
use Rattle.roll_duel.proofs.bytes.write_ships.Given as goal

abbrev pub invariant-loop-ship : goal.invariant-loop-ship
invariant-loop-ship l = l.bytes.items ≡ l.initial.bytes.items ++ flat_map ship_bytes (take l.ship-index l.ships)
