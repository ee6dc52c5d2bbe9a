use Rattle.std.proofs.Common.{◌≡◌, ◌++◌, codes, flat_map, take}
use Rattle.roll_duel.specs.Text.{ship_text}
use Rattle.roll_duel.proofs.text.push_ships.Given as goal

abbrev pub invariant-loop-ship : goal.invariant-loop-ship
invariant-loop-ship l = l.out.items ≡ l.initial.out.items ++ flat_map (λ ship. ship_text ship ++ codes " ") (take l.ship-index l.ships)
