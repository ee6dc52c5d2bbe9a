use Rattle.std.proofs.Common.{rules, ◌≡◌, ◌+◌, arith, ap, ◌∙◌}
use Rattle.std.proofs.lemmas.Grind.{elements}
use Rattle.roll_duel.specs.declared.pad.Pad.{Pad}
use Rattle.roll_duel.specs.Ships.{word_at, pad_of, ship_after, bullets_after}
use Rattle.roll_duel.proofs.Turns.{turn_more}
use Rattle.roll_duel.proofs.frame.run_ships.Goals as goal

pub loop-place-preserved : goal.loop-place-preserved
loop-place-preserved c =
    let ship_is : c.run_ship.new.ship ≡ ship_after (pad_of (word_at c.args.row.now c.loop-place.place)) c.loop-place.bullets.items c.index.result.now =
    c.in_ok-run_ship.ensures.ship ∙ ap (λ (pad : Pad). ship_after pad c.loop-place.bullets.items c.index.result.now) c.of_player.ensures in
    let bullets_are : c.run_ship.new.bullets.items ≡ bullets_after (pad_of (word_at c.args.row.now c.loop-place.place)) (c.loop-place.place + 1) c.index.result.now c.loop-place.bullets.items =
    c.in_ok-run_ship.ensures.bullets ∙ ap (λ (pad : Pad). bullets_after pad (c.loop-place.place + 1) c.index.result.now c.loop-place.bullets.items) c.of_player.ensures in
    record {
      whole = turn_more c.args.row.now c.loop-place.place c.loop-place.ships.items c.loop-place.bullets.items c.run_ship.new.bullets.items c.index.result.now c.run_ship.new.ship _ (search rules) c.index.ensures ship_is bullets_are c.loop-place.invariant.whole;
      as_many = search rules;
      few = c.run_ship.ensures.still_few;
      ships_in = grind (arith, elements);
      bullets_in = c.run_ship.ensures.bullets_still_in;
    }
