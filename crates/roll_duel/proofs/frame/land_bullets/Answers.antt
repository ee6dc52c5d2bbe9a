use Rattle.std.proofs.Common.{rules, ◌≡◌, ◌<◌, true, false, length, get_or, take, ◌∙◌, arith}
use Rattle.std.proofs.lemmas.List.Filters.{FiltersInPlace-more_set, FiltersInPlace-more_no}
use Rattle.roll_duel.specs.Bullets.{remains}
use Rattle.roll_duel.proofs.Strikes.{remains_is, read_same, struck_more, stays, stopped, spent, still_bullets}
use Rattle.roll_duel.proofs.frame.land_bullets.Goals as goal
use Rattle.roll_duel.proofs.frame.land_bullets.Goals.{then-not-strike+then-bullet-gt0, else-not-strike, else-not-strike-via-then-not-strike+else-bullet-gt0, else-not-strike-via-else-not-strike}

pub loop-index-preserved : goal.loop-index-preserved
loop-index-preserved c =
    let there : c.loop-index.index < length c.loop-index.bullets.items = search rules in
    let within : c.loop-index.index < length c.args.bullets.now.items = omega (arith, c.loop-index.invariant.kept.long) in
    let is : c.index.result.now ≡ get_or c.args.bullets.now.items c.loop-index.index c.index.result.now =
    c.index.ensures ∙ read_same c.args.bullets.now.items c.loop-index.bullets.items c.loop-index.index c.index.result.now c.loop-index.invariant.kept.rest in
    let remains_if = remains_is c.index.result.now (take c.loop-index.index c.args.bullets.now.items) c.args.ships.now.items c.loop-index.ships.items c.strike.result c.loop-index.invariant.struck_so_far c.strike.ensures.any in
    let more = struck_more c.args.bullets.now.items c.args.ships.now.items c.loop-index.ships.items c.strike.new.ships.items c.loop-index.index c.index.result.now within is c.loop-index.invariant.struck_so_far c.strike.ensures.value in
    elim c.if-not-strike.branch [
      | then-not-strike+then-bullet-gt0 w ↦
          let yes : remains c.args.ships.now.items c.index.result.now ≡ true = remains_if ∙ stays c.strike.result c.index.result.now.life w.if-not-strike.true w.if-bullet-gt0.true in
          record {
            kept = rw (w.bullets-is, w.kept-is) (FiltersInPlace-more_set c.loop-index.invariant.kept there yes c.index.ensures);
            struck_so_far = more;
            as_many = c.strike.ensures.as_many ∙ c.loop-index.invariant.as_many;
            ships_in = c.strike.ensures.ships_still_in;
            bullets_in = rw w.bullets-is (still_bullets c.loop-index.bullets.items c.loop-index.index c.loop-index.kept c.index.result.now c.loop-index.invariant.bullets_in there c.index.ensures);
          }
      | else-not-strike w ↦
          let vanishes : remains c.args.ships.now.items c.index.result.now ≡ false =
          elim w.else-not-strike.branch [
            | else-not-strike-via-then-not-strike+else-bullet-gt0 v ↦ remains_if ∙ spent c.strike.result c.index.result.now.life v.if-not-strike.true v.if-bullet-gt0.false
            | else-not-strike-via-else-not-strike v ↦ remains_if ∙ stopped c.strike.result c.index.result.now.life v.if-not-strike.false
          ] in
          record {
            kept = rw (w.bullets-is, w.kept-is) (FiltersInPlace-more_no c.loop-index.invariant.kept there vanishes c.index.ensures);
            struck_so_far = more;
            as_many = c.strike.ensures.as_many ∙ c.loop-index.invariant.as_many;
            ships_in = c.strike.ensures.ships_still_in;
            bullets_in = rw w.bullets-is c.loop-index.invariant.bullets_in;
          }
    ]
