use Rattle.std.proofs.Common.{rules, ◌≡◌, ◌+◌, ◌<◌, false, length, get_or, take, sym, ap, ◌∙◌, arith}
use Rattle.roll_duel.specs.Bullets.{hit, hits_any}
use Rattle.roll_duel.proofs.Strikes.{missed_next, missed_all, hits_first}
use Rattle.std.proofs.lemmas.List.{take_all, get_or_default}
use Rattle.roll_duel.proofs.frame.strike.Goals as goal

pub returns-then-hits-clause-value : goal.returns-then-hits-clause-value
returns-then-hits-clause-value c =
    let same = c.loop-index.invariant.same in
    let l : c.loop-index.index < length c.args.ships.now.items = search rules in
    let is : c.index.result.now ≡ get_or c.args.ships.now.items c.loop-index.index c.index.result.now = cc in
    let first = hits_first c.args.bullet.now 1 (c.loop-index.index + 1) c.args.ships.now.items c.loop-index.index c.index.result.now l is (omega arith) (sym c.hits.ensures ∙ c.if-hits.true) c.loop-index.invariant.missed in
    let there : c.loop-index.index < length c.loop-index.ships.items = search rules in
    let one : c.index_mut.result.now ≡ c.index.result.now =
    c.index_mut.ensures.value ∙ get_or_default c.loop-index.ships.items c.loop-index.index c.index_mut.result.now c.index.result.now there ∙ sym c.index.ensures in
    let after : c.take_hit.new.self ≡ hit c.index.result.now = c.take_hit.ensures.value ∙ ap hit one in
    rw (same, after) (sym first.0)

pub returns-then-hits-clause-any : goal.returns-then-hits-clause-any
returns-then-hits-clause-any c =
    let same = c.loop-index.invariant.same in
    let l : c.loop-index.index < length c.args.ships.now.items = search rules in
    let is : c.index.result.now ≡ get_or c.args.ships.now.items c.loop-index.index c.index.result.now = cc in
    sym (hits_first c.args.bullet.now 1 (c.loop-index.index + 1) c.args.ships.now.items c.loop-index.index c.index.result.now l is (omega arith) (sym c.hits.ensures ∙ c.if-hits.true) c.loop-index.invariant.missed).1

pub loop-index-preserved : goal.loop-index-preserved
loop-index-preserved c =
    let same = c.loop-index.invariant.same in
    let l : c.loop-index.index < length c.args.ships.now.items = search rules in
    let is : c.index.result.now ≡ get_or c.args.ships.now.items c.loop-index.index c.index.result.now = cc in
    record {
      missed = missed_next c.args.bullet.now c.args.ships.now.items c.loop-index.index c.index.result.now l is (sym c.hits.ensures ∙ c.if-hits.false) c.loop-index.invariant.missed;
      same = c.loop-index.invariant.same;
      ships_in = c.loop-index.invariant.ships_in;
    }

pub returns-clause-value : goal.returns-clause-value
returns-clause-value c =
    let same = c.loop-index.invariant.same in
    let whole : take c.loop-index.index c.args.ships.now.items ≡ c.args.ships.now.items = take_all c.loop-index.index c.args.ships.now.items (search rules) in
    let none : hits_any c.args.bullet.now 1 c.args.ships.now.items ≡ false = cc in
    same ∙ sym (missed_all c.args.bullet.now 1 c.args.ships.now.items none)
