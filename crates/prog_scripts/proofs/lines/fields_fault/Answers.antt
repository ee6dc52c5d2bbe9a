use Rattle.std.proofs.Common.{◌≡◌, ◌==◌, ℕ, List, [], ◌∷◌, Bor, inl, inr, map, length, rules, tests, arith}
use Rattle.std.proofs.lemmas.Iterator.{YieldsList-from_slice, YieldsList-from_zip}
use Rattle.std.proofs.lemmas.Iterator.Consumers.{YieldsList-at, YieldsList-turn, YieldsList-end, YieldsList-so_far, count_from_yields_List}
use Rattle.std.proofs.lemmas.Iterator.Splits.{YieldsList-from_slice_split}
use Rattle.std.proofs.lemmas.List.{map-append}
use Rattle.std.proofs.lemmas.List.Elements.{All-push}
use Rattle.prog_scripts.specs.declared.lines.Item.{Item}
use Rattle.prog_scripts.specs.Diagnoses.{IsFit, fields}
use Rattle.prog_scripts.proofs.Diagnosed.{all_fit, at_place}
use Rattle.prog_scripts.proofs.Said.{fields_said}
use Rattle.prog_scripts.proofs.lines.fields_fault.Goals as goal

pub returns-in-Some-fault-clause-exact : goal.returns-in-Some-fault-clause-exact
returns-in-Some-fault-clause-exact c =
    let turn = YieldsList-turn
    (YieldsList-at c.into_iter-field-iterator.ensures.into_iter_gives (YieldsList-from_zip
    (YieldsList-at c.zip-field-items.ensures.first (YieldsList-from_slice_split _ (λ b. b == 32) c.args.line.now c.split.ensures.rest c.split.ensures.done c.split.ensures.closure (λ x r q k. search (rules, tests))))
    (YieldsList-from_slice c.args.items.now cc)))
    c.loop-field.yielded c.loop-field.field-iterator c.loop-field.yielded_by c.next.result c.next.new.self (c.in-Some.field, c.in-Some.item) c.in-Some.is c.next.ensures.steps in
    let so_far = YieldsList-so_far
    (YieldsList-at c.into_iter-field-iterator.ensures.into_iter_gives (YieldsList-from_zip
    (YieldsList-at c.zip-field-items.ensures.first (YieldsList-from_slice_split _ (λ b. b == 32) c.args.line.now c.split.ensures.rest c.split.ensures.done c.split.ensures.closure (λ x r q k. search (rules, tests))))
    (YieldsList-from_slice c.args.items.now cc)))
    c.loop-field.yielded c.loop-field.field-iterator c.loop-field.yielded_by in
    inl (at_place c.args.items.now c.args.line.now (length c.loop-field.yielded) c.in-Some.field.now c.in-Some.item.now c.in-Some-fault.fault
    turn (rw so_far at c.loop-field.invariant) c.in-Some-fault.ensures)

pub loop-field-preserved : goal.loop-field-preserved
loop-field-preserved c =
    let shown : Bor (List ℕ) × Bor Item → List ℕ × Item = λ pair. (pair.0.now, pair.1.now) in
    rw (map-append shown c.loop-field.yielded ((c.in-Some.field, c.in-Some.item) ∷ [])) (All-push (λ (pair : List ℕ × Item). IsFit pair.1 pair.0) (map shown c.loop-field.yielded) (c.in-Some.field.now, c.in-Some.item.now) c.loop-field.invariant c.in_default.ensures)

pub returns-then-found-wanted-clause-exact : goal.returns-then-found-wanted-clause-exact
returns-then-found-wanted-clause-exact c =
    let ended = YieldsList-end
    (YieldsList-at c.into_iter-field-iterator.ensures.into_iter_gives (YieldsList-from_zip
    (YieldsList-at c.zip-field-items.ensures.first (YieldsList-from_slice_split _ (λ b. b == 32) c.args.line.now c.split.ensures.rest c.split.ensures.done c.split.ensures.closure (λ x r q k. search (rules, tests))))
    (YieldsList-from_slice c.args.items.now cc)))
    c.loop-field.yielded c.loop-field.field-iterator c.loop-field.yielded_by c.next.result c.next.new.self c.in-None.is c.next.ensures.steps in
    let count : c.count-found.result ≡ length (fields c.args.line.now) =
    count_from_yields_List _ _ c.count-found.ensures.ran (YieldsList-from_slice_split _ (λ b. b == 32) c.args.line.now c.split-2.ensures.rest c.split-2.ensures.done c.split-2.ensures.closure (λ x r q k. search (rules, tests))) in
    all_fit c.args.items.now (fields c.args.line.now) (omega arith) (rw ended.0 at c.loop-field.invariant)

pub returns-else-found-wanted-clause-exact : goal.returns-else-found-wanted-clause-exact
returns-else-found-wanted-clause-exact c =
    inr (count_from_yields_List _ _ c.count-found.ensures.ran (YieldsList-from_slice_split _ (λ b. b == 32) c.args.line.now c.split-2.ensures.rest c.split-2.ensures.done c.split-2.ensures.closure (λ x r q k. search (rules, tests))), search rules, search rules)

pub returns-in-Some-fault-clause-said : goal.returns-in-Some-fault-clause-said
returns-in-Some-fault-clause-said c = fields_said c.args.items.now c.args.line.now c.in-Some-fault.fault (returns-in-Some-fault-clause-exact c)

pub returns-else-found-wanted-clause-said : goal.returns-else-found-wanted-clause-said
returns-else-found-wanted-clause-said c = fields_said c.args.items.now c.args.line.now _ (returns-else-found-wanted-clause-exact c)
