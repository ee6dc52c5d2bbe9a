use Rattle.std.proofs.Common.{◌==◌, ◌++◌, ◌∙◌, [], ◌∷◌, inl, inr, sym, length, rules, tests, arith}
use Rattle.std.specs.Fmt.{decimal}
use Rattle.std.proofs.lemmas.Iterator.Consumers.{YieldsList-at, YieldsList-turn, YieldsList-end, YieldsList-so_far}
use Rattle.std.proofs.lemmas.Iterator.Splits.{YieldsList-from_slice_split}
use Rattle.std.proofs.lemmas.List.{get_or_default, map-append}
use Rattle.prog_scripts.specs.Diagnoses.{parts}
use Rattle.prog_scripts.proofs.Diagnosed.{stands_at}
use Rattle.prog_scripts.proofs.Rising.{last_of-more, not_rising, rising_more}
use Rattle.prog_scripts.proofs.lines.players_fault.Goals as goal

pub returns-in_default : goal.returns-in_default
returns-in_default c =
    inl (
      c.in-Some.part.now,
      stands_at (parts c.args.field.now) _ _ (YieldsList-turn
          (YieldsList-at c.into_iter-part-iterator.ensures.into_iter_gives (YieldsList-from_slice_split _ (λ b. b == 44) c.args.field.now c.split-part-items.ensures.rest c.split-part-items.ensures.done c.split-part-items.ensures.closure (λ x r q k. search (rules, tests))))
          c.loop-part.yielded _ c.loop-part.yielded_by _ _ c.in-Some.part c.in-Some.is c.next.ensures.steps),
      inl c.no_number.ensures,
    )

pub returns-in-Some-range_fault : goal.returns-in-Some-range_fault
returns-in-Some-range_fault c =
    inl (
      c.in-Some.part.now,
      stands_at (parts c.args.field.now) _ _ (YieldsList-turn
          (YieldsList-at c.into_iter-part-iterator.ensures.into_iter_gives (YieldsList-from_slice_split _ (λ b. b == 44) c.args.field.now c.split-part-items.ensures.rest c.split-part-items.ensures.done c.split-part-items.ensures.closure (λ x r q k. search (rules, tests))))
          c.loop-part.yielded _ c.loop-part.yielded_by _ _ c.in-Some.part c.in-Some.is c.next.ensures.steps),
      inr (c.in-Some-number.found, c.in-Some-number.ensures.0, c.in-Some-number.ensures.1, c.in-Some-range_fault.ensures),
    )

pub returns-then-found-before : goal.returns-then-found-before
returns-then-found-before c =
    let turn = YieldsList-turn
    (YieldsList-at c.into_iter-part-iterator.ensures.into_iter_gives (YieldsList-from_slice_split _ (λ b. b == 44) c.args.field.now c.split-part-items.ensures.rest c.split-part-items.ensures.done c.split-part-items.ensures.closure (λ x r q k. search (rules, tests))))
    c.loop-part.yielded _ c.loop-part.yielded_by _ _ c.in-Some.part c.in-Some.is c.next.ensures.steps in
    let so_far = YieldsList-so_far
    (YieldsList-at c.into_iter-part-iterator.ensures.into_iter_gives (YieldsList-from_slice_split _ (λ b. b == 44) c.args.field.now c.split-part-items.ensures.rest c.split-part-items.ensures.done c.split-part-items.ensures.closure (λ x r q k. search (rules, tests))))
    c.loop-part.yielded _ c.loop-part.yielded_by in
    inr (not_rising (parts c.args.field.now) c.loop-part.invariant.0 (length c.loop-part.yielded) c.in-Some-number.found c.loop-part.before
    (c.loop-part.invariant.2 ∙ so_far) turn.0
    (get_or_default (parts c.args.field.now) (length c.loop-part.yielded) [] c.in-Some.part.now turn.0 ∙ sym turn.1 ∙ c.in-Some-number.ensures.1)
    c.loop-part.invariant.3 (omega arith) (omega arith))

pub loop-part-preserved : goal.loop-part-preserved
loop-part-preserved c =
    let players = c.loop-part.invariant.0 in
    let found = c.in-Some-number.found in (
      players ++ found ∷ [],
      rising_more 0 found players c.loop-part.invariant.1 (omega arith) (omega arith),
      map-append decimal players (found ∷ []) ∙ (λ i. c.loop-part.invariant.2 i ++ sym c.in-Some-number.ensures.1 i ∷ []) ∙ sym (map-append (λ part. part.now) c.loop-part.yielded (c.in-Some.part ∷ [])),
      sym (last_of-more 0 found players),
    )

pub returns : goal.returns
returns c =
    let ended = YieldsList-end
    (YieldsList-at c.into_iter-part-iterator.ensures.into_iter_gives (YieldsList-from_slice_split _ (λ b. b == 44) c.args.field.now c.split-part-items.ensures.rest c.split-part-items.ensures.done c.split-part-items.ensures.closure (λ x r q k. search (rules, tests))))
    c.loop-part.yielded _ c.loop-part.yielded_by _ _ c.in-None.is c.next.ensures.steps in
    (c.loop-part.invariant.0, c.loop-part.invariant.1, sym (c.loop-part.invariant.2 ∙ ended.0))
