use Rattle.std.proofs.Common.{◌≡◌, ◌≤◌, ◌<◌, ℕ, List, length, get_or, ap, arith, subst, sym, ◌∙◌}
use Rattle.std.specs.Prelude.{bit_and}
use Rattle.std.proofs.lemmas.List.{get_or_default}
use Rattle.roll_guess.specs.Guesses.{AreOffered}
use Rattle.roll_guess.specs.PartGuesses.{worth_by_parts, IsChangeIn, IsValueChange}
use Rattle.roll_guess.specs.declared.part_habits.Part.{Part}
use Rattle.roll_guess.proofs.Offers.{offered_as}
use Rattle.roll_guess.proofs.Ones.{first_all, first_more, first_none, first_skip}
use Rattle.roll_guess.proofs.part_habits.PartHabits.offer_changes_of.Goals as goal
use Rattle.roll_guess.proofs.part_habits.PartHabits.offer_changes_of.Goals.{then-word-part, else-word-part}

pub loop-part-init : goal.loop-part-init
loop-part-init c =
    first_none (worth_by_parts c.args.self.now c.args.view.now) c.args.view.now c.args.self.now.parts.items
    (IsChangeIn c.args.course.now.words.items c.args.word) c.args.ranking.now.items c.requires.ranked

pub loop-part-preserved : goal.loop-part-preserved
loop-part-preserved c =
    let worths = worth_by_parts c.args.self.now c.args.view.now in
    let view = c.args.view.now in
    let parts = c.args.self.now.parts.items in
    let words = c.args.course.now.words.items in
    let word = c.args.word in
    let i = c.loop-part.part-index in
    let part = c.part-item.result in
    let before = c.loop-part.ranking.items in
    let is : c.as_slice-part-items.result.now ≡ parts = c.as_slice-part-items.ensures.value in
    let within : i < length parts = subst (λ (xs : List Part). i < length xs) is c.loop-part-test.true in
    let there : part ≡ get_or parts i part = c.part-item.is ∙ ap (λ (xs : List Part). get_or xs i part) is in
    elim c.if-word-part.branch [
      | then-word-part w ↦
          let new = w.offer_values.new.ranking.items in
          rw w.ranking-is
          (first_more worths view parts (IsChangeIn words word) i part within c.args.ranking.now.items before new
          c.loop-part.invariant
          (subst (λ (p : Part). AreOffered worths view (IsChangeIn words word p) before new) there
          (offered_as worths view (IsValueChange words word part) (IsChangeIn words word part) before new w.offer_values.ensures
          (λ next is. (w.if-word-part.true, is)) (λ next is. is.1))))
      | else-word-part w ↦
          rw w.ranking-is
          (first_skip worths view parts (IsChangeIn words word) i part within c.args.ranking.now.items before
          c.loop-part.invariant
          (λ next is. w.if-word-part.false
          (subst (λ (p : Part). bit_and word p.mask ≡ p.habits.held.word) (sym there) is.0)))
    ]

pub returns : goal.returns
returns c =
    let parts = c.args.self.now.parts.items in
    let i = c.loop-part.part-index in
    let is = c.as_slice-part-items.ensures.value in
    let from : length parts ≤ i = subst (λ (xs : List Part). length xs ≤ i) is c.loop-part-test.false in
    let to : i ≤ length parts = subst (λ (xs : List Part). i ≤ length xs) is c.loop-part.auto.part-index-end in
    first_all (worth_by_parts c.args.self.now c.args.view.now) c.args.view.now parts
    (IsChangeIn c.args.course.now.words.items c.args.word) i c.args.ranking.now.items c.loop-part.ranking.items
    (omega (arith, from, to)) c.loop-part.invariant
