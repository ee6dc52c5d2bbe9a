use Rattle.std.proofs.Common.{◌≡◌, ◌≢◌, ◌≤◌, ◌<◌, ℕ, List, [], ◌∷◌, ◌++◌, length, get_or, ap, arith, subst, sym, ◌∙◌}
use Rattle.roll_guess.specs.Guesses.{worth_of, AreOffered}
use Rattle.roll_guess.specs.Parts.{changed}
use Rattle.roll_guess.specs.PartGuesses.{worth_by_parts, IsChangeTo}
use Rattle.roll_guess.proofs.Ones.{first_all, first_none, first_one, first_skip}
use Rattle.roll_guess.proofs.part_habits.PartHabits.offer_values.Goals as goal
use Rattle.roll_guess.proofs.part_habits.PartHabits.offer_values.Goals.{then-value-part, else-value-part}

pub loop-value-init : goal.loop-value-init
loop-value-init c =
    let part = c.args.part.now in
    first_none (worth_by_parts c.args.self.now c.args.view.now) c.args.view.now part.habits.known.items
    (IsChangeTo c.args.course.now.words.items c.args.word part) c.args.ranking.now.items c.requires.ranked

pub loop-value-preserved : goal.loop-value-preserved
loop-value-preserved c =
    let worths = worth_by_parts c.args.self.now c.args.view.now in
    let view = c.args.view.now in
    let part = c.args.part.now in
    let known = part.habits.known.items in
    let words = c.args.course.now.words.items in
    let word = c.args.word in
    let i = c.loop-value.value-index in
    let before = c.loop-value.ranking.items in
    let is : c.as_slice-value-items.result.now ≡ known = c.as_slice-value-items.ensures.value in
    let within : i < length known = subst (λ (xs : List ℕ). i < length xs) is c.loop-value-test.true in
    elim c.if-value-part.branch [
      | then-value-part w ↦
          let other : get_or known i 0 ≢ part.habits.held.word =
          subst (λ (xs : List ℕ). get_or xs i 0 ≢ part.habits.held.word) is w.if-value-part.true in
          let new = w.offer.new.ranking.items in
          let one : AreOffered worths view (λ next. next ≡ words ++ changed part word (get_or known i 0) ∷ []) before new =
          subst (λ (ws : List ℕ). AreOffered worths view (λ next. next ≡ ws) before new)
          (w.guess.ensures.words ∙ w.then-next.ensures.words
          ∙ ap (λ (changed : ℕ). words ++ changed ∷ []) w.changed.ensures
          ∙ ap (λ (xs : List ℕ). words ++ changed part word (get_or xs i 0) ∷ []) is)
          (w.offer.ensures worths view c.loop-value.invariant.ranked
          (w.guess.ensures.suits worths
          (ap (λ (chance : ℕ). worth_of view (length w.then-next.result.words.items) chance)
          (sym w.then-next.ensures.course.chance)))) in
          rw w.ranking-is
          (first_one worths view known (IsChangeTo words word part) i 0 within c.args.ranking.now.items before new
          c.loop-value.invariant (words ++ changed part word (get_or known i 0) ∷ [])
          (λ next same. (other, same)) (λ next to. to.1) one)
      | else-value-part w ↦
          rw w.ranking-is
          (first_skip worths view known (IsChangeTo words word part) i 0 within c.args.ranking.now.items before
          c.loop-value.invariant
          (λ next to. to.0 (subst (λ (xs : List ℕ). get_or xs i 0 ≡ part.habits.held.word) is w.if-value-part.false)))
    ]

pub returns : goal.returns
returns c =
    let part = c.args.part.now in
    let known = part.habits.known.items in
    let i = c.loop-value.value-index in
    let is = c.as_slice-value-items.ensures.value in
    let from : length known ≤ i = subst (λ (xs : List ℕ). length xs ≤ i) is c.loop-value-test.false in
    let to : i ≤ length known = subst (λ (xs : List ℕ). i ≤ length xs) is c.loop-value.auto.value-index-end in
    first_all (worth_by_parts c.args.self.now c.args.view.now) c.args.view.now known
    (IsChangeTo c.args.course.now.words.items c.args.word part) i c.args.ranking.now.items c.loop-value.ranking.items
    (omega (arith, from, to)) c.loop-value.invariant
