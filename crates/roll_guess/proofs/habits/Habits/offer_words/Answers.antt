use Rattle.std.proofs.Common.{◌≡◌, ◌≢◌, ◌≤◌, ◌<◌, ℕ, List, [], ◌∷◌, ◌++◌, length, get_or, ap, arith, subst, sym, ◌∙◌}
use Rattle.roll_guess.specs.Guesses.{worth_of, worth_of_words, AreOffered}
use Rattle.roll_guess.proofs.Turns.{turn_held, turn_more, turns_all}
use Rattle.roll_guess.proofs.habits.Habits.offer_words.Goals as goal
use Rattle.roll_guess.proofs.habits.Habits.offer_words.Goals.{then-word-course, else-word-course}

pub loop-word-preserved : goal.loop-word-preserved
loop-word-preserved c =
    let habits = c.args.self.now in
    let view = c.args.view.now in
    let known = habits.known.items in
    let words = c.args.course.now.words.items in
    let held = c.args.course.now.held.word in
    let i = c.loop-word.word-index in
    let before = c.loop-word.ranking.items in
    let is : c.as_slice-word-items.result.now ≡ known = c.as_slice-word-items.ensures.value in
    let within : i < length known = subst (λ (xs : List ℕ). i < length xs) is c.loop-word-test.true in
    elim c.if-word-course.branch [
      | then-word-course w ↦
          let other : get_or known i 0 ≢ held =
          subst (λ (xs : List ℕ). get_or xs i 0 ≢ held) is w.if-word-course.true in
          let new = w.offer.new.ranking.items in
          let one : AreOffered (worth_of_words habits view) view (λ next. next ≡ words ++ get_or known i 0 ∷ []) before new =
          subst (λ (ws : List ℕ). AreOffered (worth_of_words habits view) view (λ next. next ≡ ws) before new)
          (w.guess.ensures.words ∙ w.then-next.ensures.words ∙ ap (λ (xs : List ℕ). words ++ get_or xs i 0 ∷ []) is)
          (w.offer.ensures (worth_of_words habits view) view c.loop-word.invariant.ranked
          (w.guess.ensures.suits (worth_of_words habits view)
          (ap (λ chance. worth_of view (length w.then-next.result.words.items) chance) (sym w.then-next.ensures.course.chance)))) in
          rw w.ranking-is
          (turn_more known held words i 0 within habits view c.args.ranking.now.items before new c.loop-word.invariant
          other one)
      | else-word-course w ↦
          rw w.ranking-is
          (turn_held known held words i 0 within habits view c.args.ranking.now.items before c.loop-word.invariant
          (subst (λ (xs : List ℕ). get_or xs i 0 ≡ held) is w.if-word-course.false))
    ]

pub returns : goal.returns
returns c =
    let known = c.args.self.now.known.items in
    let i = c.loop-word.word-index in
    let is = c.as_slice-word-items.ensures.value in
    let from : length known ≤ i = subst (λ (xs : List ℕ). length xs ≤ i) is c.loop-word-test.false in
    let to : i ≤ length known = subst (λ (xs : List ℕ). i ≤ length xs) is c.loop-word.auto.word-index-end in
    turns_all c.args.self.now c.args.view.now c.args.course.now i c.requires.course (omega (arith, from, to))
    c.args.ranking.now.items c.loop-word.ranking.items c.loop-word.invariant
