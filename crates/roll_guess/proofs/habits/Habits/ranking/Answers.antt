use Rattle.std.proofs.Common.{◌≡◌, ℕ, List, [], length, ◌∙◌, ap, arith, subst}
use Rattle.roll_guess.specs.Guesses.{worth_of_words, AreOffered, IsChange, IsChangeOrSecond}
use Rattle.roll_guess.specs.declared.ranking.Guess.{Guess}
use Rattle.roll_guess.proofs.Offers.{ranks_all}
use Rattle.roll_guess.proofs.Turns.{second_more, second_none, IsChangeOrSecondBefore}
use Rattle.roll_guess.proofs.habits.Habits.ranking.Goals as goal

pub loop-single-init : goal.loop-single-init
loop-single-init c =
    let habits = c.args.self.now in
    let view = c.args.view.now in
    let new = c.offer_changes-2.new.ranking.items in
    second_none habits view c.as_slice-single-items.result.now [] new
    (subst (λ (old : List Guess). AreOffered (worth_of_words habits view) view (IsChange habits view []) old new) c.new-ranking.ensures
    (subst (λ (ws : List ℕ). AreOffered (worth_of_words habits view) view (IsChange habits view ws) c.new-ranking.result.items new)
    c.start-2.ensures.words c.offer_changes-2.ensures))

pub loop-single-preserved : goal.loop-single-preserved
loop-single-preserved c =
    let habits = c.args.self.now in
    let view = c.args.view.now in
    let singles = c.as_slice-single-items.result.now in
    let i = c.loop-single.single-index in
    let between = c.loop-single.ranking.items in
    let new = c.offer_changes-in-loop-single.new.ranking.items in
    second_more habits view singles i c.single-item.result c.loop-single-test.true [] between new c.loop-single.invariant
    (subst (λ (ws : List ℕ). AreOffered (worth_of_words habits view) view (IsChange habits view ws) between new)
    (c.along-course.ensures.words ∙ c.as_slice.ensures.value ∙ ap (λ (g : Guess). g.words.items) c.single-item.is)
    c.offer_changes-in-loop-single.ensures)

pub returns : goal.returns
returns c =
    let habits = c.args.self.now in
    let view = c.args.view.now in
    let singles = c.offer_changes.new.ranking.items in
    let ranking = c.loop-single.ranking.items in
    let items = c.as_slice-single-items.result.now in
    let count : c.loop-single.single-index ≡ length items = omega arith in
    let is : items ≡ singles = c.as_slice-single-items.ensures.value in
    record {
      singles = singles;
      best = ranks_all (worth_of_words habits view) view (IsChange habits view []) singles
          (subst (λ (old : List Guess). AreOffered (worth_of_words habits view) view (IsChange habits view []) old singles) c.new-singles.ensures
          (subst (λ (ws : List ℕ). AreOffered (worth_of_words habits view) view (IsChange habits view ws) c.new-singles.result.items singles)
          c.start.ensures.words c.offer_changes.ensures));
      ranks = ranks_all (worth_of_words habits view) view (IsChangeOrSecond habits view singles) ranking
          (subst (λ (gs : List Guess). AreOffered (worth_of_words habits view) view (IsChangeOrSecondBefore habits view gs (length gs)) [] ranking) is
          (subst (λ (n : ℕ). AreOffered (worth_of_words habits view) view (IsChangeOrSecondBefore habits view items n) [] ranking) count
          c.loop-single.invariant));
    }
