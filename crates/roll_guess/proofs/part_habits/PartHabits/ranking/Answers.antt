use Rattle.std.proofs.Common.{◌≡◌, ℕ, List, [], inl, inr, ◌∙◌, ap, arith, subst}
use Rattle.std.specs.Prelude.{Any}
use Rattle.roll_guess.specs.Guesses.{AreOffered}
use Rattle.roll_guess.specs.PartGuesses.{worth_by_parts, IsFirstChange, IsFirstOrWider, IsWiderChange}
use Rattle.roll_guess.specs.declared.ranking.Guess.{Guess}
use Rattle.roll_guess.proofs.Offers.{offered_both, ranks_all}
use Rattle.roll_guess.proofs.Ones.{first_all, first_more, first_none, IsOfFirst}
use Rattle.roll_guess.proofs.part_habits.PartHabits.ranking.Goals as goal

pub loop-single-init : goal.loop-single-init
loop-single-init c =
    first_none (worth_by_parts c.args.self.now c.args.view.now) c.args.view.now c.as_slice-single-items.result.now
    (λ (single : Guess). IsWiderChange c.args.self.now single.words.items) c.offer_first_changes-2.new.ranking.items
    c.offer_first_changes-2.ensures.ranked

pub loop-single-preserved : goal.loop-single-preserved
loop-single-preserved c =
    let habits = c.args.self.now in
    let view = c.args.view.now in
    let worths = worth_by_parts habits view in
    let singles = c.as_slice-single-items.result.now in
    let i = c.loop-single.single-index in
    let between = c.loop-single.ranking.items in
    let new = c.offer_wider_changes.new.ranking.items in
    first_more worths view singles (λ (single : Guess). IsWiderChange habits single.words.items) i c.single-item.result
    c.loop-single-test.true c.offer_first_changes-2.new.ranking.items between new c.loop-single.invariant
    (subst (λ (ws : List ℕ). AreOffered worths view (IsWiderChange habits ws) between new)
    (c.as_slice.ensures.value ∙ ap (λ (g : Guess). g.words.items) c.single-item.is) c.offer_wider_changes.ensures)

pub returns : goal.returns
returns c =
    let habits = c.args.self.now in
    let view = c.args.view.now in
    let worths = worth_by_parts habits view in
    let singles = c.offer_first_changes.new.ranking.items in
    let firsts = c.offer_first_changes-2.new.ranking.items in
    let ranking = c.loop-single.ranking.items in
    let items = c.as_slice-single-items.result.now in
    let is : items ≡ singles = c.as_slice-single-items.ensures.value in
    let wider = first_all worths view items (λ (single : Guess). IsWiderChange habits single.words.items) c.loop-single.single-index
    firsts ranking (omega arith) c.loop-single.invariant in
    record {
      singles = singles;
      best = ranks_all worths view (IsFirstChange habits view) singles
          (subst (λ (old : List Guess). AreOffered worths view (IsFirstChange habits view) old singles) c.new-singles.ensures
          c.offer_first_changes.ensures);
      ranks = ranks_all worths view (IsFirstOrWider habits view singles) ranking
          (offered_both worths view (IsFirstChange habits view)
          (λ next. Any (λ (single : Guess). IsWiderChange habits single.words.items next) singles)
          (IsFirstOrWider habits view singles) [] firsts ranking
          (subst (λ (old : List Guess). AreOffered worths view (IsFirstChange habits view) old firsts) c.new-ranking.ensures
          c.offer_first_changes-2.ensures)
          (subst (λ (gs : List Guess). AreOffered worths view
          (λ next. Any (λ (single : Guess). IsWiderChange habits single.words.items next) gs) firsts ranking) is wider)
          (λ next first. inl first) (λ next wider. inr wider) (λ next is. is));
    }
