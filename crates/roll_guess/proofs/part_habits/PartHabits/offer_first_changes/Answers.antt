use Rattle.std.proofs.Common.{◌≡◌, ◌+◌, ◌≤◌, ◌++◌, [], ◌∷◌, ℕ, List, length, ap, arith, subst, sym, ◌∙◌}
use Rattle.std.specs.Prelude.{replicate}
use Rattle.std.proofs.lemmas.List.{length-append, replicate_more}
use Rattle.roll_guess.specs.Guesses.{AreOffered}
use Rattle.roll_guess.specs.PartGuesses.{worth_by_parts, IsPartChange}
use Rattle.roll_guess.proofs.Ones.{changes_all, changes_more, changes_none, IsFirstChangeBefore}
use Rattle.roll_guess.proofs.part_habits.PartHabits.offer_first_changes.Goals as goal

pub loop-course-init : goal.loop-course-init
loop-course-init c =
    let habits = c.args.self.now in
    let words = c.start-course.ensures.words in
    let none : length c.start-course.result.words.items ≡ 0 = ap length words in
    record {
      course = c.start-course.ensures.course;
      words = words ∙ ap (λ n. replicate n habits.held) (sym none);
      within = omega (arith, none);
      offered = subst (λ n. AreOffered (worth_by_parts habits c.args.view.now) c.args.view.now (IsFirstChangeBefore habits n)
          c.args.ranking.now.items c.args.ranking.now.items) (sym none)
          (changes_none (worth_by_parts habits c.args.view.now) c.args.view.now habits c.args.ranking.now.items c.requires.ranked);
    }

pub loop-course-preserved : goal.loop-course-preserved
loop-course-preserved c =
    let habits = c.args.self.now in
    let view = c.args.view.now in
    let worths = worth_by_parts habits view in
    let l = c.loop-course in
    let old = l.course.words.items in
    let next = c.then-course.result.words.items in
    let between = l.ranking.items in
    let new = c.offer_changes_of.new.ranking.items in
    let words : next ≡ old ++ habits.held ∷ [] = c.then-course.ensures.words in
    let one : length next ≡ length old + 1 = ap length words ∙ length-append old (habits.held ∷ []) in
    record {
      course = c.then-course.ensures.course;
      words = words ∙ ap (λ (ws : List ℕ). ws ++ habits.held ∷ []) l.invariant.words ∙ replicate_more (length old) habits.held
          ∙ ap (λ n. replicate n habits.held) (sym one);
      within = omega (arith, one);
      offered = subst (λ n. AreOffered worths view (IsFirstChangeBefore habits n) c.args.ranking.now.items new) (sym one)
          (changes_more worths view habits (length old) c.args.ranking.now.items between new l.invariant.offered
          (subst (λ (ws : List ℕ). AreOffered worths view (IsPartChange habits.parts.items ws habits.held) between new)
          l.invariant.words c.offer_changes_of.ensures));
    }

pub returns : goal.returns
returns c =
    let l = c.loop-course in
    changes_all (worth_by_parts c.args.self.now c.args.view.now) c.args.view.now c.args.self.now
    (length l.course.words.items) c.args.ranking.now.items l.ranking.items (omega arith) l.invariant.offered
