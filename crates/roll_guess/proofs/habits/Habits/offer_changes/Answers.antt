use Rattle.std.proofs.Common.{◌≡◌, ◌+◌, [], ◌∷◌, length, ◌∙◌, ap, arith}
use Rattle.std.proofs.lemmas.List.{length-append}
use Rattle.roll_guess.proofs.Changes.{change_none, changes_all, changes_more, holds_more, holds_start, IsChangeBefore}
use Rattle.roll_guess.proofs.Offers.{offered_none}
use Rattle.roll_guess.specs.Guesses.{worth_of_words}
use Rattle.roll_guess.proofs.habits.Habits.offer_changes.Goals as goal

pub loop-course-init : goal.loop-course-init
loop-course-init c =
    let habits = c.args.self.now in
    let start = c.args.course.words.items in
    record {
      course = c.requires.course;
      holds = holds_start habits c.args.course c.requires.course;
      within = omega arith;
      offered = offered_none (worth_of_words habits c.args.view.now) c.args.view.now (IsChangeBefore habits start (length start)) c.args.ranking.now.items
          c.requires.ranked (change_none habits start);
    }

pub loop-course-preserved : goal.loop-course-preserved
loop-course-preserved c =
    let habits = c.args.self.now in
    let start = c.args.course.words.items in
    let l = c.loop-course in
    let next = c.then-course.result in
    let one : length next.words.items ≡ length l.course.words.items + 1 =
    ap length c.then-course.ensures.words ∙ length-append l.course.words.items (l.course.held.word ∷ []) in
    record {
      course = c.then-course.ensures.course;
      holds = holds_more habits start l.course next l.invariant.holds c.then-course.ensures.words c.then-course.ensures.held;
      within = omega (arith, one);
      offered = changes_more habits c.args.view.now start c.args.ranking.now.items l.course next l.ranking.items
          c.offer_words.new.ranking.items l.invariant.course l.invariant.holds c.then-course.ensures.words l.invariant.offered
          c.offer_words.ensures;
    }

pub returns : goal.returns
returns c =
    let l = c.loop-course in
    changes_all c.args.self.now c.args.view.now c.args.course.words.items c.args.ranking.now.items
    (length l.course.words.items) l.ranking.items (omega arith) l.invariant.within l.invariant.offered
