use Rattle.std.proofs.Common.{List, ℕ, subst}
use Rattle.std.specs.Prelude.{slice_index_or, length, ◌-◌}
use Rattle.roll_guess.specs.Guesses.{AreOffered}
use Rattle.roll_guess.specs.PartGuesses.{worth_by_parts, IsPartChange}
use Rattle.roll_guess.proofs.part_habits.PartHabits.offer_wider_changes.Goals as goal

pub returns : goal.returns
returns c =
    let habits = c.args.self.now in
    let view = c.args.view.now in
    let words = c.args.words.now in
    subst (λ (ws : List ℕ). AreOffered (worth_by_parts habits view) view
    (IsPartChange habits.parts.items ws (slice_index_or words (length words - 1) 0))
    c.args.ranking.now.items c.offer_changes_of.new.ranking.items)
    c.along-course.ensures.words c.offer_changes_of.ensures
