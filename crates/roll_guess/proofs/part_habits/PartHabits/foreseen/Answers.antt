use Rattle.std.proofs.Common.{ℕ, sym, ap, ◌∙◌}
use Rattle.std.specs.Prelude.{bit_and}
use Rattle.roll_guess.specs.Habits.{portion}
use Rattle.roll_guess.specs.Players.{foreseen}
use Rattle.roll_guess.specs.declared.limits.TheConstants.{CERTAIN}
use Rattle.roll_guess.specs.declared.part_habits.Part.{Part}
use Rattle.roll_guess.proofs.Folds.{fold_more}
use Rattle.roll_guess.proofs.part_habits.PartHabits.foreseen.Goals as goal

pub loop-part-preserved : goal.loop-part-preserved
loop-part-preserved c =
    let next : ℕ → Part → ℕ = λ chance part. portion chance (foreseen part.habits (bit_and c.args.word part.mask)) in
    c.portion-chance.ensures ∙ ap (portion c.loop-part.chance) c.foreseen.ensures
    ∙ ap (λ chance. next chance c.part-item.result) c.loop-part.invariant
    ∙ ap (next _) c.part-item.is
    ∙ sym (fold_more next CERTAIN c.as_slice-part-items.result.now c.loop-part.part-index c.part-item.result c.loop-part-test.true)
