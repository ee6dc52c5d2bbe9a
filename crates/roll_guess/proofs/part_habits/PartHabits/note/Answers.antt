use Rattle.std.proofs.Common.{length, ◌<◌, arith}
use Rattle.std.proofs.lemmas.List.{get_or_default}
use Rattle.std.proofs.lemmas.List.Edits.{map_over_more}
use Rattle.roll_guess.specs.Parts.{part_noted}
use Rattle.roll_guess.proofs.part_habits.PartHabits.note.Goals as goal

pub loop-part-preserved : goal.loop-part-preserved
loop-part-preserved c =
    let l = c.loop-part in
    let there : l.part-index < length l.part-items = omega arith in
    rw c.note.ensures
    (map_over_more (part_noted c.args.word) c.deref_mut-part-items.result.now l.part-items l.part-index _
    c.loop-part-test.true l.invariant (get_or_default l.part-items l.part-index _ _ there))
