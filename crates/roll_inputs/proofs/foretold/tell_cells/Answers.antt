use Rattle.std.proofs.Common.{◌-◌, ℕ, ap, arith}
use Rattle.roll_frame.specs.declared.row.Cell.TheVariants.{Word}
use Rattle.roll_inputs.specs.declared.remote_word.RemoteWord.{RemoteWord}
use Rattle.roll_inputs.proofs.Told.{told-cell, told-cells, told-some, told-within}
use Rattle.roll_inputs.proofs.foretold.tell_cells.Goals as goal

abbrev none : RemoteWord
none = record { player = 0; frame = 0; word = 0 }

pub overflow_sub-place : goal.overflow_sub-place
overflow_sub-place c = omega (arith, c.from-place.ensures, told-some c.args.queues.now c.args.words.now c.requires.next c.loop-word.word-index c.args.frame none c.loop-word-test.true)

pub bounds-queues-place : goal.bounds-queues-place
bounds-queues-place c = omega (arith, c.from-place.ensures, told-within c.args.queues.now c.args.words.now c.requires.next c.loop-word.word-index c.args.frame none c.loop-word-test.true)

pub slice_copy_out-next_cell : goal.slice_copy_out-next_cell
slice_copy_out-next_cell c =
    omega (arith, c.from-place.ensures, told-cell c.args.queues.now c.args.words.now c.requires.next c.loop-word.word-index c.args.frame none c.loop-word-test.true c.loop-word.cells c.loop-word.invariant)

pub bounds-cells-place : goal.bounds-cells-place
bounds-cells-place c =
    omega (arith, c.from-place.ensures, told-cell c.args.queues.now c.args.words.now c.requires.next c.loop-word.word-index c.args.frame none c.loop-word-test.true c.loop-word.cells c.loop-word.invariant)

pub loop-word-preserved : goal.loop-word-preserved
loop-word-preserved c =
    let place = ap (λ (n : ℕ). n - 1) c.from-place.ensures in
    rw place
    (told-cells c.args.queues.now c.args.words.now c.requires.next c.loop-word.word-index c.args.frame none c.loop-word-test.true c.index-queues-place.result c.loop-word.cells c.next_cell.result (Word 0)
    (rw place at c.index-queues-place.is) c.loop-word.invariant (rw place at c.next_cell.ensures))
