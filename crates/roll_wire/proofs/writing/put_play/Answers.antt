use Rattle.std.proofs.Common.{◌≡◌, ℕ, ◌<◌, ◌^◌, List, ◌++◌, subst}
use Rattle.std.specs.Prelude.{slice_index}
use Rattle.roll_wire.specs.Spelling.{head, marks, runs, turn}
use Rattle.roll_wire.proofs.Appends.{joined}
use Rattle.roll_wire.proofs.Wholes.{parts_of, turn_fits}
use Rattle.roll_wire.proofs.writing.put_play.Goals as goal

pub put_head-requires-clause-offers : goal.put_head-requires-clause-offers
put_head-requires-clause-offers c = (parts_of (turn c.args.play.now) c.requires.whole).offers

pub put_marks-requires-clause-spelled : goal.put_marks-requires-clause-spelled
put_marks-requires-clause-spelled c = (parts_of (turn c.args.play.now) c.requires.whole).spelled

pub returns-clause-items : goal.returns-clause-items
returns-clause-items c =
    let p = c.args.play.now in
    let words : c.put_words.new.out.items ≡ c.put_marks.new.out.items ++ runs p.words.items =
    rw (← c.as_slice.ensures.value) c.put_words.ensures.items in
    let marked = joined c.put_head.new.out.items c.put_marks.new.out.items c.put_words.new.out.items
    (marks p.marks) (runs p.words.items) c.put_marks.ensures.items words in
    joined c.args.out.now.items c.put_head.new.out.items c.put_words.new.out.items (head p.head)
    (marks p.marks ++ runs p.words.items) c.put_head.ensures.items marked

pub returns-clause-fits : goal.returns-clause-fits
returns-clause-fits c = turn_fits (turn c.args.play.now) c.put_head.ensures.fits
    c.put_marks.ensures.fits
    (subst (λ (ws : List ℕ). (i : ℕ) → slice_index ws i < 2 ^ 32) c.as_slice.ensures.value
    c.put_words.ensures.fits) c.requires.whole
