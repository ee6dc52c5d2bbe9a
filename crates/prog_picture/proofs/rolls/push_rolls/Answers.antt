use Rattle.std.proofs.Common.{◌∙◌, ◌++◌, ap, sym, take, get_or}
use Rattle.std.proofs.lemmas.List.{flat_map_more, take_more}
use Rattle.std.specs.List.{flat_map}
use Rattle.std.specs.String.{string_bytes}
use Rattle.prog_picture.specs.Rolls.{roll_text}
use Rattle.prog_picture.specs.declared.rolls.RollMark.{RollMark}
use Rattle.prog_picture.specs.declared.scene.Cause.TheVariants.{Word}
use Rattle.prog_picture.proofs.rolls.push_rolls.Goals as goal

abbrev no_mark : RollMark
no_mark = record { roll = record { at = 0; rerun = 0; ggpo = 0; cause = Word 0 0 }; from = 0; late = 0; rerun_x = 0; ggpo_x = 0; end_x = 0; y = 0 }

pub loop-mark-preserved : goal.loop-mark-preserved
loop-mark-preserved c =
    let marks = c.args.marks.now in
    let k = c.loop-mark.mark-index in
    let mark = get_or marks k no_mark in
    let front = string_bytes c.args.out.now in
    c.in_ok-push_roll.ensures ∙ ap (λ ys. ys ++ roll_text mark) c.loop-mark.invariant
    ∙ flat_map_more roll_text front (take k marks) mark ∙ ap (λ ys. front ++ flat_map roll_text ys) (sym (take_more marks k no_mark c.loop-mark-test.true))
