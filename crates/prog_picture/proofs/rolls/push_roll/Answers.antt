use Rattle.std.proofs.Common.{◌++◌, ℕ, List, codes}
use Rattle.std.specs.String.{string_bytes}
use Rattle.prog_picture.proofs.Texts.{two_more}
use Rattle.prog_picture.specs.Rolls.{bar_text, cause_of, numbers_text, roll_text}
use Rattle.prog_picture.proofs.rolls.push_roll.Goals as goal

pub returns : goal.returns
unfolding roll_text
returns c =
    let mark = c.args.mark.now in
    let outline : List ℕ = bar_text (codes "o") mark.ggpo_x mark.y mark.end_x in
    let bar : List ℕ = bar_text (codes "f") mark.rerun_x mark.y mark.end_x in
    let close : List ℕ = codes "</g>\n" in
    let cause : List ℕ = cause_of mark.late mark.roll.cause in
    let whole = string_bytes c.push_str.new.self in
    let numbered = string_bytes c.push_numbers.new.out in
    let caused = string_bytes c.push_cause.new.out in
    let outlined = string_bytes c.push_bar.new.out in
    let barred = string_bytes c.push_bar-2.new.out in
    two_more (string_bytes c.args.out.now) (numbers_text mark) (cause ++ (outline ++ (bar ++ close))) numbered whole c.in_ok-push_numbers.ensures
    (two_more numbered (cause) (outline ++ (bar ++ close)) caused whole c.in_ok-push_cause.ensures
    (two_more caused outline (bar ++ close) outlined whole c.in_ok-push_bar.ensures
    (two_more outlined bar close barred whole c.in_ok-push_bar-2.ensures c.in_ok-push_str.ensures.bytes)))
