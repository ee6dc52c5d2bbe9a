use Rattle.std.proofs.Common.{◌≡◌, ◌∙◌, arith, sym}
use Rattle.std.proofs.lemmas.Grind.{common_steps}
use Rattle.roll_text.proofs.Headed.{no_first, no_head, no_end_after, no_item}
use Rattle.prog_scripts.proofs.RowsRead.{files}
use Rattle.prog_scripts.proofs.rows_file.RowsFile.read.Goals as goal

pub returns-in_default-clause-unreadable : goal.returns-in_default-clause-unreadable
returns-in_default-clause-unreadable c = λ line e. no_first files c.args.text.now line (cc) c.in_default.ensures

pub returns-in_default-named_number-clause-unreadable : goal.returns-in_default-named_number-clause-unreadable
returns-in_default-named_number-clause-unreadable c = λ line e.
    no_head files c.args.text.now c.in-Some.first.now c.in-Some.rest.now line (cc) c.in-Some.ensures (rw c.in_default-named_number.is at c.named_number.ensures)

pub returns-in_default-2-clause-unreadable : goal.returns-in_default-2-clause-unreadable
returns-in_default-2-clause-unreadable c = λ line e.
    let players = c.in-Some-named_number.ensures in
    let none = rw c.in_default-2.is at c.in_ok-row.ensures in
    let now = c.loop-rest.invariant in
    let at : c.loop-rest.line ≡ line = cc in
    no_item files c.in-Some-named_number.players c.loop-rest.rows.items c.args.text.now c.loop-rest.rest.now c.in-Some-split_line.front.now c.in-Some-split_line.after.now line players.0 now.each now.whole (sym at ∙ now.count) c.in-Some-split_line.ensures none

pub returns-in_default-split_line-clause-unreadable : goal.returns-in_default-split_line-clause-unreadable
returns-in_default-split_line-clause-unreadable c = λ line e.
    let players = c.in-Some-named_number.ensures in
    let now = c.loop-rest.invariant in
    let at : c.loop-rest.line ≡ line = cc in
    no_end_after files c.in-Some-named_number.players c.loop-rest.rows.items c.args.text.now c.loop-rest.rest.now line players.0 now.each now.whole (sym at ∙ now.count) (grind (arith, common_steps)) c.in_default-split_line.ensures
