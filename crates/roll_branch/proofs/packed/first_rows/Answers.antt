use Rattle.std.proofs.Common.{◌≡◌, length, arith, ap, ◌∙◌, lit<}
use Rattle.roll_branch.proofs.Rows.{length-rows_from}
use Rattle.roll_branch.proofs.packed.first_rows.Goals as goal

pub push-requires : goal.push-requires
push-requires c =
    let l = c.loop-row in
    let many : length l.rows.items ≡ l.row = ap length l.invariant.rows ∙ length-rows_from c.args.changes.now 0 l.row in
    (lit< tt, omega arith)
