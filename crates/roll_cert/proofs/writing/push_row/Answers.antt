use Rattle.std.proofs.Common.{◌≡◌, ◌∷◌, arith}
use Rattle.std.proofs.lemmas.Grind.{common_steps}
use Rattle.roll_cert.specs.Texts.{cell_text}
use Rattle.roll_cert.proofs.Values.{joined_written}
use Rattle.roll_cert.proofs.writing.push_row.Goals as goal

pub returns : goal.returns
returns c =
    let all : c.args.row.now ≡ c.in-Some.first.now ∷ c.in-Some.others.now = grind (arith, common_steps) in
    rw all (joined_written 44 cell_text c.args.out.now.items c.push_cell.new.out.items c.loop-cell.out.items c.in-Some.first.now c.in-Some.others.now c.loop-cell.cell-index c.in_ok-push_cell.ensures c.loop-cell.invariant c.loop-cell-test.false)
