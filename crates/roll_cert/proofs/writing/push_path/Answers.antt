use Rattle.std.proofs.Common.{◌≡◌, ◌∷◌, arith}
use Rattle.std.proofs.lemmas.Grind.{common_steps}
use Rattle.roll_cert.specs.Texts.{row_line}
use Rattle.roll_cert.proofs.Values.{joined_written}
use Rattle.roll_cert.proofs.writing.push_path.Goals as goal

pub returns : goal.returns
returns c =
    let all : c.args.rows.now ≡ c.in-Some.first.now ∷ c.in-Some.others.now = grind (arith, common_steps) in
    rw all (joined_written 32 row_line c.args.out.now.items c.push_row.new.out.items c.loop-row.out.items c.in-Some.first.now c.in-Some.others.now c.loop-row.row-index c.in_ok-push_row.ensures c.loop-row.invariant c.loop-row-test.false)
