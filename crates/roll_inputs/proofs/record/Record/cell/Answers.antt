use Rattle.std.proofs.Common.{◌<◌, [], List, ap, arith, length, sym}
use Rattle.std.specs.Prelude.{slice_get, slice_index_or}
use Rattle.std.proofs.lemmas.List.{get_or_past}
use Rattle.std.proofs.lemmas.Option.{slice_get_past}
use Rattle.roll_frame.specs.declared.row.Cell.{Cell}
use Rattle.roll_inputs.proofs.Recorded.{length_row}
use Rattle.roll_inputs.proofs.record.Record.cell.Goals as goal

pub returns-then-frame-len : goal.returns-then-frame-len
returns-then-frame-len c = sym (ap (λ (cells : List Cell). slice_get cells c.args.place) (get_or_past c.args.self.now.rows c.args.frame [] (omega (arith, c.len.ensures))))

pub returns-else-place-from : goal.returns-else-place-from
returns-else-place-from c =
    let seen = c.args.self.now in
    let within : c.args.frame < length seen.rows = omega (arith, c.if-frame-len.false, c.len.ensures) in
    let long = length_row c.self.inside seen c.args.frame c.self.invariant c.self.view_is within in
    sym (slice_get_past (slice_index_or seen.rows c.args.frame []) c.args.place (omega (arith, long, c.from.ensures)))
