use Rattle.std.proofs.Common.{◌≡◌, ◌+◌}
use Rattle.roll_cert.specs.Reading.{StartsWithAll}
use Rattle.roll_cert.specs.Texts.{IsRowOf, row_line}
use Rattle.roll_cert.proofs.reading.read_rows.Given as goal

abbrev pub invariant-loop : goal.invariant-loop
invariant-loop l = record {
  before : StartsWithAll (IsRowOf l.players) row_line l.counter l.fn.lines.rest.now l.lines.rest.now l.rows.items;
  next : l.lines.next ≡ l.fn.lines.next + l.counter;
}
