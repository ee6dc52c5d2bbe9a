use Rattle.std.proofs.Common.{◌≡◌, ◌+◌}
use Rattle.roll_cert.specs.Reading.{StartsWithAll}
use Rattle.roll_cert.specs.Texts.{IsEntry, entry_line}
use Rattle.roll_cert.proofs.reading.read_entries.Given as goal

abbrev pub invariant-loop : goal.invariant-loop
invariant-loop l = record {
  before : StartsWithAll IsEntry entry_line l.counter l.fn.lines.rest.now l.lines.rest.now l.entries.items;
  next : l.lines.next ≡ l.fn.lines.next + l.counter;
}
