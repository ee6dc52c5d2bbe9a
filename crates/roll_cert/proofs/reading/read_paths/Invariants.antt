use Rattle.std.proofs.Common.{◌≡◌, ◌+◌}
use Rattle.roll_cert.specs.Reading.{StartsWithAll}
use Rattle.roll_cert.specs.Texts.{IsPathOf, path_line}
use Rattle.roll_cert.proofs.reading.read_paths.Given as goal

abbrev pub invariant-loop : goal.invariant-loop
invariant-loop l = record {
  before : StartsWithAll (IsPathOf l.players l.base) path_line l.counter l.fn.lines.rest.now l.lines.rest.now l.paths.items;
  next : l.lines.next ≡ l.fn.lines.next + l.counter;
}
