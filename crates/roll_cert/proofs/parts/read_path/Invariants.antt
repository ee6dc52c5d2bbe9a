use Rattle.std.proofs.Common.{◌≡◌, map, take}
use Rattle.std.specs.List.{AllByRecursion}
use Rattle.roll_cert.specs.Texts.{IsRowOf, row_line}
use Rattle.roll_cert.proofs.parts.read_path.Given as goal

abbrev pub invariant-loop-part : goal.invariant-loop-part
invariant-loop-part l = record {
  base : l.path.base ≡ l.base;
  fit : AllByRecursion (IsRowOf l.players) l.path.rows.items;
  read : map row_line l.path.rows.items ≡ map (λ part. part.now) (take l.part-index l.part-items);
}
