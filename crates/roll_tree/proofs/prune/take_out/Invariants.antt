use Rattle.std.proofs.Common.{◌≡◌, take}
use Rattle.roll_tree.proofs.Prunes.{IsPart}
use Rattle.roll_tree.proofs.prune.take_out.Given as goal

-- the names so far are decided, and the others have what they had
abbrev pub invariant-loop-name : goal.invariant-loop-name
invariant-loop-name g l = record {
  part : IsPart l.top l.rule l.fn.nodes l.nodes (take l.name-index l.order);
  capacity : l.nodes.capacity ≡ l.fn.nodes.capacity;
}
