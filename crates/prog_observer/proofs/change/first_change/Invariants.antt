use Rattle.std.proofs.Common.{◌≡◌}
use Rattle.std.specs.Slice.Iter.{iter_rest}
use Rattle.prog_observer.specs.Changes.{first_change}
use Rattle.prog_observer.proofs.change.first_change.Given as goal

abbrev pub invariant-loop-old : goal.invariant-loop-old
invariant-loop-old l = record {
  can_next : (goal.iterator-loop-old).can_next l.old-iterator;
  finite : (goal.iterator-loop-old).is_finite l.old-iterator;
  rest : first_change l.frame (iter_rest l.old-iterator.a) (iter_rest l.old-iterator.b) ≡ first_change l.low l.before l.after;
}
