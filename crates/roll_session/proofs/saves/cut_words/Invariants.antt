use Rattle.std.proofs.Common.{◌≡◌, ◌≤◌, ◌-◌}
use Rattle.roll_session.proofs.Leaving.{gone_in}
use Rattle.roll_session.proofs.saves.cut_words.Given as goal

abbrev pub invariant-loop-frame : goal.invariant-loop-frame
invariant-loop-frame g l = record {
  tree : l.tree ≡ record l.fn.tree { states = gone_in (l.player - 1) (l.frame - l.fn.from) (l.fn.from - l.fn.tree.base) l.fn.tree.states };
  low : l.fn.from ≤ l.frame;
}
