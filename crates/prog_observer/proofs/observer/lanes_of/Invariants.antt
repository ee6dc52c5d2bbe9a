use Rattle.std.proofs.Common.{◌≡◌, map, take}
use Rattle.prog_observer.specs.Hearing.{heard_words, lane_in, lane_shown}
use Rattle.prog_observer.proofs.observer.lanes_of.Given as goal

abbrev pub invariant-loop-hearing : goal.invariant-loop-hearing
invariant-loop-hearing g l = record {
  lanes : map lane_shown l.lanes.items ≡ map (lane_in l.session l.firsts) (map heard_words (take l.hearing-index l.hearings));
}
