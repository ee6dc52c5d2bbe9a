use Rattle.std.proofs.Common.{◌≡◌, ◌++◌, drop, map, take}
use Rattle.prog_observer.specs.Hearing.{after_hearing, heard_words}
use Rattle.prog_observer.proofs.observer.hear_all.Given as goal

abbrev pub invariant-loop-hearing : goal.invariant-loop-hearing
invariant-loop-hearing g l = record {
  heard : map heard_words l.hearings
      ≡ map (after_hearing l.session l.at) (map heard_words (take l.hearing-index l.initial.hearings))
      ++ map heard_words (drop l.hearing-index l.initial.hearings);
}
