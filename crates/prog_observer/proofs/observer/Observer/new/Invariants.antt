use Rattle.std.proofs.Common.{◌≡◌, map}
use Rattle.std.specs.List.{range_with_len}
use Rattle.prog_observer.specs.Hearing.{heard_words, nothing_heard}
use Rattle.prog_observer.proofs.observer.Observer.new.Given as goal

abbrev pub invariant-loop-place : goal.invariant-loop-place
invariant-loop-place l = record {
  heard : map heard_words l.hearings.items ≡ map nothing_heard (range_with_len 1 l.place);
}
