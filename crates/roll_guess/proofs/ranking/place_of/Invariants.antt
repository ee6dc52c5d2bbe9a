use Rattle.std.proofs.Common.{◌≡◌, ◌<◌, ◌≤◌, ℕ}
use Rattle.std.specs.Prelude.{slice_index_or}
use Rattle.roll_guess.specs.declared.ranking.Guess.{Guess}
use Rattle.roll_guess.proofs.ranking.place_of.Given as goal

abbrev pub invariant-loop-guess : goal.invariant-loop-guess
invariant-loop-guess l = record {
  place : l.place ≡ l.guess-index;
  before : (k : ℕ) (d : Guess) → k < l.guess-index → l.worth ≤ (slice_index_or l.ranking k d).worth;
}
