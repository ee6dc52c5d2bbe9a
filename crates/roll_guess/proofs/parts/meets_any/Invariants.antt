use Rattle.std.proofs.Common.{◌<◌, ℕ}
use Rattle.std.specs.Prelude.{slice_index_or}
use Rattle.roll_guess.specs.Parts.{AreApart}
use Rattle.roll_guess.proofs.parts.meets_any.Given as goal

abbrev pub invariant-loop-other : goal.invariant-loop-other
invariant-loop-other l = (k : ℕ) (d : ℕ) → k < l.other-index → AreApart (slice_index_or l.masks k d) l.mask
