use Rattle.std.proofs.Common.{◌≡◌, ℕ, ◌-◌, ◌<◌, ◌≤◌, ◌⊎◌, slice_index}
use Rattle.prog_scripts.specs.Diagnoses.{IsExtraSpace}
use Rattle.prog_scripts.proofs.lines.extra_space.Given as goal

abbrev pub invariant-loop-i : goal.invariant-loop-i
invariant-loop-i l = record {
  last : ((l.i ≡ 0) × (l.last ≡ 32)) ⊎ ((0 < l.i) × (l.last ≡ slice_index l.line (l.i - 1)));
  none : (column : ℕ) → column ≤ l.i → IsExtraSpace l.line column → ⊥;
}
