use Rattle.std.proofs.Common.{◌≡◌, ℕ, ◌<◌, [], length, get_or}
use Rattle.roll_carry.specs.Ways.{with_way}
use Rattle.roll_carry.specs.declared.limits.TheConstants.{BETWEEN_LIMIT}
use Rattle.roll_carry.proofs.ways.ways_to.Given as goal

abbrev pub invariant-loop-between : goal.invariant-loop-between
invariant-loop-between l =
    (l.reached ≡ with_way l.lines l.shut l.to l.between) × (length l.ways ≡ BETWEEN_LIMIT)
    × ((m : ℕ) → m < l.between → get_or l.ways m [] ≡ with_way l.lines l.shut l.to m)
