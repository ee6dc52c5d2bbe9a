-- The field, in 1/256 of a unit. It wraps.
use Rattle.std.specs.Prelude.{ℕ, ◌+◌, ◌-◌, ◌%◌, min, ℤ, pos, ◌+ℤ◌, unsigned_abs}
use Rattle.std.specs.Int.{int_rem_euclid}

abbrev pub width : ℕ
width = 81920

abbrev pub height : ℕ
height = 61440

-- a place after a frame at this speed, on a field of this size
abbrev pub moved_by : ℕ → ℤ → ℕ → ℕ
moved_by size speed place = unsigned_abs (int_rem_euclid (pos place +ℤ speed) (pos size))

-- the way from one place to another, round the field if that is shorter
abbrev pub distance : ℕ → ℕ → ℕ → ℕ
distance size a b = let d : ℕ = (a + (size - b)) % size in min d (size - d)
