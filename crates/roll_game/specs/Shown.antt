-- The texts of states.
use Rattle.std.specs.Prelude.{ℕ, List, slice_index}
use Rattle.std.specs.Fmt.{decimal}

-- a tally's number
abbrev pub tally_text : List ℕ → List ℕ
tally_text value = decimal (slice_index value 0)
