-- Lines: each ends with one LF, byte 10.
use Rattle.std.specs.Prelude.{◌≡◌, ℕ, ◌==◌, ◌++◌, false, if◌then◌else◌, List, [], ◌∷◌, flat_map, Option, Some, None}
use Rattle.std.specs.List.{onto_first, All}

-- no byte is c
abbrev pub Lacks : ℕ → List ℕ → Type 0
Lacks c bytes = All (λ b. (b == c) ≡ false) bytes

-- a line with its end
abbrev pub ended : List ℕ → List ℕ
ended line = line ++ 10 ∷ []

-- the text of lines, which are given without their ends
abbrev pub text_of : List (List ℕ) → List ℕ
text_of lines = flat_map ended lines

-- a text's lines, each with its end; what follows the last end is a line too
abbrev pub lines_of : List ℕ → List (List ℕ)
lines_of [] = []
lines_of (b ∷ bs) = if b == 10 then (b ∷ []) ∷ lines_of bs else onto_first b (lines_of bs)

-- a text up to its first line's end, and what follows; none where no line ends
abbrev pub CutsLine : List ℕ → Option (List ℕ × List ℕ) → Type 0
CutsLine text (Some cut) = Lacks 10 cut.0 × (text ≡ ended cut.0 ++ cut.1)
CutsLine text None = Lacks 10 text
