-- Texts from outside, as an SVG holds them.
use Rattle.std.specs.Prelude.{◌||◌, ◌==◌, ℕ, Bool, List, codes, nat_lt, if◌then◌else◌}
use Rattle.std.specs.Char.{encode_utf8}

-- what no SVG can hold
abbrev pub is_barred : ℕ → Bool
is_barred c = nat_lt c 32 || (c == 65534 || c == 65535)

-- a character, escaped where an SVG would take it for its own
abbrev pub escaped : ℕ → List ℕ
escaped c =
    if c == 38 then codes "&amp;" else
    (if c == 60 then codes "&lt;" else
    (if c == 62 then codes "&gt;" else
    (if c == 34 then codes "&quot;" else
    (if is_barred c then codes "?" else encode_utf8 c))))
