-- The text of a state.
use Rattle.std.specs.Prelude.{ℕ, List, [], ◌∷◌, ◌++◌, codes, length, map}
use Rattle.std.specs.Fmt.{decimal, signed_decimal}
use Rattle.std.specs.List.{join_with_byte}
use Rattle.roll_duel.specs.declared.ship.Ship.{Ship}
use Rattle.roll_duel.specs.Bytes.{field_of}
use Rattle.roll_duel.specs.Frame.{Field}

-- a comma, byte 44, stands between each two numbers
unfoldable pub ship_text : Ship → List ℕ
ship_text ship =
    join_with_byte 44 (decimal ship.x ∷ decimal ship.y ∷ signed_decimal ship.vx ∷ signed_decimal ship.vy ∷ decimal ship.heading ∷ decimal ship.cool ∷ decimal ship.hits ∷ [])

-- the ships and the number of bullets; a space, byte 32, stands between each two
abbrev pub field_text : Field → List ℕ
field_text field = join_with_byte 32 (map ship_text field.ships ++ (codes "b" ++ decimal (length field.bullets)) ∷ [])

-- of the field that a state's bytes hold
unfoldable pub duel_text : List ℕ → List ℕ
duel_text value = field_text (field_of value)
