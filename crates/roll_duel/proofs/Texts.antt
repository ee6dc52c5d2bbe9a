-- The texts of states in pieces.
use Rattle.std.proofs.Common.{◌≡◌, ◌++◌, List, [], ◌∷◌, ℕ, codes, flat_map, map, length, refl, sym, ap, ◌∙◌, append_assoc}
use Rattle.std.specs.Fmt.{decimal, signed_decimal}
use Rattle.std.specs.List.{join_with_byte}
use Rattle.std.proofs.lemmas.List.{append-nil}
use Rattle.roll_text.specs.Numbers.{list_of}
use Rattle.roll_duel.specs.declared.ship.Ship.{Ship}
use Rattle.roll_duel.specs.Bytes.{field_of}
use Rattle.roll_duel.specs.Text.{duel_text, ship_text}

-- pieces that are written one after the other
in_order : (out a b c d : List ℕ) → ((((((out ++ a) ++ codes ",") ++ b) ++ codes ",") ++ c) ++ codes ",") ++ d ≡ out ++ (a ++ 44 ∷ (b ++ 44 ∷ (c ++ 44 ∷ d)))
in_order out a b c d =
    append_assoc _ (codes ",") d ∙ append_assoc _ c (44 ∷ d) ∙ append_assoc _ (codes ",") (c ++ 44 ∷ d) ∙ append_assoc _ b (44 ∷ (c ++ 44 ∷ d)) ∙ append_assoc _ (codes ",") (b ++ 44 ∷ (c ++ 44 ∷ d)) ∙ append_assoc out a _

pub ship_pieces : (out : List ℕ) (ship : Ship)
    → ((((((out ++ list_of (ship.x ∷ ship.y ∷ [])) ++ codes ",") ++ signed_decimal ship.vx) ++ codes ",") ++ signed_decimal ship.vy) ++ codes ",") ++ list_of (ship.heading ∷ ship.cool ∷ ship.hits ∷ [])
    ≡ out ++ ship_text ship
unfolding ship_text
ship_pieces out ship =
    in_order out (list_of (ship.x ∷ ship.y ∷ [])) (signed_decimal ship.vx) (signed_decimal ship.vy) (list_of (ship.heading ∷ ship.cool ∷ ship.hits ∷ []))
    ∙ ap (λ t. out ++ t) (append_assoc (decimal ship.x) (44 ∷ decimal ship.y) _)

-- all pieces but the last have a space behind them
joined_before : (ships : List Ship) (last : List ℕ) → join_with_byte 32 (map ship_text ships ++ last ∷ []) ≡ flat_map (λ ship. ship_text ship ++ codes " ") ships ++ last
joined_before [] last = refl
joined_before (ship ∷ []) last = sym (ap (λ t. t ++ last) (append-nil (ship_text ship ++ codes " ")) ∙ append_assoc (ship_text ship) (codes " ") last)
joined_before (ship ∷ next ∷ ships) last =
    ap (λ t. ship_text ship ++ (32 ∷ t)) (joined_before (next ∷ ships) last)
    ∙ sym (append_assoc (ship_text ship ++ codes " ") (flat_map (λ ship. ship_text ship ++ codes " ") (next ∷ ships)) last ∙ append_assoc (ship_text ship) (codes " ") _)

pub duel_pieces : (value : List ℕ)
    → duel_text value ≡ flat_map (λ ship. ship_text ship ++ codes " ") (field_of value).ships ++ 98 ∷ decimal (length (field_of value).bullets)
unfolding duel_text
duel_pieces value = joined_before (field_of value).ships (98 ∷ decimal (length (field_of value).bullets))
