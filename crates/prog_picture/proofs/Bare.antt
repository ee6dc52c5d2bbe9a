-- Texts in which no rollback is drawn.
use Rattle.std.proofs.Common.{◌≡◌, ◌++◌, ◌+◌, ◌<◌, ◌/◌, ◌%◌, ℕ, zero, suc, Bool, true, false, cond, List, [], ◌∷◌, codes, ◌==◌, if◌then◌else◌, refl, ap, subst, sym, arith, ◌∙◌}
use Rattle.std.proofs.Math.Dec.{eqb, ltb}
use Rattle.std.proofs.lemmas.Bool.{lt-ltb, ne_eqb, or_from, or_parts}
use Rattle.std.specs.Char.{encode_utf8}
use Rattle.std.specs.List.{flat_map}
use Rattle.std.specs.Fmt.{decimal, digit_glyph, digits, digits_onto}
use Rattle.prog_picture.specs.Bars.{LacksBars, has_bar}
use Rattle.prog_picture.specs.Escapes.{escaped, is_barred}

from_append : (is_open : Bool) (xs ys : List ℕ) → has_bar is_open xs ≡ false → has_bar false ys ≡ false
    → has_bar is_open (xs ++ ys) ≡ false
from_append is_open [] ys h k = subst (λ b. has_bar b ys ≡ false) (sym h) k
from_append is_open (x ∷ xs) ys h k =
    let parts = or_parts _ _ h in
    or_from _ _ parts.0 (from_append (eqb x 60) xs ys parts.1 k)

pub bare_append : (xs ys : List ℕ) → LacksBars xs → LacksBars ys → LacksBars (xs ++ ys)
bare_append xs ys h k = record { none = from_append false xs ys h.none k.none }

pub bare_more : (old added new : List ℕ) → new ≡ old ++ added → LacksBars added → LacksBars old → LacksBars new
bare_more old added new e h k = subst LacksBars (sym e) (bare_append old added k h)

-- a byte that is no `<`
from_byte : (b : ℕ) (bs : List ℕ) → eqb b 60 ≡ false → has_bar false bs ≡ false → has_bar false (b ∷ bs) ≡ false
from_byte b bs e h = subst (λ t. has_bar t bs ≡ false) (sym e) h

from_glyph : (d : ℕ) (bs : List ℕ) → d < 10 → has_bar false bs ≡ false → has_bar false (digit_glyph false d ∷ bs) ≡ false
from_glyph d bs small h = from_byte (digit_glyph false d) bs (ap (λ t. eqb (cond t (48 + d) (87 + d)) 60) (lt-ltb d 10 small) ∙ ne_eqb (48 + d) 60 (λ e. omega (arith, e))) h

either : (b : Bool) (xs ys : List ℕ) → has_bar false xs ≡ false → has_bar false ys ≡ false → has_bar false (cond b xs ys) ≡ false
either true xs ys p q = p
either false xs ys p q = q

from_digits : (k n : ℕ) (bs : List ℕ) → has_bar false bs ≡ false → has_bar false (digits_onto k 10 false n bs) ≡ false
from_digits zero n bs h = h
from_digits (suc k) n bs h =
    let more = from_glyph (n % 10) bs (omega arith) h in
    either (eqb (n / 10) 0) _ _ more (from_digits k (n / 10) _ more)

pub bare_decimal : (n : ℕ) → LacksBars (decimal n)
unfolding digits
bare_decimal n = record { none = from_digits 64 n [] refl }

pub bare_literal : (text : List ℕ) → has_bar false text ≡ false → LacksBars text
bare_literal text h = record { none = h }

-- a byte of several
from_high : (k n : ℕ) (bs : List ℕ) → 60 < k → has_bar false bs ≡ false → has_bar false ((k + n) ∷ bs) ≡ false
from_high k n bs h rest = from_byte (k + n) bs (ne_eqb (k + n) 60 (λ e. omega (arith, e, h))) rest

from_next : (n : ℕ) (bs : List ℕ) → has_bar false bs ≡ false → has_bar false ((128 + n % 64) ∷ bs) ≡ false
from_next n bs rest = from_high 128 (n % 64) bs (omega arith) rest

from_code : (c : ℕ) → eqb c 60 ≡ false → has_bar false (encode_utf8 c) ≡ false
unfolding encode_utf8
from_code c e =
    let first : List ℕ = (128 + c % 64) ∷ [] in
    let second : List ℕ = (128 + (c / 64) % 64) ∷ first in
    let third : List ℕ = (128 + (c / 4096) % 64) ∷ second in
    let one : has_bar false first ≡ false = from_next c [] refl in
    let two : has_bar false second ≡ false = from_next (c / 64) first one in
    let three : has_bar false third ≡ false = from_next (c / 4096) second two in
    either (ltb c 128) (c ∷ []) (cond (ltb c 2048) ((192 + c / 64) ∷ first) (cond (ltb c 65536) ((224 + c / 4096) ∷ second) ((240 + c / 262144) ∷ third)))
    (from_byte c [] e refl)
    (either (ltb c 2048) ((192 + c / 64) ∷ first) (cond (ltb c 65536) ((224 + c / 4096) ∷ second) ((240 + c / 262144) ∷ third))
    (from_high 192 (c / 64) first (omega arith) one)
    (either (ltb c 65536) ((224 + c / 4096) ∷ second) ((240 + c / 262144) ∷ third)
    (from_high 224 (c / 4096) second (omega arith) two)
    (from_high 240 (c / 262144) third (omega arith) three)))

-- a character that is escaped
bare_char : (c : ℕ) → LacksBars (escaped c)
bare_char c = record {
  none =
      either (eqb c 38) _ _ refl
      (by (eqb c 60) refl
      );
}
  where
    rest : List ℕ
    rest = if c == 62 then codes "&gt;" else (if c == 34 then codes "&quot;" else (if is_barred c then codes "?" else encode_utf8 c))

    plain : eqb c 60 ≡ false → has_bar false rest ≡ false
    plain e = either (eqb c 62) _ _ refl (either (eqb c 34) _ _ refl (either (is_barred c) _ _ refl (from_code c e)))

    by : (b : Bool) → eqb c 60 ≡ b → has_bar false (cond (eqb c 60) (codes "&lt;") rest) ≡ false
    by true e = subst (λ t. has_bar false (cond t (codes "&lt;") rest) ≡ false) (sym e) refl
    by false e = subst (λ t. has_bar false (cond t (codes "&lt;") rest) ≡ false) (sym e) (plain e)

pub bare_escaped : (cs : List ℕ) → LacksBars (flat_map escaped cs)
bare_escaped [] = record { none = refl }
bare_escaped (c ∷ cs) = bare_append (escaped c) (flat_map escaped cs) (bare_char c) (bare_escaped cs)

pub ruleset bare = (bare_more, bare_append, bare_literal, bare_decimal, bare_escaped)
