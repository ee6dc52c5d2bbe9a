-- What stands in the place of the number.
use Rattle.std.proofs.Common.{◌≡◌, ◌<◌, ◌≤◌, ℕ, Bool, true, false, List, ◌++◌, length, get_or, take, drop, Some, None, refl, sym, ap, ◌∙◌, arith}
use Rattle.std.specs.Int.{w64, to_be_bytes, from_be_bytes}
use Rattle.std.specs.Str.{bytes_eq}
use Rattle.std.specs.Prelude.{◌&&◌, if◌then◌else◌, is_some, nat_eq, nat_le}
use Rattle.std.proofs.lemmas.Bool.{and_from, and_parts, and_right, cond-true, cond-false, le-leb}
use Rattle.std.proofs.lemmas.Bool.Decides.{Decides-eqb, Decides-like, same_from_decides}
use Rattle.std.proofs.lemmas.List.{drop-drop, drop_at, length-append, length-drop, length-take-le, take-append-drop, take_at}
use Rattle.std.proofs.lemmas.Nat.{be_bytes_8}
use Rattle.std.proofs.lemmas.Slice.Eq.{bytes_eq-Decides}
use Rattle.sha2.specs.Sha256.{sha256}
use Rattle.sha2.proofs.Facts256.{length-sha256}
use Rattle.roll_wire.specs.declared.limits.TheConstants.{DATAGRAM_LIMIT}
use Rattle.roll_contact.specs.declared.key.Key.{Key}
use Rattle.roll_contact.specs.declared.seal.TheConstants.{INNER, OUTER}
use Rattle.roll_contact.specs.Keys.{padded}
use Rattle.roll_contact.specs.Seals.{HasNumber, IsSealed, field, is_sealed, named, sealed, tag, unsealed, with_field}

-- ---- the 8 bytes

abbrev pub IsBytes : List ℕ → Type 0
IsBytes bytes = (i : ℕ) → get_or bytes i 0 < 256

-- 8 bytes are the number that they make
same_bytes : (a b : List ℕ) → length a ≡ 8 → length b ≡ 8 → IsBytes a → IsBytes b
    → from_be_bytes w64 a ≡ from_be_bytes w64 b → a ≡ b
same_bytes a b len_a len_b fits_a fits_b e =
    sym (be_bytes_8 a (from_be_bytes w64 a) len_a fits_a refl)
    ∙ be_bytes_8 b (from_be_bytes w64 a) len_b fits_b e

pub compares : (a b : List ℕ) → length a ≡ 8 → length b ≡ 8 → IsBytes a → IsBytes b
    → nat_eq (from_be_bytes w64 a) (from_be_bytes w64 b) ≡ bytes_eq a b
compares a b len_a len_b fits_a fits_b =
    same_from_decides _ _ (Decides-like _ (same_bytes a b len_a len_b fits_a fits_b)
    (ap (from_be_bytes w64)) (Decides-eqb (from_be_bytes w64 a) (from_be_bytes w64 b)))
    (bytes_eq-Decides a b)

pub length-tag : (key : Key) (text : List ℕ) → length (tag key text) ≡ 8
length-tag key text =
    length-take-le 8 (sha256 (padded OUTER key ++ sha256 (padded INNER key ++ text)))
    (omega (arith, length-sha256 (padded OUTER key ++ sha256 (padded INNER key ++ text))))

pub field-with_field : (bytes text : List ℕ) → length bytes ≡ 8 → 12 ≤ length text
    → field (with_field bytes text) ≡ bytes
field-with_field bytes text len long =
    ap (take 8) (drop_at (take 4 text) (bytes ++ drop 12 text) 4
    (length-take-le 4 text (omega arith))) ∙ take_at bytes (drop 12 text) 8 len

with_field-field : (text : List ℕ) → with_field (field text) text ≡ text
with_field-field text =
    ap (λ (rest : List ℕ). take 4 text ++ (field text ++ rest)) (sym (drop-drop 8 4 text))
    ∙ ap (λ (rest : List ℕ). take 4 text ++ rest) (take-append-drop 8 (drop 4 text))
    ∙ take-append-drop 4 text

-- what stood there before doesn't matter
pub with_field-with_field : (a b text : List ℕ) → length a ≡ 8 → 12 ≤ length text
    → with_field b (with_field a text) ≡ with_field b text
with_field-with_field a b text len long =
    let front : length (take 4 text) ≡ 4 = length-take-le 4 text (omega arith) in
    let rest : drop 12 (with_field a text) ≡ drop 12 text =
    sym (drop-drop 8 4 (with_field a text))
    ∙ ap (drop 8) (drop_at (take 4 text) (a ++ drop 12 text) 4 front)
    ∙ drop_at a (drop 12 text) 8 len in
    ap (λ (t : List ℕ). t ++ (b ++ drop 12 (with_field a text)))
    (take_at (take 4 text) (a ++ drop 12 text) 4 front)
    ∙ ap (λ (t : List ℕ). take 4 text ++ (b ++ t)) rest

length-with_field : (bytes text : List ℕ) → length bytes ≡ 8 → 12 ≤ length text
    → length (with_field bytes text) ≡ length text
length-with_field bytes text len long =
    omega (
      arith,
      length-append (take 4 text) (bytes ++ drop 12 text),
      length-append bytes (drop 12 text),
      length-take-le 4 text,
      length-drop 12 text,
      len,
      long,
    )

-- ---- a seal

pub length-sealed : (key : Key) (text : List ℕ) → 12 ≤ length text → length (sealed key text) ≡ length text
length-sealed key text long = length-with_field (tag key text) text (length-tag key text) long

resealed : (key : Key) (bytes : List ℕ) → 12 ≤ length bytes
    → sealed key (named key.number bytes) ≡ with_field (tag key (named key.number bytes)) bytes
resealed key bytes long =
    with_field-with_field (to_be_bytes w64 key.number) (tag key (named key.number bytes)) bytes refl long

-- to compare the tags is to compare all
tells : (key : Key) (bytes : List ℕ) → 12 ≤ length bytes
    → bytes_eq (tag key (named key.number bytes)) (field bytes)
    ≡ bytes_eq (sealed key (named key.number bytes)) bytes
tells key bytes long =
    let t = tag key (named key.number bytes) in
    same_from_decides _ _ (Decides-like _
    (λ e. resealed key bytes long ∙ ap (λ (f : List ℕ). with_field f bytes) e
    ∙ with_field-field bytes)
    (λ e. sym (field-with_field t bytes (length-tag key (named key.number bytes)) long)
    ∙ ap field (sym (resealed key bytes long) ∙ e))
    (bytes_eq-Decides t (field bytes)))
    (bytes_eq-Decides (sealed key (named key.number bytes)) bytes)

pub named-sealed : (key : Key) (text : List ℕ) → 12 ≤ length text → HasNumber key.number text
    → named key.number (sealed key text) ≡ text
named-sealed key text long has =
    with_field-with_field (tag key text) (to_be_bytes w64 key.number) text (length-tag key text) long
    ∙ ap (λ (f : List ℕ). with_field f text) (sym has) ∙ with_field-field text

tested : (key : Key) (bytes : List ℕ) → IsSealed key bytes → is_sealed key bytes ≡ true
tested key bytes s =
    and_from _ _ (le-leb 12 (length bytes) s.least)
    (and_from _ _ (le-leb (length bytes) DATAGRAM_LIMIT s.most)
    ((bytes_eq-Decides (sealed key (named key.number bytes)) bytes).1 s.same))

is_unsealed : (key : Key) (bytes : List ℕ) → IsSealed key bytes
    → unsealed key bytes ≡ Some (named key.number bytes)
is_unsealed key bytes s = cond-true _ _ _ (tested key bytes s)

-- what was sealed is unsealed
pub again : (key : Key) (text : List ℕ) → 12 ≤ length text → length text ≤ DATAGRAM_LIMIT
    → HasNumber key.number text → unsealed key (sealed key text) ≡ Some text
again key text long most has =
    let len = length-sealed key text long in
    let back = named-sealed key text long has in
    is_unsealed key (sealed key text) (record {
      least = omega (arith, len);
      most = omega (arith, len);
      same = ap (sealed key) back;
    }) ∙ ap (λ (t : List ℕ). Some t) back

-- what has the same tag is one
pub the_same : (key : Key) (bytes : List ℕ) → 12 ≤ length bytes → length bytes ≤ DATAGRAM_LIMIT
    → bytes_eq (tag key (named key.number bytes)) (field bytes) ≡ true
    → unsealed key bytes ≡ Some (named key.number bytes)
the_same key bytes long most e =
    cond-true _ _ _ (and_from _ _ (le-leb 12 (length bytes) long)
    (and_from _ _ (le-leb (length bytes) DATAGRAM_LIMIT most) (sym (tells key bytes long) ∙ e)))

-- what has another tag is no seal
pub another : (key : Key) (bytes : List ℕ) → 12 ≤ length bytes
    → bytes_eq (tag key (named key.number bytes)) (field bytes) ≡ false → unsealed key bytes ≡ None
another key bytes long e =
    cond-false _ _ _ (and_right _ _ (and_right _ _ (sym (tells key bytes long) ∙ e)))

-- what is unsealed was sealed so
pub opened : (key : Key) (bytes : List ℕ) → is_some (unsealed key bytes) ≡ true
    → sealed key (named key.number bytes) ≡ bytes
opened key bytes some = go (is_sealed key bytes) refl some
  where
    go : (b : Bool) → is_sealed key bytes ≡ b
        → is_some (if b then Some (named key.number bytes) else None) ≡ true
        → sealed key (named key.number bytes) ≡ bytes
    go true e h =
        let outer = and_parts (nat_le 12 (length bytes)) (nat_le (length bytes) DATAGRAM_LIMIT
        && bytes_eq (sealed key (named key.number bytes)) bytes) e in
        let inner = and_parts (nat_le (length bytes) DATAGRAM_LIMIT)
        (bytes_eq (sealed key (named key.number bytes)) bytes) outer.1 in
        (bytes_eq-Decides (sealed key (named key.number bytes)) bytes).0 inner.1
    go false e h = absurd cc
