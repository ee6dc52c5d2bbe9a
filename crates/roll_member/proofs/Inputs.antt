-- The places of an input's words.
use Rattle.std.proofs.Common.{◌≡◌, ◌⊎◌, ◌∙◌, ℕ, suc, ◌+◌, ◌-◌, ◌*◌, ◌/◌, ◌%◌, ◌<◌, ◌≤◌, ap, sym, arith, inl, inr, true, false}
use Rattle.std.proofs.lemmas.Bool.{cases_lt, eqb-true, eq-eqb, false≢true}
use Rattle.std.proofs.Math.Nat.{suc-mul}
use Rattle.std.proofs.lemmas.Nat.{div-add-mod', div-mul-add}
use Rattle.roll_mesh.specs.Groups.{first_of}
use Rattle.roll_mesh.proofs.Groups.{first_alone, first_within}
use Rattle.roll_member.specs.Taking.{is_first}

first_at : (w a b : ℕ) → b < w → first_of w (a * w + b) ≡ a * w
unfolding first_of
first_at w a b l = ap (λ n. n * w) (div-mul-add a w b l)

-- a player is so many places after its input's first
record IsAfter (w p : ℕ) : Type 0 where
  a : ℕ
  b : ℕ
  less : b < w
  is : a * w + b ≡ p

after : (w p : ℕ) → 1 ≤ w → IsAfter w p
after w p one = record { a = p / w; b = p % w; less = omega arith; is = div-add-mod' p w }

-- the first word is its own input's first
pub first_same : (w p : ℕ) → 1 ≤ w → first_of w (first_of w p) ≡ first_of w p
first_same w p one =
    let at = after w p one in
    let first : first_of w p ≡ at.a * w =
    ap (first_of w) (sym at.is) ∙ first_at w at.a at.b at.less in
    let none : at.a * w ≡ at.a * w + 0 = omega arith in
    ap (first_of w) (first ∙ none) ∙ first_at w at.a 0 (omega (arith, one)) ∙ sym first

-- the next player is a word of the same input, or the first of another
pub first_next : (w p : ℕ) → 1 ≤ w → (first_of w (p + 1) ≡ p + 1) ⊎ (first_of w (p + 1) ≡ first_of w p)
first_next w p one = go (after w p one)
  where
    go : IsAfter w p → (first_of w (p + 1) ≡ p + 1) ⊎ (first_of w (p + 1) ≡ first_of w p)
    go at = by (cases_lt (at.b + 1) w)
      where
        by : (at.b + 1 < w) ⊎ (w ≤ at.b + 1)
            → (first_of w (p + 1) ≡ p + 1) ⊎ (first_of w (p + 1) ≡ first_of w p)
        by (inl l) =
            let next : p + 1 ≡ at.a * w + (at.b + 1) = omega (arith, at.is) in
            inr (ap (first_of w) next ∙ first_at w at.a (at.b + 1) l
            ∙ sym (ap (first_of w) (sym at.is) ∙ first_at w at.a at.b at.less))
        by (inr g) =
            let size : suc at.a * w ≡ p + 1 = omega (arith, suc-mul at.a w, at.is, g, at.less) in
            let next : p + 1 ≡ suc at.a * w + 0 = omega (arith, size) in
            inl (ap (first_of w) next ∙ first_at w (suc at.a) 0 (omega (arith, one)) ∙ size)

-- whether a player is an input's first word
pub first_is : (w p : ℕ) → is_first w p ≡ true → first_of w p ≡ p
first_is w p h = eqb-true (first_of w p) p h

-- a player that isn't the first is a word of the input of the one before
pub first_before : (w p : ℕ) → 1 ≤ w → is_first w (p + 1) ≡ false → first_of w (p + 1) ≡ first_of w p
first_before w p one isnt = go (first_next w p one)
  where
    go : (first_of w (p + 1) ≡ p + 1) ⊎ (first_of w (p + 1) ≡ first_of w p)
        → first_of w (p + 1) ≡ first_of w p
    go (inl e) = absurd (false≢true (sym isnt ∙ eq-eqb (first_of w (p + 1)) (p + 1) e))
    go (inr e) = e

-- how many words of an input there are from a player on
abbrev pub rest : (words place : ℕ) → ℕ
rest w p = first_of w p + w - p

pub rest_first : (w p : ℕ) → is_first w p ≡ true → rest w p ≡ w
rest_first w p h = omega (arith, first_is w p h)

-- a player is one of them
pub rest_some : (w p : ℕ) → 1 ≤ w → 1 ≤ rest w p
rest_some w p one = go (after w p one)
  where
    go : IsAfter w p → 1 ≤ rest w p
    go at = omega (arith, at.less, at.is, ap (first_of w) (sym at.is) ∙ first_at w at.a at.b at.less)

pub rest_next : (w p : ℕ) → 1 ≤ w → is_first w (p + 1) ≡ false → rest w p ≡ rest w (p + 1) + 1
rest_next w p one isnt = omega (arith, first_before w p one isnt, rest_some w (p + 1) one)

-- inputs whose words aren't all first have several
pub several : (w p : ℕ) → 1 ≤ w → is_first w p ≡ false → 2 ≤ w
several w p one isnt = go (cases_lt 1 w)
  where
    go : (1 < w) ⊎ (w ≤ 1) → 2 ≤ w
    go (inl l) = l
    go (inr g) =
        let is : w ≡ 1 = omega (arith, g, one) in
        absurd (false≢true (sym isnt ∙ eq-eqb (first_of w p) p (ap (λ n. first_of n p) is ∙ first_alone p)))

pub no_first_before : (w : ℕ) → 1 ≤ w → is_first w 0 ≡ false → ⊥
no_first_before w one isnt = false≢true (sym isnt ∙ eq-eqb (first_of w 0) 0 (omega (arith, first_within w 0)))

-- a player is at most so far behind its input's first
pub place_in : (w p : ℕ) → 1 ≤ w → (first_of w p ≤ p) × (p < first_of w p + w)
place_in w p one = (first_within w p, omega (arith, rest_some w p one))

-- each player so far behind is a word of the same input
pub first_in : (w p k : ℕ) → k < w → first_of w (first_of w p + k) ≡ first_of w p
first_in w p k l = go (after w p (omega (arith, l)))
  where
    go : IsAfter w p → first_of w (first_of w p + k) ≡ first_of w p
    go at =
        let first : first_of w p ≡ at.a * w =
        ap (first_of w) (sym at.is) ∙ first_at w at.a at.b at.less in
        ap (λ n. first_of w (n + k)) first ∙ first_at w at.a k l ∙ sym first
