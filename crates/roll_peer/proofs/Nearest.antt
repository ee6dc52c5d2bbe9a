-- Of what was noted between two frames the nearest to their middle is found.
use Rattle.std.proofs.Common.{◌≡◌, ◌∙◌, ◌⊎◌, inl, inr, ℕ, zero, suc, ◌<◌, ◌≤◌, Bool, true, false, Option, Some, None, refl, ap, subst, sym, arith}
use Rattle.std.specs.Prelude.{◌%◌, ◌==◌, ◌&&◌, if◌then◌else◌, nat_le, nat_lt, slice_index_or, IfSome}
use Rattle.std.specs.Option.{option_and_then}
use Rattle.std.proofs.lemmas.Bool.{cases_eq, eqb-true, le-leb, leb-true, lt-ltb, ltb-false, ltb-true}
use Rattle.roll_wire.specs.declared.datagram.Settled.{Settled}
use Rattle.roll_peer.specs.Digests.{apart, if_between, if_of, middle, nearer, nearest_among, noted_at, IsAsNear}
use Rattle.roll_peer.specs.declared.digests.Digests.{Digests}
use Rattle.roll_peer.specs.declared.digests.TheConstants.{DIGEST_LIMIT}

abbrev Lies : (from to : ℕ) → Settled → Type 0
Lies from to settled = (from ≤ settled.frame) × (settled.frame < to)

-- ---- where it lies

either_lies : (frame : ℕ) (one other : Option Settled) (P : Settled → Type 0) → IfSome one P → IfSome other P
    → IfSome (nearer frame one other) P
either_lies frame None other P h k = k
either_lies frame (Some one) None P h k = h
either_lies frame (Some one) (Some other) P h k = go (nat_lt (apart other.frame frame) (apart one.frame frame))
  where
    go : (b : Bool) → IfSome (if b then Some other else Some one) P
    go true = k
    go false = h

if_lies : (from to : ℕ) (o : Option Settled) → IfSome (if_between from to o) (Lies from to)
if_lies from to None = tt
if_lies from to (Some settled) = go (nat_le from settled.frame) (nat_lt settled.frame to) refl refl
  where
    go : (a b : Bool) → nat_le from settled.frame ≡ a → nat_lt settled.frame to ≡ b
        → IfSome (if a && b then Some settled else None) (Lies from to)
    go true true e f = (leb-true from settled.frame e, ltb-true settled.frame to f)
    go true false e f = tt
    go false b e f = tt

pub nearest_lies : (digests : Digests) (from to n : ℕ) → IfSome (nearest_among digests from to n) (Lies from to)
unfolding nearest_among
nearest_lies digests from to zero = tt
nearest_lies digests from to (suc n) =
    let here : Option Settled = if_between from to (slice_index_or digests.places n None) in
    either_lies (middle from to) (nearest_among digests from to n) here (Lies from to) (nearest_lies digests from to n)
    (if_lies from to (slice_index_or digests.places n None))

-- ---- that none is nearer

first_reaches : (frame : ℕ) (one other : Option Settled) (settled : Settled) → IsAsNear frame one settled
    → IsAsNear frame (nearer frame one other) settled
first_reaches frame None other settled h = absurd h
first_reaches frame (Some one) None settled h = h
first_reaches frame (Some one) (Some other) settled h = go (nat_lt (apart other.frame frame) (apart one.frame frame)) refl
  where
    go : (b : Bool) → nat_lt (apart other.frame frame) (apart one.frame frame) ≡ b
        → IsAsNear frame (if b then Some other else Some one) settled
    go true e = omega (arith, ltb-true (apart other.frame frame) (apart one.frame frame) e, h)
    go false e = h

other_reaches : (frame : ℕ) (one : Option Settled) (settled : Settled)
    → IsAsNear frame (nearer frame one (Some settled)) settled
other_reaches frame None settled = omega arith
other_reaches frame (Some one) settled = go (nat_lt (apart settled.frame frame) (apart one.frame frame)) refl
  where
    go : (b : Bool) → nat_lt (apart settled.frame frame) (apart one.frame frame) ≡ b
        → IsAsNear frame (if b then Some settled else Some one) settled
    go true e = omega arith
    go false e = ltb-false (apart settled.frame frame) (apart one.frame frame) e

nearest_reaches : (digests : Digests) (from to n k : ℕ) (settled : Settled) → k < n
    → if_between from to (slice_index_or digests.places k None) ≡ Some settled
    → IsAsNear (middle from to) (nearest_among digests from to n) settled
unfolding nearest_among
nearest_reaches digests from to zero k settled l e = absurd (omega (arith, l))
nearest_reaches digests from to (suc n) k settled l e =
    go (cases_eq k n) (λ less. nearest_reaches digests from to n k settled less e)
  where
    before : Option Settled
    before = nearest_among digests from to n

    go : (k ≡ n) ⊎ (k ≡ n → ⊥) → (k < n → IsAsNear (middle from to) before settled)
        → IsAsNear (middle from to) (nearer (middle from to) before (if_between from to (slice_index_or digests.places n None))) settled
    go (inl same) earlier =
        subst (λ (o : Option Settled). IsAsNear (middle from to) (nearer (middle from to) before o) settled)
        (sym (sym (ap (λ (i : ℕ). if_between from to (slice_index_or digests.places i None)) same) ∙ e))
        (other_reaches (middle from to) before settled)
    go (inr other) earlier =
        first_reaches (middle from to) before (if_between from to (slice_index_or digests.places n None)) settled
        (earlier (omega (arith, l, other)))

pub noted_reaches : (digests : Digests) (from to frame : ℕ) → from ≤ frame → frame < to
    → IfSome (noted_at digests frame) (IsAsNear (middle from to) (nearest_among digests from to DIGEST_LIMIT))
noted_reaches digests from to frame low up = go (slice_index_or digests.places place None) refl
  where
    place : ℕ
    place = frame % DIGEST_LIMIT

    inside : place < DIGEST_LIMIT
    inside = omega arith

    found : Option Settled
    found = nearest_among digests from to DIGEST_LIMIT

    lies : (settled : Settled) → settled.frame ≡ frame → if_between from to (Some settled) ≡ Some settled
    lies settled same =
        rw (le-leb from settled.frame (omega (arith, same, low)), lt-ltb settled.frame to (omega (arith, same, up))) refl

    go : (o : Option Settled) → slice_index_or digests.places place None ≡ o
        → IfSome (option_and_then (if_of frame) o) (IsAsNear (middle from to) found)
    go None e = tt
    go (Some settled) e = of_frame (settled.frame == frame) refl
      where
        of_frame : (b : Bool) → (settled.frame == frame) ≡ b
            → IfSome (if b then Some settled else None) (IsAsNear (middle from to) found)
        of_frame true f =
            nearest_reaches digests from to DIGEST_LIMIT place settled inside
            (ap (λ o. if_between from to o) e ∙ lies settled (eqb-true settled.frame frame f))
        of_frame false f = tt
