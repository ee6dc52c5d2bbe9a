-- A queue in an array moves on by a place: its first item goes to the array's end.
use Rattle.std.proofs.Common.{◌≡◌, ℕ, zero, suc, ◌-◌, ◌≤◌, List, [], ◌∷◌, ◌++◌, length, take, drop, refl, arith}
use Rattle.std.proofs.Math.Seq.{set-append_seam}
use Rattle.std.proofs.lemmas.List.{length-append, length-take-le, take_all, take-append-le}
use Rattle.std.specs.Prelude.{slice_set}
use Rattle.roll_peer.specs.declared.event.PeerEvent.{PeerEvent}
use Rattle.roll_contact.specs.Clocks.{one_more}
use Rattle.roll_peer.specs.Events.{pushed}

-- of n items all but the first are left
pub take-moved : {X : Type 0} → (n : ℕ) (xs : List X) → 1 ≤ n → n ≤ length xs
    → take (n - 1) (drop 1 xs ++ take 1 xs) ≡ drop 1 (take n xs)
take-moved n [] some few = grind (arith, some, few)
take-moved zero (x ∷ xs) some few = grind (arith, some)
take-moved (suc n) (x ∷ xs) some few =
    let less : suc n - 1 ≡ n = omega arith in
    let fewer : n ≤ length xs = omega (arith, few) in
    rw less (take-append-le n xs (x ∷ []) fewer)

-- of a full array all but the first item are left, and another one follows
pub take-replaced : {X : Type 0} → (n : ℕ) (xs : List X) (e : X) → length xs ≡ suc n
    → take (suc n) (slice_set (drop 1 xs ++ take 1 xs) n e)
    ≡ drop 1 (take (suc n) xs) ++ e ∷ []
take-replaced n [] e full = grind (arith, full)
take-replaced n (x ∷ xs) e full =
    let rest : length xs ≡ n = omega (arith, full) in
    let seam : slice_set (xs ++ x ∷ []) n e ≡ xs ++ e ∷ [] =
    rw (← rest) (set-append_seam xs x [] e) in
    let all : take n xs ≡ xs = take_all n xs (omega arith) in
    let longer = length-append xs (e ∷ []) in
    rw (seam, all, take_all (suc n) (xs ++ e ∷ []) (omega (arith, longer, rest))) refl

-- in a full queue the oldest event makes room
pub pushed_full : (events : List PeerEvent) (event : PeerEvent) (count lost : ℕ)
    → length events ≡ 64 → count ≡ 64
    → record {
      events = take count (slice_set (drop 1 events ++ take 1 events) 63 event);
      lost = one_more lost;
    } ≡ pushed (record { events = take count events; lost = lost }) event
pushed_full events event count lost long full =
    let whole : length (take 64 events) ≡ 64 = length-take-le 64 events (omega (arith, long)) in
    rw (full, take-replaced 63 events event long, whole) refl
