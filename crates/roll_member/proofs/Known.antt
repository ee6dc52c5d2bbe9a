-- How many words of a player the match may know.
use Rattle.std.proofs.Common.{◌≡◌, ◌⊎◌, ◌∙◌, ℕ, zero, suc, ◌+◌, ◌-◌, ◌<◌, ◌≤◌, min, refl, ap, sym, subst, arith, inl, inr, true, false}
use Rattle.std.specs.Prelude.{◌==◌}
use Rattle.std.proofs.lemmas.Bool.{cases_Bool, cases_lt}
use Rattle.roll_mesh.specs.declared.limits.TheConstants.{PLAYER_LIMIT}
use Rattle.roll_mesh.specs.declared.seat.Seat.{Seat}
use Rattle.roll_mesh.specs.Groups.{are_grouped, first_of}
use Rattle.roll_mesh.specs.Machines.{left_at, owner_of}
use Rattle.roll_mesh.specs.Meshes.{Seated}
use Rattle.roll_mesh.proofs.Groups.{first_alone, first_below, owners_alike}
use Rattle.roll_session.specs.Seen.{Seen}
use Rattle.roll_member.specs.Joined.{count_of, fewest, known, IsTied}
use Rattle.roll_member.proofs.Inputs.{first_in, first_same, place_in}

pub fewest_within : (count : ℕ → ℕ) (place more k : ℕ) → k ≤ more
    → fewest count place more ≤ count (place + k)
fewest_within count place zero k le =
    let e : place ≡ place + k = omega (arith, le) in
    subst (λ n. count place ≤ count n) e (omega arith)
fewest_within count place (suc more) k le = go (fewest_within count place more k) (cases_lt more k)
  where
    go : (k ≤ more → fewest count place more ≤ count (place + k)) → (more < k) ⊎ (k ≤ more) → min (fewest count place more) (count (place + suc more)) ≤ count (place + k)
    go before (inl l) =
        let e : place + suc more ≡ place + k = omega (arith, l, le) in
        subst (λ n. min (fewest count place more) (count (place + suc more)) ≤ count n) e (omega arith)
    go before (inr l) = omega (arith, before l)

fewest_same : (one other : ℕ → ℕ) (place more : ℕ)
    → ((k : ℕ) → k ≤ more → one (place + k) ≡ other (place + k))
    → fewest one place more ≡ fewest other place more
fewest_same one other place zero h =
    let e : place + 0 ≡ place = omega arith in
    sym (ap one e) ∙ h 0 (omega arith) ∙ ap other e
fewest_same one other place (suc more) h =
    ap (λ n. min n (one (place + suc more))) (fewest_same one other place more (λ k l. h k (omega (arith, l))))
    ∙ ap (λ n. min (fewest other place more) n) (h (suc more) (omega arith))

-- another machine's player
pub known_other : (s : Seen) (seat : Seat) (p : ℕ) → (owner_of seat p == seat.me) ≡ false
    → known s seat p ≡ count_of s p
known_other s seat p e = rw e refl

known_own : (s : Seen) (seat : Seat) (p : ℕ) → (owner_of seat p == seat.me) ≡ true
    → known s seat p ≡ fewest (count_of s) (first_of seat.words p) (seat.words - 1)
known_own s seat p e = rw e refl

pub known_few : (s : Seen) (seat : Seat) (p : ℕ) → 1 ≤ seat.words → known s seat p ≤ count_of s p
known_few s seat p one = go (cases_Bool (owner_of seat p == seat.me))
  where
    go : ((owner_of seat p == seat.me) ≡ true) ⊎ ((owner_of seat p == seat.me) ≡ false)
        → known s seat p ≤ count_of s p
    go (inl mine) =
        let at = place_in seat.words p one in
        let least = fewest_within (count_of s) (first_of seat.words p) (seat.words - 1)
        (p - first_of seat.words p) (omega (arith, at.0, at.1)) in
        let here : first_of seat.words p + (p - first_of seat.words p) ≡ p = omega (arith, at.0) in
        omega (arith, known_own s seat p mine, least, ap (count_of s) here)
    go (inr isnt) = omega (arith, known_other s seat p isnt)

-- where an input has one word
pub known_alone : (s : Seen) (seat : Seat) (p : ℕ) → seat.words ≡ 1 → known s seat p ≡ count_of s p
known_alone s seat p e = go (cases_Bool (owner_of seat p == seat.me))
  where
    go : ((owner_of seat p == seat.me) ≡ true) ⊎ ((owner_of seat p == seat.me) ≡ false)
        → known s seat p ≡ count_of s p
    go (inl mine) = known_own s seat p mine
        ∙ ap (λ w. fewest (count_of s) (first_of w p) (w - 1)) e
        ∙ ap (count_of s) (first_alone p)
    go (inr isnt) = known_other s seat p isnt

-- where the words of the same input are as many as before
pub known_stays : (old new : Seen) (seat : Seat) (p : ℕ) → 1 ≤ seat.words
    → count_of new p ≡ count_of old p
    → ((owner_of seat p == seat.me) ≡ true → (q : ℕ) → first_of seat.words q ≡ first_of seat.words p
    → count_of new q ≡ count_of old q) → known new seat p ≡ known old seat p
known_stays old new seat p one here same = go (cases_Bool (owner_of seat p == seat.me))
  where
    go : ((owner_of seat p == seat.me) ≡ true) ⊎ ((owner_of seat p == seat.me) ≡ false)
        → known new seat p ≡ known old seat p
    go (inl mine) = known_own new seat p mine
        ∙ fewest_same (count_of new) (count_of old) (first_of seat.words p) (seat.words - 1)
        (λ k l. same mine (first_of seat.words p + k) (first_in seat.words p k (omega (arith, l, one))))
        ∙ sym (known_own old seat p mine)
    go (inr isnt) = known_other new seat p isnt ∙ here ∙ sym (known_other old seat p isnt)

-- as much is known of one word of an own input as of another
pub known_alike : (s : Seen) (seat : Seat) (p : ℕ) → 1 ≤ seat.words → are_grouped seat ≡ true
    → p < PLAYER_LIMIT → (owner_of seat p == seat.me) ≡ true
    → known s seat p ≡ known s seat (first_of seat.words p)
known_alike s seat p one grouped lt mine =
    known_own s seat p mine
    ∙ ap (λ n. fewest (count_of s) n (seat.words - 1)) (sym (first_same seat.words p one))
    ∙ sym (known_own s seat (first_of seat.words p)
    (sym (ap (λ o. o == seat.me) (owners_alike seat grouped p lt)) ∙ mine))

-- a session has as many of one word of another machine's input as of another, and they leave at one frame
pub whole_input : (s : Seen) (mesh : Seated) (p : ℕ) → IsTied s mesh → p < PLAYER_LIMIT
    → (owner_of mesh.seat p == mesh.seat.me) ≡ false
    → (count_of s p ≡ count_of s (first_of mesh.seat.words p))
    × (left_at mesh.machine p ≡ left_at mesh.machine (first_of mesh.seat.words p))
whole_input s mesh p tied lt other =
    let q : ℕ = first_of mesh.seat.words p in
    let below : q < PLAYER_LIMIT = first_below mesh.seat.words p lt in
    let also : (owner_of mesh.seat q == mesh.seat.me) ≡ false =
    sym (ap (λ o. o == mesh.seat.me) (owners_alike mesh.seat tied.whole.grouped p lt)) ∙ other in (
      sym ((tied.players p lt).count ∙ known_other s mesh.seat p other) ∙ tied.whole.counts p lt
          ∙ (tied.players q below).count ∙ known_other s mesh.seat q also,
      tied.whole.parts p lt,
    )
