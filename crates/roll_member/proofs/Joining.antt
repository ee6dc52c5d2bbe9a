-- A session takes its seat.
use Rattle.std.proofs.Common.{◌≡◌, ◌≢◌, ◌∙◌, ◌≤◌, ◌<◌, ℕ, ◌+◌, List, length, refl, ap, sym, arith, Bool, true, false, Result, Ok, Err, eq-eqb, below_more}
use Rattle.std.specs.Bool.{beq}
use Rattle.std.specs.Prelude.{slice_index, slice_set, is_err, OnOk, not, nat_lt, ◌==◌, ◌||◌}
use Rattle.std.proofs.lemmas.Bool.{and_parts, eqb-true, false≢true}
use Rattle.std.proofs.lemmas.List.{get_or-set_other, get_or-set_same, length-set, set-set}
use Rattle.roll_mesh.proofs.Places.{all_below}
use Rattle.roll_mesh.specs.Machines.{give, owner_of}
use Rattle.roll_mesh.specs.Meshes.{stepped, Seated}
use Rattle.roll_mesh.specs.Worlds.{first_machine}
use Rattle.roll_mesh.specs.declared.limits.TheConstants.{PLAYER_LIMIT}
use Rattle.roll_mesh.specs.declared.seat.Seat.{Seat}
use Rattle.roll_member.proofs.Tied.{same_bools}
use Rattle.roll_session.specs.Headline.{words_of}
use Rattle.roll_session.specs.Seen.{Seen}
use Rattle.roll_member.specs.Joined.{are_fresh, are_seated, is_fresh_at, is_gone_at, is_local_at, is_seated_at, known}

-- a mesh whose machine has so many words of a player
abbrev pub with_count : Seated → ℕ → ℕ → Seated
with_count mesh p count =
    record mesh { machine = record mesh.machine { has = slice_set mesh.machine.has p count } }

-- one more word of an own player
pub given_more : (old mid new : Seated) (p count : ℕ) → p < length old.machine.has
    → owner_of old.seat p ≡ old.seat.me → mid ≡ with_count old p count
    → new ≡ stepped (λ seat machine. give seat p machine) mid → new ≡ with_count old p (count + 1)
unfolding give
given_more old mid new p count inside own before now =
    let there : slice_index (slice_set old.machine.has p count) p ≡ count =
    get_or-set_same old.machine.has p count 0 inside in
    now
    ∙ rw (before, eq-eqb (owner_of old.seat p) old.seat.me own, there)
    (ap (λ (has : List ℕ). record old { machine = record old.machine { has = has } })
    (set-set old.machine.has p count (count + 1)))

-- what holds of a call that did no harm
pub if_done : {T E : Type 0} {P : Type 0} (r : Result T E) → is_err r ≡ false → OnOk r P → P
if_done (Ok x) e h = h
if_done (Err why) e h = absurd (false≢true (sym e))

-- of the players before a place there are as many words as in the session, and of the others none
pub record IsGivenTo (s : Seen) (seat : Seat) (has : List ℕ) (place : ℕ) : Type 0 where
  pub all : length has ≡ PLAYER_LIMIT
  pub given : (p : ℕ) → p < place → slice_index has p ≡ known s seat p
  pub none : (p : ℕ) → place ≤ p → slice_index has p ≡ 0

-- a mesh that was told nothing still wasn't once it has other numbers of words
pub still_first : (old mid new : Seated) (has : List ℕ)
    → mid ≡ record old { machine = record first_machine { has = mid.machine.has } }
    → new ≡ record mid { machine = record mid.machine { has = has } }
    → new ≡ record old { machine = record first_machine { has = new.machine.has } }
still_first old mid new has first e =
    e ∙ ap (λ (m : Seated). record m { machine = record m.machine { has = has } }) first
    ∙ ap (λ (h : List ℕ). record old { machine = record first_machine { has = h } })
    (sym (ap (λ (m : Seated). m.machine.has) e))

-- the words of an own player
pub given_own : (s : Seen) (seat : Seat) (has : List ℕ) (place : ℕ) → place < PLAYER_LIMIT → IsGivenTo s seat has place
    → IsGivenTo s seat (slice_set has place (known s seat place)) (place + 1)
given_own s seat has place l i = record {
  all = length-set has place count ∙ i.all;
  given = below_more (λ p. slice_index new p ≡ known s seat p) place
      (λ p h. other p (λ e. omega arith) ∙ i.given p h)
      (get_or-set_same has place count 0 (omega (arith, i.all)));
  none = λ p h. other p (λ e. omega arith) ∙ i.none p (omega arith);
}
  where
    count : ℕ
    count = known s seat place

    new : List ℕ
    new = slice_set has place count

    other : (p : ℕ) → p ≢ place → slice_index new p ≡ slice_index has p
    other p apart = get_or-set_other has place p count 0 apart

-- a player without words
pub given_other : (s : Seen) (seat : Seat) (has : List ℕ) (place : ℕ) → known s seat place ≡ 0
    → IsGivenTo s seat has place → IsGivenTo s seat has (place + 1)
given_other s seat has place e i = record {
  all = i.all;
  given = below_more (λ p. slice_index has p ≡ known s seat p) place i.given
      (i.none place (omega arith) ∙ sym e);
  none = λ p h. i.none p (omega arith);
}

-- the seat owns a local player
pub own_of : (s : Seen) (seat : Seat) (p : ℕ) → p < PLAYER_LIMIT → are_seated s seat ≡ true
    → is_local_at s p ≡ true → owner_of seat p ≡ seat.me
unfolding are_seated
own_of s seat p l seated here =
    let at = and_parts (beq (is_local_at s p) (owner_of seat p == seat.me))
    (beq (nat_lt p (length s.core.players)) (nat_lt (owner_of seat p) seat.machines))
    (all_below (is_seated_at s seat) PLAYER_LIMIT p seated l) in
    let own : beq true (owner_of seat p == seat.me) ≡ true =
    sym (ap (λ b. beq b (owner_of seat p == seat.me)) here) ∙ at.0 in
    eqb-true (owner_of seat p) seat.me (same_true (owner_of seat p == seat.me) own)
  where
    same_true : (b : Bool) → beq true b ≡ true → b ≡ true
    same_true true e = refl
    same_true false e = e

-- another machine owns a player that isn't local
pub other_of : (s : Seen) (seat : Seat) (p : ℕ) → p < PLAYER_LIMIT → are_seated s seat ≡ true
    → is_local_at s p ≡ false → (owner_of seat p == seat.me) ≡ false
unfolding are_seated
other_of s seat p l seated away =
    let at = and_parts (beq (is_local_at s p) (owner_of seat p == seat.me))
    (beq (nat_lt p (length s.core.players)) (nat_lt (owner_of seat p) seat.machines))
    (all_below (is_seated_at s seat) PLAYER_LIMIT p seated l) in
    sym (same_bools (is_local_at s p) (owner_of seat p == seat.me) at.0) ∙ away

-- a player that isn't local has no words yet
pub no_words : (s : Seen) (p : ℕ) → p < PLAYER_LIMIT → are_fresh s ≡ true
    → is_local_at s p ≡ false → length (words_of s (p + 1)) ≡ 0
unfolding are_fresh
no_words s p l fresh away =
    let at = and_parts (is_local_at s p || (length (words_of s (p + 1)) == 0))
    (not (is_gone_at s p)) (all_below (is_fresh_at s) PLAYER_LIMIT p fresh l) in
    let none : (false || (length (words_of s (p + 1)) == 0)) ≡ true =
    sym (ap (λ b. b || (length (words_of s (p + 1)) == 0)) away) ∙ at.0 in
    eqb-true (length (words_of s (p + 1))) 0 none
