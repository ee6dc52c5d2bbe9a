-- A mesh beside a session.
use Rattle.std.proofs.Common.{◌≡◌, ◌∙◌, ◌⊎◌, ℕ, ◌+◌, ◌<◌, ◌≤◌, List, length, ap, sym, arith, true, false, inl, inr}
use Rattle.std.specs.Prelude.{is_some, not, nat_le, nat_lt, ◌==◌, ◌&&◌, ◌||◌, slice_index, slice_set}
use Rattle.std.specs.Bool.{beq}
use Rattle.std.proofs.lemmas.Bool.{and_parts, cases_Bool, cases_eq, eqb-true, leb-true}
use Rattle.std.proofs.lemmas.List.{get_or-set_other, get_or-set_same, length-set}
use Rattle.roll_mesh.proofs.Places.{all_below, at_place, filled, length_places}
use Rattle.roll_mesh.specs.declared.limits.TheConstants.{PLAYER_LIMIT}
use Rattle.roll_mesh.specs.declared.seat.Seat.{Seat}
use Rattle.roll_mesh.specs.Groups.{first_of}
use Rattle.roll_mesh.specs.Machines.{at_places, left_at, owner_of}
use Rattle.roll_mesh.proofs.Groups.{first_below, owners_alike}
use Rattle.roll_mesh.specs.Meshes.{Seated}
use Rattle.roll_session.specs.Seen.{Seen}
use Rattle.roll_member.proofs.Known.{known_alike}
use Rattle.roll_member.proofs.Tied.{same_bools, whole_with}
use Rattle.roll_member.specs.Joined.{is_gone_at, is_local_at, is_seated_at, known, IsTied}
use Rattle.roll_member.specs.Beside.{caught_up, is_near, is_near_at, IsSteady}

-- what the test finds out of a player
pub record IsNearAt (s : Seen) (mesh : Seated) (p : ℕ) : Type 0 where
  pub own : is_local_at s p ≡ (owner_of mesh.seat p == mesh.seat.me)
  pub there : nat_lt p (length s.core.players) ≡ nat_lt (owner_of mesh.seat p) mesh.seat.machines
  pub few : slice_index mesh.machine.has p ≤ known s mesh.seat p
  pub all : (owner_of mesh.seat p == mesh.seat.me) ≡ false
      → slice_index mesh.machine.has p ≡ known s mesh.seat p
  pub gone : is_gone_at s p ≡ true → is_some (left_at mesh.machine p) ≡ true

pub near_at : (s : Seen) (mesh : Seated) → is_near s mesh ≡ true → (p : ℕ) → p < PLAYER_LIMIT
    → IsNearAt s mesh p
unfolding is_near
near_at s mesh near p lt =
    let has = slice_index mesh.machine.has p in
    let count = known s mesh.seat p in
    let mine = owner_of mesh.seat p == mesh.seat.me in
    let a = and_parts (is_seated_at s mesh.seat p)
    (nat_le has count && ((mine || (has == count)) && (not (is_gone_at s p) || is_some (left_at mesh.machine p))))
    (all_below (is_near_at s mesh) PLAYER_LIMIT p near lt) in
    let seated = and_parts (beq (is_local_at s p) mine)
    (beq (nat_lt p (length s.core.players)) (nat_lt (owner_of mesh.seat p) mesh.seat.machines)) a.0 in
    let b = and_parts (nat_le has count)
    ((mine || (has == count)) && (not (is_gone_at s p) || is_some (left_at mesh.machine p))) a.1 in
    let c = and_parts (mine || (has == count)) (not (is_gone_at s p) || is_some (left_at mesh.machine p)) b.1 in
    record {
      own = same_bools (is_local_at s p) mine seated.0;
      there = same_bools (nat_lt p (length s.core.players))
          (nat_lt (owner_of mesh.seat p) mesh.seat.machines) seated.1;
      few = leb-true has count b.0;
      all = λ isnt. eqb-true has count (sym (ap (λ b. b || (has == count)) isnt) ∙ c.0);
      gone = λ does. sym (ap (λ b. not b || is_some (left_at mesh.machine p)) does) ∙ c.1;
    }

-- a mesh that has caught up with a session that it may be of
pub near_tied : (s : Seen) (mesh : Seated) → IsSteady mesh → is_near s mesh ≡ true
    → IsTied s (caught_up s mesh)
near_tied s mesh steady near = record {
  here = steady.here;
  sized = length_places (known s mesh.seat) mesh.machine.has ∙ steady.sized;
  whole = whole_with mesh (at_places (known s mesh.seat) mesh.machine.has) steady.whole
      (λ p lt. alike p lt (cases_Bool (owner_of mesh.seat p == mesh.seat.me)));
  players = λ p lt.
      let n = near_at s mesh near p lt in
      let t = steady.players p lt in
      record {
        count = count p lt;
        there = n.there;
        own = n.own;
        gone = n.gone;
        stays = λ m h. count p lt ∙ sym (n.all (t.remote (ap (λ o. is_some o) h))) ∙ t.stays m h;
        remote = λ h. n.own ∙ t.remote h;
      };
}
  where
    count : (p : ℕ) → p < PLAYER_LIMIT
        → slice_index (caught_up s mesh).machine.has p ≡ known s mesh.seat p
    count p lt = at_place (known s mesh.seat) mesh.machine.has p 0 (omega (arith, lt, steady.sized))

    alike : (p : ℕ) → p < PLAYER_LIMIT → ((owner_of mesh.seat p == mesh.seat.me) ≡ true)
        ⊎ ((owner_of mesh.seat p == mesh.seat.me) ≡ false)
        → slice_index (caught_up s mesh).machine.has p
        ≡ slice_index (caught_up s mesh).machine.has (first_of mesh.seat.words p)
    alike p lt b =
        let q : ℕ = first_of mesh.seat.words p in
        let below : q < PLAYER_LIMIT = first_below mesh.seat.words p lt in
        count p lt ∙ go b ∙ sym (count q below)
      where
        go : ((owner_of mesh.seat p == mesh.seat.me) ≡ true)
            ⊎ ((owner_of mesh.seat p == mesh.seat.me) ≡ false)
            → known s mesh.seat p ≡ known s mesh.seat (first_of mesh.seat.words p)
        go (inl mine) = known_alike s mesh.seat p steady.whole.word steady.whole.grouped lt mine
        go (inr isnt) =
            let q : ℕ = first_of mesh.seat.words p in
            let below : q < PLAYER_LIMIT = first_below mesh.seat.words p lt in
            let also : (owner_of mesh.seat q == mesh.seat.me) ≡ false =
            sym (ap (λ o. o == mesh.seat.me) (owners_alike mesh.seat steady.whole.grouped p lt)) ∙ isnt in
            sym ((near_at s mesh near p lt).all isnt) ∙ steady.whole.counts p lt
            ∙ (near_at s mesh near q below).all also

-- what a mesh that is tied keeps by itself
pub tied_steady : (s : Seen) (mesh : Seated) → IsTied s mesh → IsSteady mesh
tied_steady s mesh tied = record {
  here = tied.here;
  sized = tied.sized;
  whole = tied.whole;
  players = λ p lt. let t = tied.players p lt in record {
    stays = t.stays;
    remote = λ h. sym t.own ∙ t.remote h;
  };
}

-- of the players before a place the mesh knows all words, of the others as many as before
pub record IsCaughtUp (s : Seen) (seat : Seat) (old new : List ℕ) (place : ℕ) : Type 0 where
  pub sized : length new ≡ length old
  pub now : (p : ℕ) → p < place → p < PLAYER_LIMIT → slice_index new p ≡ known s seat p
  pub later : (p : ℕ) → place ≤ p → slice_index new p ≡ slice_index old p

pub caught_own : (s : Seen) (seat : Seat) (old new : List ℕ) (place : ℕ) → place < PLAYER_LIMIT
    → length old ≡ PLAYER_LIMIT → IsCaughtUp s seat old new place
    → IsCaughtUp s seat old (slice_set new place (known s seat place)) (place + 1)
caught_own s seat old new place l many c = record {
  sized = length-set new place count ∙ c.sized;
  now = λ p h lt. at p h lt (cases_eq p place);
  later = λ p h. other p (λ e. omega (arith, e, h)) ∙ c.later p (omega (arith, h));
}
  where
    count : ℕ
    count = known s seat place

    other : (p : ℕ) → (p ≡ place → ⊥) → slice_index (slice_set new place count) p ≡ slice_index new p
    other p apart = get_or-set_other new place p count 0 apart

    at : (p : ℕ) → p < place + 1 → p < PLAYER_LIMIT → (p ≡ place) ⊎ (p ≡ place → ⊥)
        → slice_index (slice_set new place count) p ≡ known s seat p
    at p h lt (inl e) =
        ap (λ k. slice_index (slice_set new place count) k) e
        ∙ get_or-set_same new place count 0 (omega (arith, l, many, c.sized))
        ∙ ap (λ k. known s seat k) (sym e)
    at p h lt (inr apart) =
        let less : p < place = omega (arith, h, below p place h apart) in
        other p apart ∙ c.now p less lt
      where
        below : (p q : ℕ) → p < q + 1 → (p ≡ q → ⊥) → p < q
        below p q h apart = omega arith

pub caught_other : (s : Seen) (seat : Seat) (old new : List ℕ) (place : ℕ)
    → slice_index old place ≡ known s seat place
    → IsCaughtUp s seat old new place → IsCaughtUp s seat old new (place + 1)
caught_other s seat old new place e c = record {
  sized = c.sized;
  now = λ p h lt. at p h lt (cases_eq p place);
  later = λ p h. c.later p (omega (arith, h));
}
  where
    at : (p : ℕ) → p < place + 1 → p < PLAYER_LIMIT → (p ≡ place) ⊎ (p ≡ place → ⊥)
        → slice_index new p ≡ known s seat p
    at p h lt (inl same) =
        ap (λ k. slice_index new k) same ∙ c.later place (omega arith) ∙ e
        ∙ ap (λ k. known s seat k) (sym same)
    at p h lt (inr apart) = c.now p (below p place h apart) lt
      where
        below : (p q : ℕ) → p < q + 1 → (p ≡ q → ⊥) → p < q
        below p q h apart = omega arith

pub caught_all : (s : Seen) (mesh now : Seated) → length mesh.machine.has ≡ PLAYER_LIMIT
    → now ≡ record mesh { machine = record mesh.machine { has = now.machine.has } }
    → IsCaughtUp s mesh.seat mesh.machine.has now.machine.has PLAYER_LIMIT → now ≡ caught_up s mesh
caught_all s mesh now many e c =
    e ∙ ap (λ (has : List ℕ). record mesh { machine = record mesh.machine { has = has } })
    (filled (known s mesh.seat) mesh.machine.has now.machine.has 0 c.sized
    (λ k l. c.now k (omega (arith, l, many)) (omega (arith, l, many))))

-- a mesh that differs in its counts still does once it has others
pub rest_more : (old mid new : Seated) (has : List ℕ)
    → mid ≡ record old { machine = record old.machine { has = mid.machine.has } }
    → new ≡ record mid { machine = record mid.machine { has = has } }
    → new ≡ record old { machine = record old.machine { has = new.machine.has } }
rest_more old mid new has before e =
    e ∙ ap (λ (m : Seated). record m { machine = record m.machine { has = has } }) before
    ∙ ap (λ (h : List ℕ). record old { machine = record old.machine { has = h } })
    (sym (ap (λ (m : Seated). m.machine.has) e))
