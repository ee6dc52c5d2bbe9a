-- Who owns what in the next epoch.
use Rattle.std.proofs.Common.{◌≡◌, ℕ, zero, suc, ◌+◌, ◌*◌, ◌/◌, ◌<◌, ◌≤◌, List, [], ◌∷◌, Bool, true, false, length, eqb, refl, sym, ap, subst, ◌∙◌, arith, inl, inr, Option, Some, None}
use Rattle.std.specs.Prelude.{◌⊎◌, ◌&&◌, ◌||◌, ◌==◌, not, filter, slice_get, if◌then◌else◌}
use Rattle.std.specs.List.{range_with_len}
use Rattle.std.proofs.Math.Nat.{mul-div_cancel, mul-zero}
use Rattle.std.proofs.lemmas.Bool.{and_parts, cases_lt, eq-eqb, eqb-true, ne_eqb, or_from, or_left, or_right}
use Rattle.std.proofs.lemmas.List.FromFn.{get_or-map-range_with_len, length-map-range_with_len}
use Rattle.roll_mesh.proofs.Groups.{first_below}
use Rattle.roll_mesh.specs.Groups.{AreAlike, first_of}
use Rattle.roll_mesh.specs.declared.limits.TheConstants.{MACHINE_LIMIT, PLAYER_LIMIT}
use Rattle.roll_wire.specs.declared.datagram.Newcomer.{Newcomer}
use Rattle.roll_epoch.specs.Ends.{owner_of}
use Rattle.roll_epoch.specs.Laws.{InputsStayWhole, NobodyLosesAPlayer, PlayersStay}
use Rattle.roll_epoch.specs.Successions.{come, each_player, free_seat, given, given_at, given_to, is_asked_at, is_free_player, is_free_seat, kept_owner, kept_owners, next_owners, owner_with, place_for, seated, stays}
use Rattle.roll_epoch.specs.declared.limits.TheConstants.{FREE, NO_MACHINE}

-- an owner is as before, or the player was free, and a newcomer of this number has it
abbrev Stays : (seat before now : ℕ) → Type 0
Stays seat before now = (now ≡ before) ⊎ ((before ≡ FREE) × (now ≡ seat))

record AreGiven (seat : ℕ) (before now : List ℕ) : Type 0 where
  each : (p : ℕ) → p < PLAYER_LIMIT → Stays seat (owner_of before p) (owner_of now p)

pub each_is : (f : ℕ → ℕ) (p : ℕ) → p < PLAYER_LIMIT → owner_of (each_player f) p ≡ f p
unfolding each_player
each_is f p l = get_or-map-range_with_len f 0 PLAYER_LIMIT p p 0 l (omega arith)

-- the first that passes a test passes it
passes : (test : ℕ → Bool) (xs : List ℕ) (q : ℕ) → slice_get (filter test xs) 0 ≡ Some q → test q ≡ true
passes test [] q e = absurd cc
passes test (x ∷ xs) q e = go (λ f. passes test xs q f) (test x) refl e
  where
    some_is : (a b : ℕ) → Some a ≡ Some b → a ≡ b
    some_is a b e = cc

    go : (slice_get (filter test xs) 0 ≡ Some q → test q ≡ true) → (b : Bool) → test x ≡ b
        → slice_get (if b then x ∷ filter test xs else filter test xs) 0 ≡ Some q → test q ≡ true
    go others true t e = subst (λ (n : ℕ). test n ≡ true) (some_is x q e) t
    go others false t e = others e

first_passes : (test : ℕ → Bool) (n q : ℕ) → slice_get (filter test (range_with_len 0 n)) 0 ≡ Some q → test q ≡ true
first_passes test n q e = passes test (range_with_len 0 n) q e

pub in_range : (test : ℕ → Bool) (a n q : ℕ) → slice_get (filter test (range_with_len a n)) 0 ≡ Some q → q < a + n
in_range test a zero q e = absurd cc
in_range test a (suc n) q e = go (λ l. in_range test (a + 1) n q l) (test a) e
  where
    others : List ℕ
    others = filter test (range_with_len (a + 1) n)

    some_is : (a b : ℕ) → Some a ≡ Some b → a ≡ b
    some_is a b e = cc

    go : (slice_get others 0 ≡ Some q → q < a + 1 + n) → (b : Bool)
        → slice_get (if b then a ∷ others else others) 0 ≡ Some q → q < a + suc n
    go later true e = omega (arith, some_is a q e)
    go later false e = omega (arith, later e)

clash : (b : Bool) → b ≡ true → not b ≡ true → ⊥
clash true p q = absurd cc
clash false p q = absurd cc

-- nobody has a free number
none_at : (owners : List ℕ) (seat p : ℕ) → p < length owners → is_free_seat owners seat ≡ true → owner_of owners p ≡ seat → ⊥
none_at [] seat p l f e = absurd (omega (arith, l))
none_at (o ∷ owners) seat zero l f e =
    clash (eqb o seat) (eq-eqb o seat e) (and_parts (not (eqb o seat)) (is_free_seat owners seat) f).0
none_at (o ∷ owners) seat (suc p) l f e =
    none_at owners seat p (omega (arith, l)) (and_parts (not (eqb o seat)) (is_free_seat owners seat) f).1 e

give : (seat words : ℕ) (before now : List ℕ) (q : ℕ) → AreGiven seat before now
    → AreGiven seat before (given_at seat words now (Some q))
give seat words before now q are = record {
  each = λ p l. subst (λ (n : ℕ). Stays seat (owner_of before p) n)
      (sym (each_is (owner_with seat words now q) p l))
      (go p (are.each p l) (is_free_player now p && (first_of words p == q)) refl);
}
  where
    new : (p : ℕ) → Stays seat (owner_of before p) (owner_of now p) → owner_of now p ≡ FREE
        → Stays seat (owner_of before p) seat
    new p (inl same) free = inr (sym same ∙ free, refl)
    new p (inr was) free = inr (was.0, refl)

    go : (p : ℕ) → Stays seat (owner_of before p) (owner_of now p) → (b : Bool)
        → (is_free_player now p && (first_of words p == q)) ≡ b
        → Stays seat (owner_of before p) (if b then seat else owner_of now p)
    go p was false e = was
    go p was true e =
        new p was (eqb-true (owner_of now p) FREE (and_parts (is_free_player now p) (first_of words p == q) e).0)

give_one : (seat words : ℕ) (before now : List ℕ) (p : ℕ) → AreGiven seat before now
    → AreGiven seat before (given seat words now p)
give_one seat words before now p are = go (place_for words now p)
  where
    go : (o : Option ℕ) → AreGiven seat before (given_at seat words now o)
    go None = are
    go (Some q) = give seat words before now q are

give_all : (seat words : ℕ) (asked : List Bool) (before : List ℕ) (n : ℕ)
    → AreGiven seat before (given_to seat words asked before n)
give_all seat words asked before zero = record { each = λ p l. inl refl }
give_all seat words asked before (suc n) = go (give_all seat words asked before n) (is_asked_at words asked n)
  where
    go : AreGiven seat before (given_to seat words asked before n) → (b : Bool) → AreGiven seat before
        (if b then given seat words (given_to seat words asked before n) n else given_to seat words asked before n)
    go rest true = give_one seat words before (given_to seat words asked before n) n rest
    go rest false = rest

-- ---- who has a player then

abbrev Others : (before now : List ℕ) → ℕ → Type 0
Others before now p =
    (owner_of now p ≡ owner_of before p) ⊎ ((owner_of before p ≡ FREE) × (free_seat before ≡ Some (owner_of now p)))

others : (words : ℕ) (n : Option Newcomer) (before : List ℕ) (p : ℕ) → p < PLAYER_LIMIT
    → Others before (come words n before) p
others words None before p l = inl refl
others words (Some n) before p l = go (free_seat before) refl
  where
    named : (seat : ℕ) → free_seat before ≡ Some seat
        → Stays seat (owner_of before p) (owner_of (given_to seat words n.players before PLAYER_LIMIT) p)
        → Others before (given_to seat words n.players before PLAYER_LIMIT) p
    named seat e (inl same) = inl same
    named seat e (inr new) = inr (new.0, e ∙ ap (λ (s : ℕ). Some s) (sym new.1))

    go : (o : Option ℕ) → free_seat before ≡ o → Others before (seated o words n.players before) p
    go None e = inl refl
    go (Some seat) e = named seat e ((give_all seat words n.players before PLAYER_LIMIT).each p l)

apart : (before : List ℕ) (seat p : ℕ) → length before ≡ PLAYER_LIMIT → free_seat before ≡ Some seat → p < PLAYER_LIMIT
    → owner_of before p ≡ seat → ⊥
apart before seat p len e l is =
    none_at before seat p (omega (arith, len, l)) (first_passes (is_free_seat before) MACHINE_LIMIT seat e) is

-- who owns a player still, by who owned it
abbrev kept_by : List ℕ → List (Option ℕ) → (end owner : ℕ) → ℕ
kept_by owners left end owner =
    if (owner == NO_MACHINE) || stays owners left end owner then owner else FREE

kept_is : (owners : List ℕ) (left : List (Option ℕ)) (end p : ℕ) → p < PLAYER_LIMIT
    → owner_of (kept_owners owners left end) p ≡ kept_by owners left end (owner_of owners p)
kept_is owners left end p l = each_is (kept_owner owners left end) p l

kept_length : (owners : List ℕ) (left : List (Option ℕ)) (end : ℕ) → length (kept_owners owners left end) ≡ PLAYER_LIMIT
unfolding each_player
kept_length owners left end = length-map-range_with_len (kept_owner owners left end) 0 PLAYER_LIMIT

-- ---- the laws

pub nobody_loses_a_player : NobodyLosesAPlayer
unfolding next_owners
nobody_loses_a_player terms e left = record {
  kept = λ p l s some. keeps p l s some (others terms.words e.mark.newcomer before p l);
  lost = λ p l s there. kept_is terms.owners left e.frame p l
      ∙ ap (λ (b : Bool). if b then owner_of terms.owners p else FREE)
      (or_from (owner_of terms.owners p == NO_MACHINE) (stays terms.owners left e.frame (owner_of terms.owners p))
      (ne_eqb (owner_of terms.owners p) NO_MACHINE there) s);
  free = λ p l is. kept_is terms.owners left e.frame p l ∙ still (owner_of terms.owners p) is
      ((owner_of terms.owners p == NO_MACHINE) || stays terms.owners left e.frame (owner_of terms.owners p));
  others = λ p l. others terms.words e.mark.newcomer before p l;
  apart = λ seat p f l is. apart before seat p (kept_length terms.owners left e.frame) f l is;
}
  where
    before : List ℕ
    before = kept_owners terms.owners left e.frame

    still : (owner : ℕ) → owner ≡ FREE → (b : Bool) → (if b then owner else FREE) ≡ FREE
    still owner is true = is
    still owner is false = refl

    keeps : (p : ℕ) → p < PLAYER_LIMIT → stays terms.owners left e.frame (owner_of terms.owners p) ≡ true
        → (owner_of terms.owners p ≡ FREE → ⊥) → Others before (come terms.words e.mark.newcomer before) p
        → owner_of (come terms.words e.mark.newcomer before) p ≡ owner_of terms.owners p
    keeps p l s some o =
        let as_before : owner_of before p ≡ owner_of terms.owners p =
        kept_is terms.owners left e.frame p l
        ∙ ap (λ (b : Bool). if b then owner_of terms.owners p else FREE)
        (or_right (owner_of terms.owners p == NO_MACHINE) (stays terms.owners left e.frame (owner_of terms.owners p)) s) in
        go as_before o
      where
        go : owner_of before p ≡ owner_of terms.owners p → Others before (come terms.words e.mark.newcomer before) p
            → owner_of (come terms.words e.mark.newcomer before) p ≡ owner_of terms.owners p
        go as_before (inl same) = same ∙ as_before
        go as_before (inr new) = absurd (some (sym as_before ∙ new.0))

-- a machine's number is none of those that say that there is none
is_machine : (before : List ℕ) (seat : ℕ) → free_seat before ≡ Some seat → seat ≡ NO_MACHINE → ⊥
is_machine before seat e is = omega (arith, in_range (is_free_seat before) 0 MACHINE_LIMIT seat e, is)

pub players_stay : PlayersStay
unfolding next_owners
players_stay terms e left p l = record {
  none = λ is. none is (others terms.words e.mark.newcomer before p l);
  some = λ is. some is (others terms.words e.mark.newcomer before p l);
}
  where
    before : List ℕ
    before = kept_owners terms.owners left e.frame

    now : ℕ
    now = owner_of (come terms.words e.mark.newcomer before) p

    none : owner_of terms.owners p ≡ NO_MACHINE → Others before (come terms.words e.mark.newcomer before) p
        → now ≡ NO_MACHINE
    none is o = go o
      where
        was : owner_of before p ≡ NO_MACHINE
        was =
            kept_is terms.owners left e.frame p l
            ∙ (ap (λ (b : Bool). if b then owner_of terms.owners p else FREE)
            (or_left (owner_of terms.owners p == NO_MACHINE) (stays terms.owners left e.frame (owner_of terms.owners p))
            (eq-eqb (owner_of terms.owners p) NO_MACHINE is)) ∙ is)

        go : Others before (come terms.words e.mark.newcomer before) p → now ≡ NO_MACHINE
        go (inl same) = same ∙ was
        go (inr new) = absurd (omega (arith, was, new.0))

    some : now ≡ NO_MACHINE → Others before (come terms.words e.mark.newcomer before) p
        → owner_of terms.owners p ≡ NO_MACHINE
    some is (inl same) =
        by_kept (owner_of terms.owners p)
        ((owner_of terms.owners p == NO_MACHINE) || stays terms.owners left e.frame (owner_of terms.owners p))
        (sym (kept_is terms.owners left e.frame p l) ∙ (sym same ∙ is))
      where
        by_kept : (owner : ℕ) (b : Bool) → (if b then owner else FREE) ≡ NO_MACHINE → owner ≡ NO_MACHINE
        by_kept owner true k = k
        by_kept owner false k = absurd (omega (arith, k))
    some is (inr new) = absurd (is_machine before now new.1 is)

-- ---- whole inputs

first_again : (words p : ℕ) → first_of words (first_of words p) ≡ first_of words p
unfolding first_of
first_again words p = go (cases_lt 0 words)
  where
    go : (0 < words) ⊎ (words ≤ 0) → p / words * words / words * words ≡ p / words * words
    go (inl l) = ap (λ (n : ℕ). n * words) (mul-div_cancel (p / words) l)
    go (inr z) =
        let none : words ≡ 0 = omega (arith, z) in
        ap (λ (w : ℕ). p / words * words / words * w) none
        ∙ (mul-zero (p / words * words / words)
        ∙ sym (ap (λ (w : ℕ). p / words * w) none ∙ mul-zero (p / words)))

whole_each : (words : ℕ) (f : ℕ → ℕ) → AreAlike words f → AreAlike words (owner_of (each_player f))
whole_each words f h p l = each_is f p l ∙ (h p l ∙ sym (each_is f (first_of words p) (first_below words p l)))

whole_at : (seat words : ℕ) (now : List ℕ) (o : Option ℕ) → AreAlike words (owner_of now)
    → AreAlike words (owner_of (given_at seat words now o))
whole_at seat words now None h = h
whole_at seat words now (Some q) h = whole_each words (owner_with seat words now q) (λ p l k.
    if (h p l k == FREE) && (sym (first_again words p) k == q) then seat else h p l k)

whole_to : (seat words : ℕ) (asked : List Bool) (before : List ℕ) (n : ℕ) → AreAlike words (owner_of before)
    → AreAlike words (owner_of (given_to seat words asked before n))
whole_to seat words asked before zero h = h
whole_to seat words asked before (suc n) h = go (whole_to seat words asked before n h) (is_asked_at words asked n)
  where
    now : List ℕ
    now = given_to seat words asked before n

    go : AreAlike words (owner_of now) → (b : Bool)
        → AreAlike words (owner_of (if b then given seat words now n else now))
    go rest true = whole_at seat words now (place_for words now n) rest
    go rest false = rest

whole_come : (words : ℕ) (n : Option Newcomer) (before : List ℕ) → AreAlike words (owner_of before)
    → AreAlike words (owner_of (come words n before))
whole_come words None before h = h
whole_come words (Some n) before h = go (free_seat before)
  where
    go : (o : Option ℕ) → AreAlike words (owner_of (seated o words n.players before))
    go None = h
    go (Some seat) = whole_to seat words n.players before PLAYER_LIMIT h

pub inputs_stay_whole : InputsStayWhole
unfolding next_owners
inputs_stay_whole terms e left h =
    whole_come terms.words e.mark.newcomer (kept_owners terms.owners left e.frame)
    (whole_each terms.words (kept_owner terms.owners left e.frame)
    (λ p l. ap (kept_by terms.owners left e.frame) (h p l)))
