-- Who sits where.
use Rattle.std.proofs.Common.{◌≡◌, ℕ, zero, suc, ◌+◌, ◌<◌, ◌≤◌, List, [], ◌∷◌, Bool, true, false, length, eqb, refl, sym, ap, subst, ◌∙◌, arith, inl, inr, Option, Some, None}
use Rattle.std.specs.Prelude.{◌⊎◌, ◌&&◌, ◌==◌, not, filter, nat_lt, is_some, if◌then◌else◌, slice_get, unwrap_or}
use Rattle.std.specs.List.{range_with_len}
use Rattle.std.proofs.lemmas.Bool.{false≢true, cases_lt, le-ltb, lt-ltb, eq-eqb, eqb-true}
use Rattle.roll_mesh.specs.declared.limits.TheConstants.{MACHINE_LIMIT, PLAYER_LIMIT}
use Rattle.roll_epoch.specs.Ends.{owner_of}
use Rattle.roll_epoch.specs.Laws.{SomebodyIsAbsent}
use Rattle.roll_epoch.specs.Seats.{absent, owner_or_absent, owners_with_absent}
use Rattle.roll_epoch.specs.Successions.{is_free_seat}
use Rattle.roll_epoch.specs.declared.limits.TheConstants.{FREE}
use Rattle.roll_epoch.proofs.OwnerLaws.{each_is, in_range}

-- how many owners have a number below n
abbrev one_if : Bool → ℕ
one_if true = 1
one_if false = 0

abbrev below : (n : ℕ) → List ℕ → ℕ
below n [] = 0
below n (x ∷ xs) = one_if (nat_lt x n) + below n xs

one_more : (x n : ℕ) → one_if (nat_lt x n) ≤ one_if (nat_lt x (n + 1))
one_more x n = go (cases_lt x n)
  where
    go : (x < n) ⊎ (n ≤ x) → one_if (nat_lt x n) ≤ one_if (nat_lt x (n + 1))
    go (inl l) = omega (arith, ap one_if (lt-ltb x n l), ap one_if (lt-ltb x (n + 1) (omega (arith, l))))
    go (inr g) = omega (arith, ap one_if (le-ltb x n g))

at_most_one : (b : Bool) → one_if b ≤ 1
at_most_one true = omega arith
at_most_one false = omega arith

grows : (n : ℕ) (xs : List ℕ) → below n xs ≤ below (n + 1) xs
grows n [] = omega arith
grows n (x ∷ xs) = omega (arith, one_more x n, grows n xs)

-- one more of them if somebody has the number n
taken : (n : ℕ) (xs : List ℕ) → is_free_seat xs n ≡ false → below n xs + 1 ≤ below (n + 1) xs
taken n [] f = absurd cc
taken n (x ∷ xs) f = go (λ g. taken n xs g) (eqb x n) refl f
  where
    go : (is_free_seat xs n ≡ false → below n xs + 1 ≤ below (n + 1) xs) → (b : Bool) → eqb x n ≡ b
        → (not b && is_free_seat xs n) ≡ false → below n (x ∷ xs) + 1 ≤ below (n + 1) (x ∷ xs)
    go others true e f =
        let same : x ≡ n = eqb-true x n e in
        omega (
          arith,
          ap one_if (le-ltb x n (omega (arith, same))),
          ap one_if (lt-ltb x (n + 1) (omega (arith, same))),
          grows n xs,
        )
    go others false e f = omega (arith, one_more x n, others f)

-- if the first n numbers are taken, so many have them
all_taken : (n : ℕ) (xs : List ℕ) → ((m : ℕ) → m < n → is_free_seat xs m ≡ false) → n ≤ below n xs
all_taken zero xs h = omega arith
all_taken (suc n) xs h =
    let next : n + 1 ≡ suc n = omega arith in
    subst (λ (k : ℕ). k ≤ below k xs) next
    (omega (arith, all_taken n xs (λ m l. h m (omega (arith, l))), taken n xs (h n (omega arith))))

-- who has none of these numbers is one more
one_less : (n : ℕ) (xs : List ℕ) (p : ℕ) → p < length xs → n ≤ owner_of xs p → below n xs + 1 ≤ length xs
one_less n [] p l g = absurd (omega (arith, l))
one_less n (x ∷ xs) zero l g = omega (arith, ap one_if (le-ltb x n g), all_at_most xs)
  where
    all_at_most : (xs : List ℕ) → below n xs ≤ length xs
    all_at_most [] = omega arith
    all_at_most (x ∷ xs) = omega (arith, at_most_one (nat_lt x n), all_at_most xs)
one_less n (x ∷ xs) (suc p) l g =
    omega (arith, at_most_one (nat_lt x n), one_less n xs p (omega (arith, l)) g)

none_passes : (test : ℕ → Bool) (a n : ℕ) → slice_get (filter test (range_with_len a n)) 0 ≡ None
    → (m : ℕ) → a ≤ m → m < a + n → test m ≡ false
none_passes test a zero e m low l = absurd (omega (arith, low, l))
none_passes test a (suc n) e m low l =
    go (λ f past. none_passes test (a + 1) n f m past (omega (arith, l))) (test a) refl e
  where
    others : List ℕ
    others = filter test (range_with_len (a + 1) n)

    go : (slice_get others 0 ≡ None → a + 1 ≤ m → test m ≡ false) → (b : Bool) → test a ≡ b
        → slice_get (if b then a ∷ others else others) 0 ≡ None → test m ≡ false
    go later true t e = absurd cc
    go later false t e = either (cases_lt a m)
      where
        either : (a < m) ⊎ (m ≤ a) → test m ≡ false
        either (inl past) = later e (omega (arith, past))
        either (inr here) =
            let same : m ≡ a = omega (arith, here, low) in
            ap test same ∙ t

pub absent_is : (owners : List ℕ) (p : ℕ) → length owners ≤ PLAYER_LIMIT → p < length owners
    → owner_of owners p ≡ FREE → is_some (absent owners) ≡ true
absent_is owners p most l free = go (absent owners) refl
  where
    go : (o : Option ℕ) → absent owners ≡ o → is_some o ≡ true
    go (Some m) e = refl
    go None e =
        absurd (omega (
          arith,
          all_taken MACHINE_LIMIT owners
              (λ m low. none_passes (is_free_seat owners) 0 MACHINE_LIMIT e m (omega arith) (omega (arith, low))),
          one_less MACHINE_LIMIT owners p l (omega (arith, free)),
          most,
        ))

pub somebody_is_absent : SomebodyIsAbsent
somebody_is_absent terms p most l free = absent_is terms.owners p most l free

-- with that machine no player is free
pub none_is_free : (owners : List ℕ) (p : ℕ) → length owners ≡ PLAYER_LIMIT → p < PLAYER_LIMIT
    → owner_of (owners_with_absent owners) p ≡ FREE → ⊥
unfolding owners_with_absent
none_is_free owners p len l is =
    go (owner_of owners p == FREE) refl (absent owners) refl
    (sym (each_is (λ q. owner_or_absent (absent owners) (owner_of owners q)) p l) ∙ is)
  where
    a_machine : (m : ℕ) → absent owners ≡ Some m → m ≡ FREE → ⊥
    a_machine m e same = omega (arith, in_range (is_free_seat owners) 0 MACHINE_LIMIT m e, same)

    clash : is_some (absent owners) ≡ true → absent owners ≡ None → ⊥
    clash some none = false≢true (sym (ap (λ (o : Option ℕ). is_some o) none) ∙ some)

    go : (b : Bool) → (owner_of owners p == FREE) ≡ b → (o : Option ℕ) → absent owners ≡ o
        → (if b then unwrap_or o FREE else owner_of owners p) ≡ FREE → ⊥
    go false e o f same = false≢true (sym e ∙ eq-eqb (owner_of owners p) FREE same)
    go true e (Some m) f same = a_machine m f same
    go true e None f same =
        clash (absent_is owners p (omega (arith, len)) (omega (arith, len, l)) (eqb-true (owner_of owners p) FREE e)) f
