-- Shares are kept, and leave room.
use Rattle.std.proofs.Common.{◌≡◌, ◌∙◌, ◌⊎◌, ℕ, zero, suc, ◌+◌, ◌*◌, ◌<◌, ◌≤◌, ◌-◌, Bool, true, false, List, [], ◌∷◌, ◌++◌, length, max, Option, None, Some, refl, sym, ap, subst, arith, inl, inr}
use Rattle.std.specs.Prelude.{◌==◌, ◌&&◌, ◌||◌, find, is_some, nat_le, nat_lt, sum_by, All, if◌then◌else◌}
use Rattle.std.specs.List.{range_with_len, AllByRecursion}
use Rattle.std.proofs.Math.Nat.{suc-mul}
use Rattle.std.proofs.lemmas.Bool.{and_parts, cases_Bool, cases_lt, eq-eqb, eqb-true, le-ltb, leb-false, leb-true, lt-ltb, ltb-true}
use Rattle.std.proofs.lemmas.List.Elements.{All-append, All-drop, All-set}
use Rattle.std.proofs.lemmas.List.Sums.{sum_by-append, sum_by-cons, sum_by-set, sum_by-take-drop}
use Rattle.roll_carry.specs.declared.limits.TheConstants.{AREA_LIMIT, WAITING_LIMIT}
use Rattle.roll_carry.specs.Reading.{parcels_in, IsArea}
use Rattle.roll_carry.specs.Sharing.{all_waiting, IsShared, NobodyIsCrowdedOut, QuietAreTaken, SharesAreKept}
use Rattle.roll_carry.specs.Spelling.{area_text, maker_of, parcel_text, IsParcel, ParcelValue}
use Rattle.roll_carry.specs.Waiting.{area_of, fits_in, has_place, has_room, is_fair, made_by, place_for, pushed, put_at, share_of, size_of, waiting_of, Lane}
use Rattle.roll_carry.proofs.Areas.{behind}
use Rattle.roll_carry.proofs.Fronts.{area_more, area_none, none_within, parcels_more}

-- ---- the first that passes a test

found_passes : (test : ℕ → Bool) (xs : List ℕ) (x : ℕ) → find test xs ≡ Some x → test x ≡ true
found_passes test [] x e = absurd cc
found_passes test (y ∷ ys) x e = go (test y) refl (found_passes test ys x) e
  where
    go : (b : Bool) → test y ≡ b → (find test ys ≡ Some x → test x ≡ true)
        → (if b then Some y else find test ys) ≡ Some x → test x ≡ true
    go true t later e = let same : y ≡ x = cc in subst (λ (z : ℕ). test z ≡ true) same t
    go false t later e = later e

found_or : (test : ℕ → Bool) (xs : List ℕ) → (is_some (find test xs) ≡ true) ⊎ AllByRecursion (λ x. test x ≡ false) xs
found_or test [] = inr tt
found_or test (y ∷ ys) = go (test y) refl (found_or test ys)
  where
    go : (b : Bool) → test y ≡ b → (is_some (find test ys) ≡ true) ⊎ AllByRecursion (λ x. test x ≡ false) ys
        → (is_some (if b then Some y else find test ys) ≡ true) ⊎ AllByRecursion (λ x. test x ≡ false) (y ∷ ys)
    go true t others = inl refl
    go false t (inl e) = inl e
    go false t (inr all) = inr (t, all)

-- ---- what a parcel adds

abbrev of : ℕ → ParcelValue → ℕ
of maker p = if maker_of p == maker then size_of p else 0

made_more : (maker : ℕ) (area : List ℕ) (p : ParcelValue) → IsArea area → IsParcel p
    → made_by maker (parcels_in (area ++ parcel_text p)) ≡ made_by maker (parcels_in area) + of maker p
made_more maker area p is fits =
    ap (made_by maker) (parcels_more area p is fits)
    ∙ sum_by-append (of maker) (parcels_in area) (p ∷ []) ∙ omega arith

past_is : (place : ℕ) (lane : Lane) → length lane ≤ place → area_of lane place ≡ []
past_is place [] high = refl
past_is zero (x ∷ xs) high = absurd (omega (arith, high))
past_is (suc place) (x ∷ xs) high = past_is place xs (omega (arith, high))

module _ (lane : Lane) (p : ParcelValue) (areas : All IsArea lane) (fits : IsParcel p) where
  area_is : (place : ℕ) → IsArea (area_of lane place)
  area_is place = go (cases_lt place (length lane))
    where
      go : (place < length lane) ⊎ (length lane ≤ place) → IsArea (area_of lane place)
      go (inl low) = areas place [] low
      go (inr past) = subst IsArea (sym (past_is place lane past)) area_none

  put_areas : (place : Option ℕ) → All IsArea (put_at lane p place)
  put_areas (Some place) =
      All-set IsArea lane place (area_of lane place ++ parcel_text p)
      (area_more (area_of lane place) p (area_is place) fits) areas
  put_areas None =
      All-append IsArea lane (parcel_text p ∷ []) areas (only (area_more [] p area_none fits))
    where
      only : IsArea (parcel_text p) → All IsArea (parcel_text p ∷ [])
      only is zero d low = is
      only is (suc k) d low = absurd (omega (arith, low))

  put_bytes : (maker : ℕ) (place : Option ℕ) → place_for lane p ≡ place
      → waiting_of (put_at lane p place) maker ≡ waiting_of lane maker + of maker p
  put_bytes maker (Some place) e =
      let low : place < length lane =
      ltb-true place (length lane)
      (and_parts (nat_lt place (length lane)) (nat_le (length (area_of lane place) + size_of p) AREA_LIMIT)
      (found_passes (has_room lane p) (range_with_len 0 WAITING_LIMIT) place e)).0 in
      omega (
        arith,
        sum_by-set (λ (area : List ℕ). made_by maker (parcels_in area)) lane place (area_of lane place ++ parcel_text p) [] low,
        made_more maker (area_of lane place) p (area_is place) fits,
      )
  put_bytes maker None e =
      sum_by-append (λ (area : List ℕ). made_by maker (parcels_in area)) lane (parcel_text p ∷ [])
      ∙ omega (arith, made_more maker [] p area_none fits, ap (made_by maker) (none_within 0))

-- ---- shares

size_few : (p : ParcelValue) → IsParcel p → size_of p ≤ AREA_LIMIT
size_few p fits = omega (arith, fits.most)

fair_is : (machines : ℕ) (lane : Lane) (p : ParcelValue) → IsParcel p → is_fair machines lane p ≡ true
    → waiting_of lane (maker_of p) + size_of p ≤ max (share_of machines) AREA_LIMIT
unfolding is_fair
fair_is machines lane p fits t = go (cases_Bool (waiting_of lane (maker_of p) == 0))
  where
    go : ((waiting_of lane (maker_of p) == 0) ≡ true) ⊎ ((waiting_of lane (maker_of p) == 0) ≡ false)
        → waiting_of lane (maker_of p) + size_of p ≤ max (share_of machines) AREA_LIMIT
    go (inl e) = omega (arith, eqb-true (waiting_of lane (maker_of p)) 0 e, size_few p fits)
    go (inr e) =
        let second : nat_le (waiting_of lane (maker_of p) + size_of p) (share_of machines) ≡ true =
        ap (λ (b : Bool). b || nat_le (waiting_of lane (maker_of p) + size_of p) (share_of machines)) (sym e) ∙ t in
        omega (arith, leb-true (waiting_of lane (maker_of p) + size_of p) (share_of machines) second)

shares_more : (machines : ℕ) (lane : Lane) (p : ParcelValue) → IsParcel p → IsShared machines lane
    → IsShared machines (pushed machines lane p)
shares_more machines lane p fits is = go (has_place machines lane p) refl
  where
    bounded : (maker : ℕ) → is_fair machines lane p ≡ true
        → waiting_of lane maker + of maker p ≤ max (share_of machines) AREA_LIMIT
    bounded maker fair = at (maker_of p == maker) refl
      where
        at : (b : Bool) → (maker_of p == maker) ≡ b
            → waiting_of lane maker + (if b then size_of p else 0) ≤ max (share_of machines) AREA_LIMIT
        at true t =
            subst (λ (m : ℕ). waiting_of lane m + size_of p ≤ max (share_of machines) AREA_LIMIT)
            (eqb-true (maker_of p) maker t) (fair_is machines lane p fits fair)
        at false t = omega (arith, is.shares maker)

    go : (b : Bool) → has_place machines lane p ≡ b
        → IsShared machines (if b then put_at lane p (place_for lane p) else lane)
    go false t = is
    go true t = record {
      areas = put_areas lane p is.areas fits (place_for lane p);
      shares = λ maker. subst (λ (n : ℕ). n ≤ max (share_of machines) AREA_LIMIT)
          (sym (put_bytes lane p is.areas fits maker (place_for lane p) refl))
          (bounded maker (and_parts (is_fair machines lane p) (fits_in lane p) t).0);
    }

pub shares_are_kept : SharesAreKept
shares_are_kept machines = record {
  none = record { areas = λ k d low. absurd (omega (arith, low)); shares = λ maker. omega arith };
  more = λ lane p fits is. shares_more machines lane p fits is;
  less = λ lane is. record {
    areas = All-drop IsArea 1 lane is.areas;
    shares = λ maker. omega (
      arith,
      is.shares maker,
      sum_by-take-drop (λ (area : List ℕ). made_by maker (parcels_in area)) lane 1,
    );
  };
}

-- ---- room

full : (lane : Lane) (p : ParcelValue) (k : ℕ) → k < length lane → has_room lane p k ≡ false
    → AREA_LIMIT < length (area_of lane k) + size_of p
full lane p k low none =
    leb-false (length (area_of lane k) + size_of p) AREA_LIMIT
    (ap (λ (b : Bool). b && nat_le (length (area_of lane k) + size_of p) AREA_LIMIT) (sym (lt-ltb k (length lane) low)) ∙ none)

abbrev NoRoom : Lane → ParcelValue → Type 0
NoRoom lane p = AllByRecursion (λ k. has_room lane p k ≡ false) (range_with_len 0 WAITING_LIMIT)

too_many : (lane : Lane) (p : ParcelValue) → WAITING_LIMIT ≤ length lane → NoRoom lane p
    → all_waiting lane + WAITING_LIMIT * size_of p ≤ WAITING_LIMIT * AREA_LIMIT → ⊥
too_many [] p long none few = omega (arith, long)
too_many (a ∷ []) p long none few = omega (arith, long)
too_many (a ∷ b ∷ []) p long none few = omega (arith, long)
too_many (a ∷ b ∷ c ∷ []) p long none few = omega (arith, long)
too_many (a ∷ b ∷ c ∷ d ∷ more) p long none few =
    let lane : Lane = a ∷ b ∷ c ∷ d ∷ more in
    let sum_a = sum_by-cons (λ (x : List ℕ). length x) a (b ∷ c ∷ d ∷ more) in
    let sum_b = sum_by-cons (λ (x : List ℕ). length x) b (c ∷ d ∷ more) in
    let sum_c = sum_by-cons (λ (x : List ℕ). length x) c (d ∷ more) in
    let sum_d = sum_by-cons (λ (x : List ℕ). length x) d more in
    omega (
      arith,
      few,
      sum_a,
      sum_b,
      sum_c,
      sum_d,
      full lane p 0 (omega arith) none.0,
      full lane p 1 (omega arith) none.1.0,
      full lane p 2 (omega arith) none.1.1.0,
      full lane p 3 (omega arith) none.1.1.1.0,
    )

room_is : (lane : Lane) (p : ParcelValue) → all_waiting lane + WAITING_LIMIT * size_of p ≤ WAITING_LIMIT * AREA_LIMIT
    → fits_in lane p ≡ true
room_is lane p few = go (found_or (has_room lane p) (range_with_len 0 WAITING_LIMIT)) (cases_lt (length lane) WAITING_LIMIT)
  where
    go : (is_some (place_for lane p) ≡ true) ⊎ NoRoom lane p → (length lane < WAITING_LIMIT) ⊎ (WAITING_LIMIT ≤ length lane)
        → fits_in lane p ≡ true
    go (inl some) short = ap (λ (b : Bool). b || nat_lt (length lane) WAITING_LIMIT) some
    go (inr none) (inr long) = absurd (too_many lane p long none few)
    go (inr none) (inl short) = or_right (is_some (place_for lane p)) (lt-ltb (length lane) WAITING_LIMIT short)
      where
        or_right : (b : Bool) → nat_lt (length lane) WAITING_LIMIT ≡ true → (b || nat_lt (length lane) WAITING_LIMIT) ≡ true
        or_right true t = refl
        or_right false t = t

pub quiet_are_taken : QuietAreTaken
unfolding is_fair
quiet_are_taken machines lane p quiet few =
    let fair : is_fair machines lane p ≡ true =
    ap (λ (n : ℕ). (n == 0) || nat_le (n + size_of p) (share_of machines)) quiet in
    ap (λ (b : Bool). b && fits_in lane p) fair ∙ room_is lane p few

-- ---- all that waits is of some maker

abbrev of_below : ℕ → ParcelValue → ℕ
of_below n p = if nat_lt (maker_of p) n then size_of p else 0

abbrev made_below : ℕ → List ParcelValue → ℕ
made_below n parcels = sum_by (of_below n) parcels

abbrev below : ℕ → Lane → ℕ
below n lane = sum_by (λ (area : List ℕ). made_below n (parcels_in area)) lane

sum_of_two : {X : Type 0} (f g h : X → ℕ) → ((x : X) → f x ≡ g x + h x) → (xs : List X)
    → sum_by f xs ≡ sum_by g xs + sum_by h xs
sum_of_two f g h each [] = refl
sum_of_two f g h each (x ∷ xs) = omega (arith, each x, sum_of_two f g h each xs, sum_by-cons f x xs, sum_by-cons g x xs, sum_by-cons h x xs)

not_eqb : (m n : ℕ) → (m ≡ n → ⊥) → (m == n) ≡ false
not_eqb m n differ = go (cases_Bool (m == n))
  where
    go : ((m == n) ≡ true) ⊎ ((m == n) ≡ false) → (m == n) ≡ false
    go (inl t) = absurd (differ (eqb-true m n t))
    go (inr f) = f

of_next : (n : ℕ) (p : ParcelValue) → of_below (n + 1) p ≡ of_below n p + of n p
of_next n p = go (cases_lt (maker_of p) n) (cases_lt n (maker_of p))
  where
    is : (low next same : Bool) → nat_lt (maker_of p) n ≡ low → nat_lt (maker_of p) (n + 1) ≡ next → (maker_of p == n) ≡ same
        → (if next then size_of p else 0) ≡ (if low then size_of p else 0) + (if same then size_of p else 0)
        → of_below (n + 1) p ≡ of_below n p + of n p
    is low next same a b c e = rw (a, b, c) e

    go : (maker_of p < n) ⊎ (n ≤ maker_of p) → (n < maker_of p) ⊎ (maker_of p ≤ n) → of_below (n + 1) p ≡ of_below n p + of n p
    go (inl l) more =
        is true true false (lt-ltb (maker_of p) n l) (lt-ltb (maker_of p) (n + 1) (omega (arith, l)))
        (not_eqb (maker_of p) n (λ e. omega (arith, e, l))) (omega arith)
    go (inr g) (inl h) =
        is false false false (le-ltb (maker_of p) n g) (le-ltb (maker_of p) (n + 1) (omega (arith, h)))
        (not_eqb (maker_of p) n (λ e. omega (arith, e, h))) refl
    go (inr g) (inr h) =
        is false true true (le-ltb (maker_of p) n g) (lt-ltb (maker_of p) (n + 1) (omega (arith, h)))
        (eq-eqb (maker_of p) n (omega (arith, g, h))) (omega arith)

below_next : (n : ℕ) (lane : Lane) → below (n + 1) lane ≡ below n lane + waiting_of lane n
below_next n lane =
    sum_of_two (λ (area : List ℕ). made_below (n + 1) (parcels_in area)) (λ (area : List ℕ). made_below n (parcels_in area))
    (λ (area : List ℕ). made_by n (parcels_in area))
    (λ area. sum_of_two (of_below (n + 1)) (of_below n) (of n) (of_next n) (parcels_in area)) lane

nothing_below : (parcels : List ParcelValue) → made_below 0 parcels ≡ 0
nothing_below [] = refl
nothing_below (p ∷ ps) =
    let none : of_below 0 p ≡ 0 =
    ap (λ (b : Bool). if b then size_of p else 0) (le-ltb (maker_of p) 0 (omega arith)) in
    omega (arith, none, nothing_below ps, sum_by-cons (of_below 0) p ps)

none_below : (lane : Lane) → below 0 lane ≡ 0
none_below [] = refl
none_below (area ∷ lane) =
    omega (
      arith,
      nothing_below (parcels_in area),
      none_below lane,
      sum_by-cons (λ (a : List ℕ). made_below 0 (parcels_in a)) area lane,
    )

text_len : (parcels : List ParcelValue) → length (area_text parcels) ≡ sum_by size_of parcels
text_len [] = refl
text_len (p ∷ ps) = behind p ps ∙ omega (arith, text_len ps, sum_by-cons size_of p ps)

all_below : (n : ℕ) (parcels : List ParcelValue) → AllByRecursion (λ p. maker_of p < n) parcels
    → made_below n parcels ≡ sum_by size_of parcels
all_below n [] all = refl
all_below n (p ∷ ps) all =
    let here : of_below n p ≡ size_of p =
    ap (λ (b : Bool). if b then size_of p else 0) (lt-ltb (maker_of p) n all.0) in
    omega (arith, here, all_below n ps all.1, sum_by-cons (of_below n) p ps, sum_by-cons size_of p ps)

all_are_below : (n : ℕ) (lane : Lane) → All IsArea lane
    → All (λ area. AllByRecursion (λ p. maker_of p < n) (parcels_in area)) lane → below n lane ≡ all_waiting lane
all_are_below n [] areas makers = refl
all_are_below n (area ∷ lane) areas makers =
    let is : IsArea area = areas 0 [] (omega arith) in
    let of : AllByRecursion (λ p. maker_of p < n) (parcels_in area) = makers 0 [] (omega arith) in
    omega (
      arith,
      ap length is.text,
      text_len (parcels_in area),
      all_below n (parcels_in area) of,
      all_are_below n lane (λ k d low. areas (suc k) d (omega (arith, low))) (λ k d low. makers (suc k) d (omega (arith, low))),
      sum_by-cons (λ (a : List ℕ). made_below n (parcels_in a)) area lane,
      sum_by-cons (λ (x : List ℕ). length x) area lane,
    )

-- ---- no more than shares

module _ (share : ℕ) where
  abbrev times : ℕ → ℕ
  times zero = 0
  times (suc n) = times n + share

  abbrev spared : ℕ → ℕ → ℕ
  spared h n = if nat_lt h n then share else 0

  spared_none : (h : ℕ) → spared h 0 ≡ 0
  spared_none h = ap (λ (b : Bool). if b then share else 0) (le-ltb h 0 (omega arith))

  spared_next : (h n : ℕ) → (spared h (n + 1) ≡ spared h n) ⊎ ((h ≡ n) × (spared h (n + 1) ≡ spared h n + share))
  spared_next h n = go (cases_lt h n) (cases_lt n h)
    where
      go : (h < n) ⊎ (n ≤ h) → (n < h) ⊎ (h ≤ n)
          → (spared h (n + 1) ≡ spared h n) ⊎ ((h ≡ n) × (spared h (n + 1) ≡ spared h n + share))
      go (inl l) more = inl (rw (lt-ltb h n l, lt-ltb h (n + 1) (omega (arith, l))) refl)
      go (inr g) (inl m) = inl (rw (le-ltb h n g, le-ltb h (n + 1) (omega (arith, m))) refl)
      go (inr g) (inr m) = inr (omega (arith, g, m), rw (le-ltb h n g, lt-ltb h (n + 1) (omega (arith, m))) (omega arith))

  module _ (lane : Lane) (hop maker : ℕ) (apart : hop ≡ maker → ⊥) (shares : (m : ℕ) → waiting_of lane m ≤ share)
      (gets : waiting_of lane hop ≡ 0) (quiet : waiting_of lane maker ≡ 0) where
    few_below : (n : ℕ) → below n lane + spared hop n + spared maker n ≤ times n
    few_below zero = omega (arith, none_below lane, spared_none hop, spared_none maker)
    few_below (suc n) =
        let next : n + 1 ≡ suc n = omega arith in
        subst (λ (k : ℕ). below k lane + spared hop k + spared maker k ≤ times n + share) next
        (go (few_below n) (spared_next hop n) (spared_next maker n))
      where
        go : below n lane + spared hop n + spared maker n ≤ times n
            → (spared hop (n + 1) ≡ spared hop n) ⊎ ((hop ≡ n) × (spared hop (n + 1) ≡ spared hop n + share))
            → (spared maker (n + 1) ≡ spared maker n) ⊎ ((maker ≡ n) × (spared maker (n + 1) ≡ spared maker n + share))
            → below (n + 1) lane + spared hop (n + 1) + spared maker (n + 1) ≤ times n + share
        go was (inl a) (inl b) = omega (arith, was, below_next n lane, shares n, a, b)
        go was (inr a) (inl b) =
            omega (arith, was, below_next n lane, ap (waiting_of lane) (sym a.0), gets, a.1, b)
        go was (inl a) (inr b) =
            omega (arith, was, below_next n lane, ap (waiting_of lane) (sym b.0), quiet, a, b.1)
        go was (inr a) (inr b) = absurd (apart (a.0 ∙ sym b.0))

  times_is : (n : ℕ) → times n ≡ n * share
  times_is zero = omega arith
  times_is (suc n) = ap (λ (k : ℕ). k + share) (times_is n) ∙ sym (suc-mul n share)

  -- but for two machines
  times_less : (n : ℕ) → 2 ≤ n → times n ≡ (n - 2) * share + share + share
  times_less zero two = absurd (omega (arith, two))
  times_less (suc zero) two = absurd (omega (arith, two))
  times_less (suc (suc n)) two = ap (λ (k : ℕ). k + share + share) (times_is n ∙ ap (λ (k : ℕ). k * share) back)
    where
      back : n ≡ suc (suc n) - 2
      back = omega arith

pub nobody_is_crowded_out : NobodyIsCrowdedOut
nobody_is_crowded_out machines hop lane p is room =
    quiet_are_taken machines lane p is.quiet
    (omega (
      arith,
      room,
      few_below share lane hop (maker_of p) is.apart is.shares is.gets is.quiet machines,
      all_are_below machines lane is.areas is.makers,
      times_less share machines two,
      spared_all hop is.hop_in,
      spared_all (maker_of p) is.maker_in,
    ))
  where
    share : ℕ
    share = share_of machines

    spared_all : (h : ℕ) → h < machines → spared share h machines ≡ share
    spared_all h l = ap (λ (b : Bool). if b then share else 0) (lt-ltb h machines l)

    two : 2 ≤ machines
    two = go (cases_lt machines 2)
      where
        go : (machines < 2) ⊎ (2 ≤ machines) → 2 ≤ machines
        go (inl few) = absurd (is.apart (omega (arith, few, is.hop_in, is.maker_in)))
        go (inr many) = many
