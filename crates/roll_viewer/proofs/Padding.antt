-- Lists filled up to a place for each player.
use Rattle.std.proofs.Common.{◌≡◌, ◌∙◌, ◌≤◌, ◌<◌, ◌+◌, ◌-◌, ◌≢◌, ℕ, zero, suc, List, [], ◌∷◌, ◌++◌, length, get_or, set, map, take, drop, replicate, refl, sym, ap, arith, Bool, true, inl, inr, ◌⊎◌, length-append, below_more, get_or-set_other, get_or-set_same}
use Rattle.std.specs.List.{list_all}
use Rattle.std.specs.Option.{option_map_or}
use Rattle.std.specs.Prelude.{slice_get, sum_by, unwrap_or, option_map, Option, Some, None}
use Rattle.std.proofs.Math.Seq.{drop-append_seam, take-append-add, take-append_seam}
use Rattle.std.proofs.lemmas.Bool.{and_from, cases_lt}
use Rattle.std.proofs.lemmas.List.{length-replicate, length-take, get_or-append_right, get_or-take, get_or_append_left, get_or_past, get_or-replicate}
use Rattle.std.proofs.lemmas.List.Folds.{list_all-append}
use Rattle.std.proofs.lemmas.List.FromFn.{fill_by_all}
use Rattle.std.proofs.lemmas.List.Sums.{sum_by-append, sum_by-cons}
use Rattle.roll_mesh.specs.declared.limits.TheConstants.{PLAYER_LIMIT}
use Rattle.roll_viewer.specs.Telling.{padded}

pub padded_is : {A : Type 0} (none : A) (xs : List A) → length xs ≤ PLAYER_LIMIT
    → padded none xs ≡ xs ++ take (PLAYER_LIMIT - length xs) (replicate PLAYER_LIMIT none)
padded_is none xs few =
    let e : PLAYER_LIMIT ≡ length xs + (PLAYER_LIMIT - length xs) = omega (arith, few) in
    ap (λ n. take n (xs ++ replicate PLAYER_LIMIT none)) e
    ∙ take-append-add xs (replicate PLAYER_LIMIT none) (PLAYER_LIMIT - length xs)

-- the places of the players, and the others
pub front_padded : {A : Type 0} (none : A) (xs : List A) → length xs ≤ PLAYER_LIMIT
    → take (length xs) (padded none xs) ≡ xs
front_padded none xs few =
    ap (take (length xs)) (padded_is none xs few)
    ∙ take-append_seam xs (take (PLAYER_LIMIT - length xs) (replicate PLAYER_LIMIT none))

pub rest_padded : {A : Type 0} (none : A) (xs : List A) → length xs ≤ PLAYER_LIMIT
    → drop (length xs) (padded none xs)
    ≡ take (PLAYER_LIMIT - length xs) (replicate PLAYER_LIMIT none)
rest_padded none xs few =
    ap (drop (length xs)) (padded_is none xs few)
    ∙ drop-append_seam xs (take (PLAYER_LIMIT - length xs) (replicate PLAYER_LIMIT none))

all_copies : {A : Type 0} (test : A → Bool) (x : A) (k n : ℕ) → test x ≡ true
    → list_all test (take k (replicate n x)) ≡ true
all_copies test x zero n e = refl
all_copies test x (suc k) zero e = refl
all_copies test x (suc k) (suc n) e =
    and_from (test x) (list_all test (take k (replicate n x))) e (all_copies test x k n e)

no_copies : {A : Type 0} (size : A → ℕ) (x : A) (k n : ℕ) → size x ≡ 0
    → sum_by size (take k (replicate n x)) ≡ 0
no_copies size x zero n e = refl
no_copies size x (suc k) zero e = refl
no_copies size x (suc k) (suc n) e =
    omega (arith, e, no_copies size x k n e, sum_by-cons size x (take k (replicate n x)))

pub sum_padded : {A : Type 0} (size : A → ℕ) (none : A) (xs : List A) → length xs ≤ PLAYER_LIMIT
    → size none ≡ 0 → sum_by size (padded none xs) ≡ sum_by size xs
sum_padded size none xs few e =
    let rest = take (PLAYER_LIMIT - length xs) (replicate PLAYER_LIMIT none) in
    ap (sum_by size) (padded_is none xs few) ∙ sum_by-append size xs rest
    ∙ (let n = no_copies size none (PLAYER_LIMIT - length xs) PLAYER_LIMIT e in omega (arith, n))

pub all_padded : {A : Type 0} (test : A → Bool) (none : A) (xs : List A) → length xs ≤ PLAYER_LIMIT
    → test none ≡ true → list_all test xs ≡ true → list_all test (padded none xs) ≡ true
all_padded test none xs few e h =
    let rest = take (PLAYER_LIMIT - length xs) (replicate PLAYER_LIMIT none) in
    ap (list_all test) (padded_is none xs few) ∙ list_all-append test xs rest
    ∙ and_from (list_all test xs) (list_all test rest) h
    (all_copies test none (PLAYER_LIMIT - length xs) PLAYER_LIMIT e)

pub rest_passes : {A : Type 0} (test : A → Bool) (none : A) (xs : List A) → length xs ≤ PLAYER_LIMIT
    → test none ≡ true → list_all test (drop (length xs) (padded none xs)) ≡ true
rest_passes test none xs few e =
    ap (list_all test) (rest_padded none xs few)
    ∙ all_copies test none (PLAYER_LIMIT - length xs) PLAYER_LIMIT e

at_padded : {A : Type 0} (none : A) (xs : List A) (k : ℕ) → k < PLAYER_LIMIT
    → get_or (padded none xs) k none ≡ get_or xs k none
at_padded {A = A} none xs k l =
    get_or-take PLAYER_LIMIT (xs ++ replicate PLAYER_LIMIT none) k none l ∙ go (cases_lt k (length xs))
  where
    go : (k < length xs) ⊎ (length xs ≤ k)
        → get_or (xs ++ replicate PLAYER_LIMIT none) k none ≡ get_or xs k none
    go (inl here) = get_or_append_left xs (replicate PLAYER_LIMIT none) none k here
    go (inr past) =
        get_or-append_right xs (replicate PLAYER_LIMIT none) (length xs) k none refl past
        ∙ get_or-replicate PLAYER_LIMIT (k - length xs) none none (omega (arith, l, past))
        ∙ sym (get_or_past xs k none past)

length-padded : {A : Type 0} (none : A) (xs : List A) → length (padded none xs) ≡ PLAYER_LIMIT
length-padded none xs =
    omega (
      arith,
      length-take PLAYER_LIMIT (xs ++ replicate PLAYER_LIMIT none),
      length-append xs (replicate PLAYER_LIMIT none),
      length-replicate PLAYER_LIMIT none,
    )

-- a list that was filled place by place
pub filled_up : {A : Type 0} (none : A) (xs ys : List A) → length ys ≡ PLAYER_LIMIT
    → ((k : ℕ) → k < PLAYER_LIMIT → get_or ys k none ≡ get_or xs k none) → ys ≡ padded none xs
filled_up none xs ys many same =
    fill_by_all (λ k. get_or xs k none) ys PLAYER_LIMIT none many same
    ∙ sym (fill_by_all (λ k. get_or xs k none) (padded none xs) PLAYER_LIMIT none (length-padded none xs)
    (λ k l. at_padded none xs k l))

-- a value for each player
pub at_players : {A B : Type 0} (f : A → B) (xs : List A) (k : ℕ) (d : B)
    → option_map_or f (slice_get xs k) d ≡ get_or (map f xs) k d
at_players f [] k d = refl
at_players f (x ∷ xs) zero d = refl
at_players f (x ∷ xs) (suc k) d = at_players f xs k d

-- one more place is filled
pub one_more : {A : Type 0} (f : ℕ → A) (xs : List A) (i : ℕ) (v d : A) → i < length xs
    → ((k : ℕ) → k < i → get_or xs k d ≡ f k) → v ≡ f i → (k : ℕ) → k < i + 1
    → get_or (set xs i v) k d ≡ f k
one_more f xs i v d l before here =
    below_more (λ k. get_or (set xs i v) k d ≡ f k) i
    (λ k h. (let ne : k ≢ i = omega (arith, h) in get_or-set_other xs i k v d ne) ∙ before k h)
    (get_or-set_same xs i v d l ∙ here)

pub mapped_or : {A B : Type 0} (f : A → B) (o : Option A) (d : B) → unwrap_or (option_map f o) d ≡ option_map_or f o d
mapped_or f None d = refl
mapped_or f (Some x) d = refl
