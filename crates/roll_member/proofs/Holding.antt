-- The words that a member holds, as the laws over words have them.
use Rattle.std.proofs.Common.{◌≡◌, ◌⊎◌, ◌∙◌, ℕ, ◌+◌, ◌-◌, ◌<◌, ◌≤◌, List, [], ◌∷◌, length, take, drop, min, refl, ap, sym, arith, inl, inr}
use Rattle.std.proofs.lemmas.Bool.{cases_lt}
use Rattle.std.proofs.lemmas.List.{drop-take, length-drop, length-take, take-take, take_all, take_min}
use Rattle.roll_mesh.proofs.Places.{at_place, filled, length_places}
use Rattle.roll_mesh.specs.Machines.{at_places}

-- two lists of as many places, with the same values
pub same_places : {X Y : Type 0} (f g : ℕ → List ℕ) (xs : List X) (ys : List Y)
    → length xs ≡ length ys
    → ((k : ℕ) → k < length ys → f k ≡ g k) → at_places f xs ≡ at_places g ys
same_places f g xs ys len h =
    filled g ys (at_places f xs) [] (length_places f xs ∙ len)
    (λ k lt. at_place f xs k [] (omega (arith, lt, len)) ∙ h k lt)

-- the words that were taken are those between the counts
pub taken_between : (words : List ℕ) (first has most count : ℕ) → (has < first → most ≤ first)
    → take count (drop (has - first) (take (most - first) words))
    ≡ drop (has - first)
    (take (has + length (take count (drop (has - first) (take (most - first) words))) - first) words)
taken_between words first has most count late = go (cases_lt has first)
  where
    fresh : List ℕ
    fresh = drop (has - first) (take (most - first) words)

    got : ℕ
    got = length (take count fresh)

    behind : List ℕ
    behind = drop (has - first) words

    empty : (xs : List ℕ) → length xs ≡ 0 → xs ≡ []
    empty [] e = refl
    empty (x ∷ xs) e = absurd (omega (arith, e))

    both : (j : ℕ) (xs : List ℕ) → (count < j) ⊎ (j ≤ count)
        → take count (take j xs) ≡ take (min count j) xs
    both j xs (inl less) =
        let e : count ≡ min count j = omega (arith, less) in
        take-take count j xs (omega (arith, less)) ∙ ap (λ n. take n xs) e
    both j xs (inr le) =
        let e : j ≡ min count j = omega (arith, le) in
        take_all count (take j xs) (omega (arith, le, length-take j xs)) ∙ ap (λ n. take n xs) e

    all_of : (most - first < has - first) ⊎ (has - first ≤ most - first)
        → take count fresh ≡ take got behind
    all_of (inl less) =
        let none : length fresh ≡ 0 = omega (
          arith,
          less,
          length-drop (has - first) (take (most - first) words),
          length-take (most - first) words,
        ) in
        let got-none : got ≡ 0 = omega (arith, none, length-take count fresh) in
        empty (take count fresh) got-none ∙ sym (ap (λ n. take n behind) got-none)
    all_of (inr le) =
        let j : ℕ = (most - first) - (has - first) in
        let e : most - first ≡ (has - first) + j = omega (arith, le) in
        let fresh-is : fresh ≡ take j behind =
        ap (λ n. drop (has - first) (take n words)) e ∙ drop-take (has - first) j words in
        let n-is : take count fresh ≡ take (min count j) behind =
        ap (λ xs. take count xs) fresh-is ∙ both j behind (cases_lt count j) in
        let got-is : got ≡ min (min count j) (length behind) =
        ap (λ (xs : List ℕ). length xs) n-is ∙ length-take (min count j) behind in
        n-is ∙ sym (take_min (min count j) behind) ∙ ap (λ n. take n behind) (sym got-is)

    go : (has < first) ⊎ (first ≤ has)
        → take count fresh ≡ drop (has - first) (take (has + got - first) words)
    go (inl before) =
        let none : length fresh ≡ 0 = omega (
          arith,
          before,
          late before,
          length-drop (has - first) (take (most - first) words),
          length-take (most - first) words,
        ) in
        let got-none : got ≡ 0 = omega (arith, none, length-take count fresh) in
        let right : length (drop (has - first) (take (has + got - first) words)) ≡ 0 =
        omega (
          arith,
          before,
          got-none,
          length-drop (has - first) (take (has + got - first) words),
          length-take (has + got - first) words,
        ) in
        empty (take count fresh) got-none ∙ sym (empty (drop (has - first) (take (has + got - first) words)) right)
    go (inr after) =
        let e : has + got - first ≡ (has - first) + got = omega (arith, after) in
        let right : drop (has - first) (take (has + got - first) words) ≡ take got behind =
        ap (λ n. drop (has - first) (take n words)) e ∙ drop-take (has - first) got words in
        all_of (cases_lt (most - first) (has - first)) ∙ sym right
