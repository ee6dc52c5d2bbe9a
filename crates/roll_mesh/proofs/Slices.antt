-- Slices of a list, and a front of it that goes on with them.
use Rattle.std.proofs.Common.{◌≡◌, ℕ, ◌+◌, ◌<◌, ◌≤◌, List, [], ◌++◌, length, refl, sym, ◌∙◌, ap, arith, inl, inr}
use Rattle.std.specs.Prelude.{◌⊎◌, ◌-◌, take, drop}
use Rattle.std.proofs.Math.Seq.{take-add}
use Rattle.std.proofs.lemmas.Bool.{cases_lt}
use Rattle.std.proofs.lemmas.List.{take-take, drop-take, drop-drop, drop_all, length-take, length-drop, length-take-le, take-append-le, drop-append-le, take-append-drop}

-- the words from a first one to before an end
abbrev pub slice : ℕ → ℕ → List ℕ → List ℕ
slice first end words = take (end - first) (drop first words)

-- a front, and of a slice of the whole that begins in it what comes after the front
pub front_goes_on : (whole : List ℕ) (first end old new : ℕ) → first ≤ old → old ≤ new → new ≤ end
    → take old whole ++ drop (old - first) (take (new - first) (slice first end whole))
    ≡ take new whole
front_goes_on whole first end old new low grows high =
    let cut :
    take (new - first) (slice first end whole)
    ≡ take ((old - first) + (new - old)) (drop first whole) =
    take-take (new - first) (end - first) (drop first whole) (omega arith)
    ∙ ap (λ (n : ℕ). take n (drop first whole)) (omega arith) in
    let next :
    drop (old - first) (take (new - first) (slice first end whole))
    ≡ take (new - old) (drop old whole) =
    ap (drop (old - first)) cut
    ∙ (drop-take (old - first) (new - old) (drop first whole)
    ∙ (ap (take (new - old)) (drop-drop (old - first) first whole)
    ∙ ap (λ (n : ℕ). take (new - old) (drop n whole)) (omega arith))) in
    ap (λ (l : List ℕ). take old whole ++ l) next
    ∙ (sym (take-add old (new - old) whole) ∙ ap (λ (n : ℕ). take n whole) (omega arith))

pub nothing_more : (n : ℕ) (words : List ℕ) → drop n (take n words) ≡ []
nothing_more n words = drop_all n (take n words) (omega (arith, length-take n words))

-- a slice of a list stays when the list goes on
pub slice_stays : (first end : ℕ) (words more : List ℕ) → end ≤ length words
    → slice first end (words ++ more) ≡ slice first end words
slice_stays first end words more l = go (cases_lt (length words) first)
  where
    go : (length words < first) ⊎ (first ≤ length words)
        → slice first end (words ++ more) ≡ slice first end words
    go (inl past) = none (end - first) (omega arith)
      where
        none : (n : ℕ) → n ≡ 0 → take n (drop first (words ++ more)) ≡ take n (drop first words)
        none n e = rw e refl
    go (inr inside) =
        ap (take (end - first)) (drop-append-le first words more inside)
        ∙ take-append-le (end - first) (drop first words) more
        (omega (arith, length-drop first words))

-- and is a slice of a front that reaches as far
pub slice_of_front : (first end n : ℕ) (words : List ℕ) → end ≤ n → n ≤ length words
    → slice first end (take n words) ≡ slice first end words
slice_of_front first end n words l inside =
    sym (slice_stays first end (take n words) (drop n words)
    (omega (arith, length-take-le n words inside)))
    ∙ ap (slice first end) (take-append-drop n words)

pub front_stays : (n : ℕ) (words more : List ℕ) → n ≤ length words
    → take n (words ++ more) ≡ take n words
front_stays n words more l = take-append-le n words more l
