-- The pieces that are asked for, one after the other.
use Rattle.std.proofs.Common.{◌≡◌, ◌⊎◌, inl, inr, ℕ, zero, suc, ◌+◌, ◌-◌, ◌≤◌, ◌<◌, min, Bool, true, false, not, cond, eqb, List, [], ◌∷◌, ◌++◌, length, take, get_or, Option, Some, None, refl, sym, ap, ◌∙◌, append_assoc, arith}
use Rattle.std.specs.Prelude.{All, count_by, filter, is_none, is_some}
use Rattle.std.specs.List.{list_all, range_with_len}
use Rattle.std.proofs.lemmas.Bool.{cases_eq, cases_lt, eqb-true, false≢true}
use Rattle.std.proofs.lemmas.List.{append-nil, length-append, length-take, length_push, take-append-le, take_all}
use Rattle.std.proofs.lemmas.List.Elements.{All-append, All-cons, All-filter, All-nil, All-take, filter_passes}
use Rattle.std.proofs.lemmas.List.Folds.{sum_by-zero}
use Rattle.roll_state.specs.Crossing.{TakersAskForWhatIsMissing}
use Rattle.roll_state.specs.Taking.{is_missing, missing_from}
use Rattle.roll_state.specs.declared.limits.TheConstants.{ASK_LIMIT}

abbrev missing : List (Option ℕ) → (place end : ℕ) → List ℕ
missing from place end = filter (is_missing from) (range_with_len place (end - place))

-- those of a range up to a place were added, so many at most
pub record Adding (from : List (Option ℕ)) (most : ℕ) (first places : List ℕ) (start place end : ℕ)
    : Type 0 where
  pub few : length places ≤ most
  pub so_far : take most (places ++ missing from place end)
      ≡ take most (first ++ missing from start end)

one_more : (from : List (Option ℕ)) (place end : ℕ) → place < end → is_missing from place ≡ true
    → missing from place end ≡ place ∷ missing from (place + 1) end
one_more from place end l h =
    let k : end - place ≡ suc (end - (place + 1)) = omega arith in
    rw (k, h) refl

no_more : (from : List (Option ℕ)) (place end : ℕ) → place < end → is_missing from place ≡ false
    → missing from place end ≡ missing from (place + 1) end
no_more from place end l h =
    let k : end - place ≡ suc (end - (place + 1)) = omega arith in
    rw (k, h) refl

pub adds : (from : List (Option ℕ)) (most : ℕ) (first places : List ℕ) (start place end : ℕ)
    → place < end → length places < most → is_missing from place ≡ true
    → Adding from most first places start place end
    → Adding from most first (places ++ place ∷ []) start (place + 1) end
adds from most first places start place end l room h a = record {
  few = omega (arith, length_push places place);
  so_far =
      ap (take most) (append_assoc places (place ∷ []) (missing from (place + 1) end)
      ∙ ap (λ (ps : List ℕ). places ++ ps) (sym (one_more from place end l h)))
      ∙ a.so_far;
}

pub passes : (from : List (Option ℕ)) (most : ℕ) (first places : List ℕ) (start place end : ℕ)
    → place < end → is_missing from place ≡ false
    → Adding from most first places start place end
    → Adding from most first places start (place + 1) end
passes from most first places start place end l h a = record {
  few = a.few;
  so_far =
      ap (λ (ps : List ℕ). take most (places ++ ps)) (sym (no_more from place end l h)) ∙ a.so_far;
}

-- no further one has room
pub is_full : (from : List (Option ℕ)) (most : ℕ) (first places : List ℕ) (start place end : ℕ)
    → most ≤ length places → Adding from most first places start place end
    → Adding from most first places start (place + 1) end
is_full from most first places start place end full a = record {
  few = a.few;
  so_far =
      take-append-le most places (missing from (place + 1) end) full
      ∙ sym (take-append-le most places (missing from place end) full) ∙ a.so_far;
}

pub added : (from : List (Option ℕ)) (most : ℕ) (first places : List ℕ) (start place end : ℕ)
    → end ≤ place → Adding from most first places start place end
    → places ≡ take most (first ++ missing from start end)
added from most first places start place end l a =
    let k : end - place ≡ 0 = omega arith in
    let none : missing from place end ≡ [] = rw k refl in
    sym (take_all most places a.few) ∙ ap (take most) (sym (append-nil places)
    ∙ ap (λ (ps : List ℕ). places ++ ps) (sym none)) ∙ a.so_far

-- ---- what is asked for is missing

all_in : (start n most : ℕ) → start + n ≤ most → All (λ place. place < most) (range_with_len start n)
all_in start zero most l = All-nil (λ place. place < most)
all_in start (suc n) most l =
    All-cons (λ place. place < most) start (range_with_len (start + 1) n) (omega arith)
    (all_in (start + 1) n most (omega arith))

none_if_missing : (giver : Option ℕ) → not (is_some giver) ≡ true → giver ≡ None
none_if_missing None e = refl
none_if_missing (Some by) e = absurd cc

abbrev IsMissing : List (Option ℕ) → ℕ → Type 0
IsMissing from place = (place < length from) × (get_or from place None ≡ None)

all_missing_in : (from : List (Option ℕ)) (start n : ℕ) → start + n ≤ length from
    → All (IsMissing from) (filter (is_missing from) (range_with_len start n))
all_missing_in from start n l k d inside = (
  All-filter (is_missing from) (λ place. place < length from) (range_with_len start n)
      (all_in start n (length from) l) k d inside,
  none_if_missing _ (filter_passes (is_missing from) (range_with_len start n) k d inside),
)

pub all_asked : (from : List (Option ℕ)) (place most : ℕ)
    → All (IsMissing from) (take most (missing_from from place))
all_asked from place most =
    let front : All (IsMissing from) (filter (is_missing from) (range_with_len place (length from - place))) =
    elim (cases_lt place (length from)) [
      | inl lt ↦ all_missing_in from place (length from - place) (omega arith)
      | inr le ↦
          let none : length from - place ≡ 0 = omega arith in
          rw none (All-nil (IsMissing from))
    ] in
    let back : All (IsMissing from) (filter (is_missing from) (range_with_len 0 (min place (length from)))) =
    all_missing_in from 0 (min place (length from)) (omega arith) in
    All-take (IsMissing from) most (missing_from from place)
    (All-append (IsMissing from) _ _ front back)

-- ---- something is asked for

missing_or_not : (from : List (Option ℕ)) → ((k : ℕ) × (k < length from) × (get_or from k None ≡ None))
    ⊎ (list_all (λ x. eqb (cond (is_none x) 1 0) 0) from ≡ true)
missing_or_not [] = inr refl
missing_or_not (None ∷ from) = inl (0, omega arith, refl)
missing_or_not (Some by ∷ from) =
    elim (missing_or_not from) [
      | inl some ↦ inl (suc some.0, omega (arith, some.1), some.2)
      | inr all ↦ inr all
    ]

some_missing : (from : List (Option ℕ)) → 1 ≤ count_by is_none from
    → (k : ℕ) × (k < length from) × (get_or from k None ≡ None)
some_missing from some =
    elim (missing_or_not from) [
      | inl here ↦ here
      | inr all ↦
          let zero : eqb (count_by is_none from) 0 ≡ true =
          sum_by-zero (λ x. cond (is_none x) 1 0) from ∙ all in
          absurd (omega (arith, eqb-true (count_by is_none from) 0 zero))
    ]

kept_or_more : (first : ℕ) (others : List ℕ) (b : Bool) → (b ≡ false → 1 ≤ length others)
    → 1 ≤ length (cond b (first ∷ others) others)
kept_or_more first others true more = omega arith
kept_or_more first others false more = more refl

passes_one : (p : ℕ → Bool) (start n k : ℕ) → start ≤ k → k < start + n → p k ≡ true
    → 1 ≤ length (filter p (range_with_len start n))
passes_one p start zero k low high e = absurd (omega arith)
passes_one p start (suc n) k low high e =
    kept_or_more start (filter p (range_with_len (start + 1) n)) (p start) (λ fails.
    elim (cases_eq k start) [
      | inl same ↦ absurd (false≢true (sym fails ∙ ap p (sym same) ∙ e))
      | inr other ↦ passes_one p (start + 1) n k (omega (arith, other)) (omega arith) e
    ])

pub some_asked : (from : List (Option ℕ)) (place most : ℕ) → 1 ≤ most → 1 ≤ count_by is_none from
    → 1 ≤ length (take most (missing_from from place))
some_asked from place most one left =
    let k = some_missing from left in
    let p : is_missing from k.0 ≡ true = ap (λ (x : Option ℕ). not (is_some x)) k.2 in
    let front : List ℕ = filter (is_missing from) (range_with_len place (length from - place)) in
    let back : List ℕ = filter (is_missing from) (range_with_len 0 (min place (length from))) in
    let some : 1 ≤ length (front ++ back) =
    elim (cases_lt k.0 place) [
      | inl before ↦ omega (
        arith,
        length-append front back,
        passes_one (is_missing from) 0 (min place (length from)) k.0 (omega arith)
            (omega (arith, k.1)) p,
      )
      | inr behind ↦ omega (
        arith,
        length-append front back,
        passes_one (is_missing from) place (length from - place) k.0 behind
            (omega (arith, k.1)) p,
      )
    ] in
    omega (arith, length-take most (front ++ back))

pub takers_ask_for_what_is_missing : TakersAskForWhatIsMissing
takers_ask_for_what_is_missing = record {
  missing = λ t most. all_asked t.held.from t.next (min most ASK_LIMIT);
  some = λ t most one left.
      some_asked t.held.from t.next (min most ASK_LIMIT) (omega arith) left;
  few = λ t most. (
    omega (arith, length-take (min most ASK_LIMIT) (missing_from t.held.from t.next)),
    omega (arith, length-take (min most ASK_LIMIT) (missing_from t.held.from t.next)),
  );
}
