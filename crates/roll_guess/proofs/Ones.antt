-- Guesses that are offered for one element of a list after another.
use Rattle.std.proofs.Common.{◌≡◌, ℕ, ◌+◌, ◌<◌, ◌≤◌, ◌⊎◌, inl, inr, List, length, get_or, sym, ◌∙◌, ap, subst, arith}
use Rattle.std.specs.Prelude.{replicate, Any}
use Rattle.std.proofs.lemmas.Bool.{cases_lt}
use Rattle.std.proofs.lemmas.List.{get_or_default}
use Rattle.roll_guess.specs.Guesses.{AreOffered, IsRanking}
use Rattle.roll_guess.specs.PartGuesses.{IsFirstChange, IsPartChange}
use Rattle.roll_guess.specs.declared.part_habits.PartHabits.{PartHabits}
use Rattle.roll_guess.specs.declared.ranking.Guess.{Guess}
use Rattle.roll_guess.specs.declared.ranking.View.{View}
use Rattle.roll_guess.proofs.Offers.{offered_as, offered_both, offered_none}

-- words that are offered for one of the first so many elements
abbrev pub IsOfFirst : {X : Type 0} → List X → (X → List ℕ → Type 0) → ℕ → List ℕ → Type 0
IsOfFirst {X} xs P i words = (k : ℕ) × (x : X) × (k < i) × (get_or xs k x ≡ x) × P x words

module _ {X : Type 0} (worths : List ℕ → ℕ) (view : View) (xs : List X) (P : X → List ℕ → Type 0) where
  abbrev First : ℕ → List ℕ → Type 0
  First i words = IsOfFirst xs P i words

  pub first_none : (guesses : List Guess) → IsRanking worths view guesses
      → AreOffered worths view (IsOfFirst xs P 0) guesses guesses
  first_none guesses ranked =
      offered_none worths view (First 0) guesses ranked (λ words (k, x, early, there, is). omega (arith, early))

  module _ (i : ℕ) (d : X) (within : i < length xs) where
    later : (words : List ℕ) → First i words → First (i + 1) words
    later words (k, x, early, there, is) = (k, x, omega (arith, early), there, is)

    here : (words : List ℕ) → P (get_or xs i d) words → First (i + 1) words
    here words is = (i, get_or xs i d, omega arith, get_or_default xs i (get_or xs i d) d within, is)

    last : (words : List ℕ) → First (i + 1) words → First i words ⊎ P (get_or xs i d) words
    last words (k, x, early, there, is) = go (cases_lt k i)
      where
        go : (k < i) ⊎ (i ≤ k) → First i words ⊎ P (get_or xs i d) words
        go (inl before) = inl (k, x, before, there, is)
        go (inr late) =
            let same : k ≡ i = omega (arith, late, early) in
            inr (subst (λ y. P y words) (sym there ∙ ap (λ n. get_or xs n x) same ∙ get_or_default xs i x d within) is)

    -- the guesses of one element more were offered
    pub first_more : (old between new : List Guess) → AreOffered worths view (IsOfFirst xs P i) old between
        → AreOffered worths view (P (get_or xs i d)) between new
        → AreOffered worths view (IsOfFirst xs P (i + 1)) old new
    first_more old between new before one =
        offered_both worths view (First i) (P (get_or xs i d)) (First (i + 1)) old between new before one later here last

    -- these words were, which are those of one element more
    pub first_one : (old between new : List Guess) → AreOffered worths view (IsOfFirst xs P i) old between
        → (words : List ℕ) → ((next : List ℕ) → next ≡ words → P (get_or xs i d) next)
        → ((next : List ℕ) → P (get_or xs i d) next → next ≡ words) → AreOffered worths view (λ next. next ≡ words) between new
        → AreOffered worths view (IsOfFirst xs P (i + 1)) old new
    first_one old between new before words to from one =
        first_more old between new before
        (offered_as worths view (λ next. next ≡ words) (P (get_or xs i d)) between new one to from)

    -- there are none of this element
    pub first_skip : (old new : List Guess) → AreOffered worths view (IsOfFirst xs P i) old new
        → ((words : List ℕ) → P (get_or xs i d) words → ⊥) → AreOffered worths view (IsOfFirst xs P (i + 1)) old new
    first_skip old new before none =
        offered_as worths view (First i) (First (i + 1)) old new before later (λ words is. go words (last words is))
      where
        go : (words : List ℕ) → First i words ⊎ P (get_or xs i d) words → First i words
        go words (inl is) = is
        go words (inr is) = absurd (none words is)

  -- those of all elements were
  pub first_all : (i : ℕ) (old new : List Guess) → i ≡ length xs → AreOffered worths view (IsOfFirst xs P i) old new
      → AreOffered worths view (λ words. Any (λ x. P x words) xs) old new
  first_all i old new all before =
      offered_as worths view (First i) (λ words. Any (λ x. P x words) xs) old new before
      (λ words (k, x, early, there, is). (k, x, subst (λ n. k < n) all early, there, is))
      (λ words (k, x, within, there, is). (k, x, subst (λ n. k < n) (sym all) within, there, is))

-- a first change after fewer frames than these
abbrev pub IsFirstChangeBefore : PartHabits → ℕ → List ℕ → Type 0
IsFirstChangeBefore habits end next =
    (more : ℕ) × (more < end) × IsPartChange habits.parts.items (replicate more habits.held) habits.held next

module _ (worths : List ℕ → ℕ) (view : View) (habits : PartHabits) where
  pub changes_none : (guesses : List Guess) → IsRanking worths view guesses
      → AreOffered worths view (IsFirstChangeBefore habits 0) guesses guesses
  changes_none guesses ranked =
      offered_none worths view (IsFirstChangeBefore habits 0) guesses ranked (λ next (more, early, is). omega (arith, early))

  -- the changes after so many frames were offered too
  pub changes_more : (end : ℕ) (old between new : List Guess) → AreOffered worths view (IsFirstChangeBefore habits end) old between
      → AreOffered worths view (IsPartChange habits.parts.items (replicate end habits.held) habits.held) between new
      → AreOffered worths view (IsFirstChangeBefore habits (end + 1)) old new
  changes_more end old between new before one =
      offered_both worths view (IsFirstChangeBefore habits end)
      (IsPartChange habits.parts.items (replicate end habits.held) habits.held) (IsFirstChangeBefore habits (end + 1))
      old between new before one
      (λ next (more, early, is). (more, omega (arith, early), is)) (λ next is. (end, omega arith, is)) last
    where
      last : (next : List ℕ) → IsFirstChangeBefore habits (end + 1) next
          → IsFirstChangeBefore habits end next ⊎ IsPartChange habits.parts.items (replicate end habits.held) habits.held next
      last next (more, early, is) = go (cases_lt more end)
        where
          go : (more < end) ⊎ (end ≤ more) → IsFirstChangeBefore habits end next
              ⊎ IsPartChange habits.parts.items (replicate end habits.held) habits.held next
          go (inl before) = inl (more, before, is)
          go (inr late) =
              let same : more ≡ end = omega (arith, late, early) in
              inr (subst (λ n. IsPartChange habits.parts.items (replicate n habits.held) habits.held next) same is)

  -- those in all frames were
  pub changes_all : (end : ℕ) (old new : List Guess) → end ≡ view.unknown
      → AreOffered worths view (IsFirstChangeBefore habits end) old new
      → AreOffered worths view (IsFirstChange habits view) old new
  changes_all end old new all before =
      offered_as worths view (IsFirstChangeBefore habits end) (IsFirstChange habits view) old new before
      (λ next (more, early, is). (more, omega (arith, early, all), is))
      (λ next (more, early, is). (more, omega (arith, early, all), is))
