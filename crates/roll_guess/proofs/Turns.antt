-- What a loop over the known words, or over the best changes, has offered so far.
use Rattle.std.proofs.Common.{◌≡◌, ◌≢◌, ℕ, ◌+◌, ◌<◌, ◌≤◌, ◌⊎◌, inl, inr, List, [], ◌∷◌, ◌++◌, length, get_or, sym, ◌∙◌, ap, subst, arith}
use Rattle.std.proofs.lemmas.Bool.{cases_lt}
use Rattle.std.proofs.lemmas.List.{append-nil, get_or_default}
use Rattle.roll_guess.specs.Guesses.{worth_of_words, along, AreOffered, IsChange, IsChangeAfter, IsCourse}
use Rattle.roll_guess.specs.declared.course.Course.{Course}
use Rattle.roll_guess.specs.declared.habits.Habits.{Habits}
use Rattle.roll_guess.specs.declared.ranking.Guess.{Guess}
use Rattle.roll_guess.specs.declared.ranking.View.{View}
use Rattle.roll_guess.proofs.Offers.{offered_as, offered_both}

-- these words, and then one of the first known ones that isn't held
pub record IsTurnBefore (known : List ℕ) (count held : ℕ) (words next : List ℕ) : Type 0 where
  pub place : ℕ
  pub word : ℕ
  pub early : place < count
  pub there : get_or known place word ≡ word
  pub other : word ≢ held
  pub is : next ≡ words ++ word ∷ []

module _ (known : List ℕ) (held : ℕ) (words : List ℕ) where
  abbrev Before : ℕ → List ℕ → Type 0
  Before count next = IsTurnBefore known count held words next

  -- the words, and then this one, which isn't held
  abbrev IsTurnTo : ℕ → List ℕ → Type 0
  IsTurnTo word next = (word ≢ held) × (next ≡ words ++ word ∷ [])

  later : (i : ℕ) (next : List ℕ) → Before i next → Before (i + 1) next
  later i next turn =
      let early = turn.early in
      record {
        place = turn.place;
        word = turn.word;
        early = omega (arith, early);
        there = turn.there;
        other = turn.other;
        is = turn.is;
      }

  module _ (i d : ℕ) (within : i < length known) where
    -- the turn is an earlier one, or to the word of this place
    turn_parts : (next : List ℕ) → Before (i + 1) next → Before i next ⊎ IsTurnTo (get_or known i d) next
    turn_parts next turn = go (cases_lt turn.place i)
      where
        go : (turn.place < i) ⊎ (i ≤ turn.place) → Before i next ⊎ IsTurnTo (get_or known i d) next
        go (inl early) = inl (record {
          place = turn.place;
          word = turn.word;
          early = early;
          there = turn.there;
          other = turn.other;
          is = turn.is;
        })
        go (inr late) =
            let early = turn.early in
            let same : turn.place ≡ i = omega (arith, late, early) in
            let here : turn.word ≡ get_or known i d = sym turn.there ∙ ap (λ k. get_or known k turn.word) same
            ∙ get_or_default known i turn.word d within in
            inr (subst (λ word. word ≢ held) here turn.other, turn.is ∙ ap (λ word. words ++ word ∷ []) here)

    turn_here : get_or known i d ≢ held → (next : List ℕ) → next ≡ words ++ get_or known i d ∷ [] → Before (i + 1) next
    turn_here other next is = record {
      place = i;
      word = get_or known i d;
      early = omega arith;
      there = get_or_default known i (get_or known i d) d within;
      other = other;
      is = is;
    }

    module _ (habits : Habits) (view : View) where
      -- one word more was offered
      pub turn_more : (old between new : List Guess) → AreOffered (worth_of_words habits view) view (IsTurnBefore known i held words) old between
          → get_or known i d ≢ held → AreOffered (worth_of_words habits view) view (λ next. next ≡ words ++ get_or known i d ∷ []) between new
          → AreOffered (worth_of_words habits view) view (IsTurnBefore known (i + 1) held words) old new
      turn_more old between new before other one =
          offered_both (worth_of_words habits view) view (Before i) (λ next. next ≡ words ++ get_or known i d ∷ []) (Before (i + 1))
          old between new before one (later i) (turn_here other) (λ next turn. either next (turn_parts next turn))
        where
          either : (next : List ℕ) → Before i next ⊎ IsTurnTo (get_or known i d) next
              → Before i next ⊎ (next ≡ words ++ get_or known i d ∷ [])
          either next (inl turn) = inl turn
          either next (inr (_, is)) = inr is

      -- the word is held
      pub turn_held : (old new : List Guess) → AreOffered (worth_of_words habits view) view (IsTurnBefore known i held words) old new
          → get_or known i d ≡ held → AreOffered (worth_of_words habits view) view (IsTurnBefore known (i + 1) held words) old new
      turn_held old new before same =
          offered_as (worth_of_words habits view) view (Before i) (Before (i + 1)) old new before (later i)
          (λ next turn. earlier next (turn_parts next turn))
        where
          earlier : (next : List ℕ) → Before i next ⊎ IsTurnTo (get_or known i d) next → Before i next
          earlier next (inl turn) = turn
          earlier next (inr (other, _)) = absurd (other same)

module _ (habits : Habits) (view : View) (course : Course) (count : ℕ) (is : IsCourse habits course)
    (all : length habits.known.items ≡ count) where
  held_is : course.held.word ≡ (along habits course.words.items).0.word
  held_is = ap (λ held. held.word) is.held

  -- all known words were offered
  pub turns_all : (old new : List Guess)
      → AreOffered (worth_of_words habits view) view (IsTurnBefore habits.known.items count course.held.word course.words.items) old new
      → AreOffered (worth_of_words habits view) view (IsChangeAfter habits course.words.items 0) old new
  turns_all old new before =
      offered_as (worth_of_words habits view) view (IsTurnBefore habits.known.items count course.held.word course.words.items)
      (IsChangeAfter habits course.words.items 0) old new before to from
    where
      to : (next : List ℕ) → IsTurnBefore habits.known.items count course.held.word course.words.items next
          → IsChangeAfter habits course.words.items 0 next
      to next turn =
          let early = turn.early in
          record {
            word = turn.word;
            known = (turn.place, omega (arith, early, all), turn.there);
            other = λ same. turn.other (same ∙ sym held_is);
            is = turn.is ∙ ap (λ words. words ++ turn.word ∷ []) (sym (append-nil course.words.items));
          }

      from : (next : List ℕ) → IsChangeAfter habits course.words.items 0 next
          → IsTurnBefore habits.known.items count course.held.word course.words.items next
      from next change =
          let within = change.known.1 in
          record {
            place = change.known.0;
            word = change.word;
            early = omega (arith, within, all);
            there = change.known.2;
            other = λ same. change.other (same ∙ held_is);
            is = change.is ∙ ap (λ words. words ++ change.word ∷ []) (append-nil course.words.items);
          }

-- one change, or one after one of the first of these guesses
abbrev pub IsChangeOrSecondBefore : Habits → View → List Guess → ℕ → List ℕ → Type 0
IsChangeOrSecondBefore habits view singles count words =
    IsChange habits view [] words
    ⊎ ((k : ℕ) × (x : Guess) × (k < count) × (get_or singles k x ≡ x) × IsChange habits view x.words.items words)

module _ (habits : Habits) (view : View) (singles : List Guess) where
  abbrev Offered : ℕ → List ℕ → Type 0
  Offered count words = IsChangeOrSecondBefore habits view singles count words

  pub second_none : (old new : List Guess) → AreOffered (worth_of_words habits view) view (IsChange habits view []) old new
      → AreOffered (worth_of_words habits view) view (IsChangeOrSecondBefore habits view singles 0) old new
  second_none old new first =
      offered_as (worth_of_words habits view) view (IsChange habits view []) (Offered 0) old new first (λ words change. inl change) go
    where
      go : (words : List ℕ) → Offered 0 words → IsChange habits view [] words
      go words (inl change) = change
      go words (inr (k, x, early, _, _)) = absurd (omega (arith, early))

  module _ (i : ℕ) (d : Guess) (within : i < length singles) where
    abbrev Second : List ℕ → Type 0
    Second words = IsChange habits view (get_or singles i d).words.items words

    later_second : (words : List ℕ) → Offered i words → Offered (i + 1) words
    later_second words (inl change) = inl change
    later_second words (inr (k, x, early, there, change)) = inr (k, x, omega (arith, early), there, change)

    second_here : (words : List ℕ) → Second words → Offered (i + 1) words
    second_here words change =
        inr (i, get_or singles i d, omega arith, get_or_default singles i (get_or singles i d) d within, change)

    second_split : (words : List ℕ) (k : ℕ) (x : Guess) → k < i + 1 → get_or singles k x ≡ x
        → IsChange habits view x.words.items words → (k < i) ⊎ (i ≤ k) → Offered i words ⊎ Second words
    second_split words k x early there change (inl earlier) = inl (inr (k, x, earlier, there, change))
    second_split words k x early there change (inr late) =
        let same : k ≡ i = omega (arith, early, late) in
        inr (subst (λ y. IsChange habits view y.words.items words)
        (sym there ∙ ap (λ n. get_or singles n x) same ∙ get_or_default singles i x d within) change)

    second_parts : (words : List ℕ) → Offered (i + 1) words → Offered i words ⊎ Second words
    second_parts words (inl change) = inl (inl change)
    second_parts words (inr (k, x, early, there, change)) = second_split words k x early there change (cases_lt k i)

    -- the changes after one guess more were offered
    pub second_more : (old between new : List Guess)
        → AreOffered (worth_of_words habits view) view (IsChangeOrSecondBefore habits view singles i) old between
        → AreOffered (worth_of_words habits view) view (IsChange habits view (get_or singles i d).words.items) between new
        → AreOffered (worth_of_words habits view) view (IsChangeOrSecondBefore habits view singles (i + 1)) old new
    second_more old between new before more =
        offered_both (worth_of_words habits view) view (Offered i) Second (Offered (i + 1)) old between new before more
        later_second second_here second_parts
