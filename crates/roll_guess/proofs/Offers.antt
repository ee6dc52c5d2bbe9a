-- What stands or is beaten stays so where a guess is offered.
use Rattle.std.proofs.Common.{◌≡◌, ℕ, ◌+◌, ◌<◌, ◌≤◌, ◌⊎◌, inl, inr, List, [], ◌∷◌, length, take, drop, get_or, min, refl, sym, ◌∙◌, ap, subst, arith}
use Rattle.std.specs.Prelude.{insert, All}
use Rattle.std.proofs.lemmas.Bool.{cases_lt}
use Rattle.std.proofs.lemmas.List.{get_or_default, get_or-take, length-take}
use Rattle.std.proofs.lemmas.List.Edits.{get_or-insert_at, get_or-insert_below, get_or-insert_above, length-insert}
use Rattle.std.proofs.lemmas.List.Elements.{All-append, All-cons, All-drop, All-take}
use Rattle.roll_guess.specs.Guesses.{AreOffered, HasNone, HasOne, IsBeaten, IsPlace, IsRanking, RanksAll, StandsOrIsBeaten, Suits}
use Rattle.roll_guess.specs.declared.ranking.Guess.{Guess}
use Rattle.roll_guess.specs.declared.ranking.View.{View}
use Rattle.roll_guess.proofs.Rankings.{offered}

one_at : (guesses : List Guess) (words : List ℕ) (k : ℕ) (d x : Guess) → k < length guesses → get_or guesses k d ≡ x
    → x.words.items ≡ words → HasOne guesses words
one_at guesses words k d x within is same = (k, x, within, get_or_default guesses k x d within ∙ is, same)

each_one : (guesses : List Guess) → All (λ guess. HasOne guesses guess.words.items) guesses
each_one guesses k d within = one_at guesses (get_or guesses k d).words.items k d (get_or guesses k d) within refl refl

module _ (place : ℕ) (guesses : List Guess) (guess : Guess) (within : place ≤ length (take 31 guesses)) where
  pub one_inserted : HasOne (insert (take 31 guesses) place guess) guess.words.items
  one_inserted =
      one_at (insert (take 31 guesses) place guess) guess.words.items place guess guess
      (let e = length-insert (take 31 guesses) place guess within in omega (arith, e, within))
      (get_or-insert_at (take 31 guesses) place guess guess within) refl

  all_inserted : (P : Guess → Type 0) → All P guesses → P guess → All P (insert (take 31 guesses) place guess)
  all_inserted P all one =
      let first = All-take P 31 guesses all in
      All-append P (take place (take 31 guesses)) (guess ∷ drop place (take 31 guesses))
      (All-take P place (take 31 guesses) first)
      (All-cons P guess (drop place (take 31 guesses)) one (All-drop P place (take 31 guesses) first))

  -- one of the first ones is behind one more at most
  one_kept : (words : List ℕ) (k : ℕ) (x : Guess) → k < 31 → k < length guesses → get_or guesses k x ≡ x
      → x.words.items ≡ words → HasOne (insert (take 31 guesses) place guess) words
  one_kept words k x early there is same = go (cases_lt k place)
    where
      few : length (insert (take 31 guesses) place guess) ≡ min 31 (length guesses) + 1
      few = length-insert (take 31 guesses) place guess within ∙ ap (λ n. n + 1) (length-take 31 guesses)

      taken : get_or (take 31 guesses) k x ≡ x
      taken = get_or-take 31 guesses k x early ∙ is

      go : (k < place) ⊎ (place ≤ k) → HasOne (insert (take 31 guesses) place guess) words
      go (inl low) =
          one_at (insert (take 31 guesses) place guess) words k x x (omega (arith, few, early, there))
          (get_or-insert_below (take 31 guesses) place guess x k low within ∙ taken) same
      go (inr high) =
          one_at (insert (take 31 guesses) place guess) words (k + 1) x x (omega (arith, few, early, there))
          (get_or-insert_above (take 31 guesses) place guess x k high within ∙ taken) same

module _ (worths : List ℕ → ℕ) (view : View) where
  module _ (place : ℕ) (guesses : List Guess) (guess : Guess) (low : place ≤ 31) (few : length guesses ≤ 32)
      (ranked : IsRanking worths view guesses) (at : IsPlace guesses guess.worth place) where
    within : place ≤ length (take 31 guesses)
    within = let e = length-take 31 guesses in let h = at.within in omega (arith, e, h, low)

    -- where all are worth so much, so is the new one
    beaten_inserted : (words : List ℕ) → length guesses ≡ 32
        → All (λ g. worths words ≤ g.worth) guesses
        → IsBeaten worths (insert (take 31 guesses) place guess) words
    beaten_inserted words full all = record {
      full =
          let one = length-insert (take 31 guesses) place guess within in
          let others = length-take 31 guesses in
          omega (arith, one, others, full);
      worth = all_inserted place guesses guess within (λ g. worths words ≤ g.worth) all
          (let there : place < length guesses = omega (arith, low, full) in
          let less = at.behind guess there in
          let worth = all place guess there in
          omega (arith, less, worth));
    }

    -- the last one is worth no more than the others
    last_least : (words : List ℕ) (k : ℕ) (x : Guess) → 31 ≤ k → k < length guesses → get_or guesses k x ≡ x
        → x.words.items ≡ words → All (λ g. worths words ≤ g.worth) guesses
    last_least words k x late there is same j d within' = subst (λ w. w ≤ (get_or guesses j d).worth) worth (go (cases_lt j k))
      where
        worth : (get_or guesses k d).worth ≡ worths words
        worth = (ranked.suits k d there).worth
            ∙ ap (λ g. worths g.words.items) (get_or_default guesses k d x there ∙ is)
            ∙ ap worths same

        go : (j < k) ⊎ (k ≤ j) → (get_or guesses k d).worth ≤ (get_or guesses j d).worth
        go (inl before) = ranked.falling j k d before there
        go (inr behind) =
            let e : j ≡ k = omega (arith, behind, within', late, few) in
            subst (λ n. (get_or guesses k d).worth ≤ (get_or guesses n d).worth) (sym e) (omega arith)

    kept_inserted : (words : List ℕ) → StandsOrIsBeaten worths guesses words
        → StandsOrIsBeaten worths (insert (take 31 guesses) place guess) words
    kept_inserted words (inl (k, x, there, is, same)) = go (cases_lt k 31)
      where
        go : (k < 31) ⊎ (31 ≤ k) → StandsOrIsBeaten worths (insert (take 31 guesses) place guess) words
        go (inl early) = inl (one_kept place guesses guess within words k x early there is same)
        go (inr late) =
            inr (beaten_inserted words (omega (arith, late, there, few)) (last_least words k x late there is same))
    kept_inserted words (inr beaten) = inr (beaten_inserted words beaten.full beaten.worth)

    pub inserted : Suits worths view guess → HasNone guesses guess.words.items
        → AreOffered worths view (λ words. words ≡ guess.words.items) guesses (insert (take 31 guesses) place guess)
    inserted suits none = record {
      ranked = offered worths view 31 place guesses guess low ranked suits at none;
      only = all_inserted place guesses guess within
          (λ g. HasOne guesses g.words.items ⊎ (g.words.items ≡ guess.words.items))
          (λ k d there. inl (each_one guesses k d there)) (inr refl);
      kept = kept_inserted;
      all = λ words is.
          inl (subst (HasOne (insert (take 31 guesses) place guess)) (sym is) (one_inserted place guesses guess within));
    }

  -- nothing was offered yet
  pub offered_none : (IsOffered : List ℕ → Type 0) (guesses : List Guess) → IsRanking worths view guesses
      → ((words : List ℕ) → IsOffered words → ⊥) → AreOffered worths view IsOffered guesses guesses
  offered_none IsOffered guesses ranked none = record {
    ranked = ranked;
    only = λ k d within. inl (each_one guesses k d within);
    kept = λ words stands. stands;
    all = λ words is. absurd (none words is);
  }

  module _ (A B C : List ℕ → Type 0) where
    -- some guesses, and then some more
    pub offered_both : (old between new : List Guess) → AreOffered worths view A old between
        → AreOffered worths view B between new → ((words : List ℕ) → A words → C words) → ((words : List ℕ) → B words → C words)
        → ((words : List ℕ) → C words → A words ⊎ B words) → AreOffered worths view C old new
    offered_both old between new first second from_a from_b parts = record {
      ranked = second.ranked;
      only = λ k d within. came (get_or new k d) (second.only k d within);
      kept = λ words stands. second.kept words (first.kept words stands);
      all = λ words is. stand words (parts words is);
    }
      where
        Came : List ℕ → Type 0
        Came words = HasOne old words ⊎ C words

        came_first : (words : List ℕ) (x : Guess) → x.words.items ≡ words
            → HasOne old x.words.items ⊎ A x.words.items → Came words
        came_first words x same (inl one) = inl (subst (HasOne old) same one)
        came_first words x same (inr a) = inr (from_a words (subst A same a))

        came : (x : Guess) → HasOne between x.words.items ⊎ B x.words.items → Came x.words.items
        came x (inl (k, y, within, is, same)) =
            came_first x.words.items y same (subst (λ z. HasOne old z.words.items ⊎ A z.words.items) is (first.only k y within))
        came x (inr b) = inr (from_b x.words.items b)

        stand : (words : List ℕ) → A words ⊎ B words → StandsOrIsBeaten worths new words
        stand words (inl a) = second.kept words (first.all words a)
        stand words (inr b) = second.all words b

  module _ (A B : List ℕ → Type 0) where
    -- the same words, said otherwise
    pub offered_as : (old new : List Guess) → AreOffered worths view A old new → ((words : List ℕ) → A words → B words)
        → ((words : List ℕ) → B words → A words) → AreOffered worths view B old new
    offered_as old new are to from = record {
      ranked = are.ranked;
      only = λ k d within. go (get_or new k d).words.items (are.only k d within);
      kept = are.kept;
      all = λ words is. are.all words (from words is);
    }
      where
        go : (words : List ℕ) → HasOne old words ⊎ A words → HasOne old words ⊎ B words
        go words (inl one) = inl one
        go words (inr a) = inr (to words a)

  module _ (A : List ℕ → Type 0) where
    -- a ranking that was empty at first
    pub ranks_all : (guesses : List Guess) → AreOffered worths view A [] guesses → RanksAll worths view A guesses
    ranks_all guesses are = record {
      ranked = are.ranked;
      only = λ k d within. go (get_or guesses k d).words.items (are.only k d within);
      all = are.all;
    }
      where
        go : (words : List ℕ) → HasOne [] words ⊎ A words → A words
        go words (inl (k, x, within, is, same)) = absurd (omega (arith, within))
        go words (inr a) = a
