-- A ranking with one guess more, and with fewer.
use Rattle.std.proofs.Common.{◌≡◌, ◌≢◌, ℕ, ◌+◌, ◌-◌, ◌<◌, ◌≤◌, ◌⊎◌, inl, inr, List, ◌∷◌, length, take, drop, get_or, min, sym, ◌∙◌, ap, subst, arith}
use Rattle.std.specs.Prelude.{insert}
use Rattle.std.proofs.lemmas.Bool.{cases_lt}
use Rattle.std.proofs.lemmas.List.{get_or-take, length-take}
use Rattle.std.proofs.lemmas.List.Edits.{get_or-insert_at, get_or-insert_below, get_or-insert_above, length-insert}
use Rattle.std.proofs.lemmas.List.Elements.{All-append, All-cons, All-drop, All-take}
use Rattle.roll_guess.specs.Guesses.{AreUnlike, HasNone, IsFalling, IsPlace, IsRanking, Suits}
use Rattle.roll_guess.specs.declared.ranking.Guess.{Guess}
use Rattle.roll_guess.specs.declared.ranking.View.{View}

-- all before a place are worth as much or more, and all from there on no more
pub record Parts (guesses : List Guess) (worth place : ℕ) : Type 0 where
  pub within : place ≤ length guesses
  pub before : (k : ℕ) (d : Guess) → k < place → worth ≤ (get_or guesses k d).worth
  pub behind : (k : ℕ) (d : Guess) → place ≤ k → k < length guesses → (get_or guesses k d).worth ≤ worth

pub parts_at : (guesses : List Guess) (worth place : ℕ) → IsFalling guesses → IsPlace guesses worth place → Parts guesses worth place
parts_at guesses worth place falling at = record {
  within = at.within;
  before = at.before;
  behind = λ k d from to. behind k d from to (cases_lt place k);
}
  where
    behind : (k : ℕ) (d : Guess) → place ≤ k → k < length guesses → (place < k) ⊎ (k ≤ place) → (get_or guesses k d).worth ≤ worth
    behind k d from to (inl later) = let first = at.behind d (omega (arith, later, to)) in let falls = falling place k d later to in omega (arith, first, falls)
    behind k d from to (inr same) =
        let e : k ≡ place = omega (arith, from, same) in
        let first = at.behind d (subst (λ n. n < length guesses) e to) in
        subst (λ n. (get_or guesses n d).worth ≤ worth) (sym e) (omega (arith, first))

-- where an element of a list with one more stood before
data Was (guesses : List Guess) (place : ℕ) (guess : Guess) (k : ℕ) (d : Guess) : Type 0 where
  below : k < place → get_or (insert guesses place guess) k d ≡ get_or guesses k d → Was guesses place guess k d
  here : k ≡ place → get_or (insert guesses place guess) k d ≡ guess → Was guesses place guess k d
  above : (j : ℕ) → k ≡ j + 1 → place ≤ j → get_or (insert guesses place guess) k d ≡ get_or guesses j d → Was guesses place guess k d

was : (guesses : List Guess) (place : ℕ) (guess : Guess) (k : ℕ) (d : Guess) → place ≤ length guesses → Was guesses place guess k d
was guesses place guess k d within = go (cases_lt k place) (cases_lt place k)
  where
    go : (k < place) ⊎ (place ≤ k) → (place < k) ⊎ (k ≤ place) → Was guesses place guess k d
    go (inl low) _ = below low (get_or-insert_below guesses place guess d k low within)
    go (inr high) (inl later) =
        let e : k ≡ (k - 1) + 1 = omega (arith, later) in
        above (k - 1) e (omega (arith, later)) (subst (λ n. get_or (insert guesses place guess) n d ≡ get_or guesses (k - 1) d) (sym e) (get_or-insert_above guesses place guess d (k - 1) (omega (arith, later)) within))
    go (inr high) (inr same) =
        let e : k ≡ place = omega (arith, high, same) in
        here e (subst (λ n. get_or (insert guesses place guess) n d ≡ guess) (sym e) (get_or-insert_at guesses place guess d within))

module _ (guesses : List Guess) (place : ℕ) (guess : Guess) (parts : Parts guesses guess.worth place) where
  falls : IsFalling guesses → IsFalling (insert guesses place guess)
  falls falling i j d before to = go (was guesses place guess i d parts.within) (was guesses place guess j d parts.within)
    where
      few : j < length guesses + 1
      few = subst (λ n. j < n) (length-insert guesses place guess parts.within) to

      worths : (x y x' y' : Guess) → x ≡ x' → y ≡ y' → y'.worth ≤ x'.worth → y.worth ≤ x.worth
      worths x y x' y' ex ey h = subst (λ z. y.worth ≤ z.worth) (sym ex) (subst (λ z. z.worth ≤ x'.worth) (sym ey) h)

      go : Was guesses place guess i d → Was guesses place guess j d
          → (get_or (insert guesses place guess) j d).worth ≤ (get_or (insert guesses place guess) i d).worth
      go (below a ea) (below b eb) = worths _ _ _ _ ea eb (falling i j d before (omega (arith, b, parts.within)))
      go (below a ea) (here b eb) = worths _ _ _ _ ea eb (parts.before i d a)
      go (below a ea) (above m e b eb) = worths _ _ _ _ ea eb (falling i m d (omega (arith, a, b)) (omega (arith, few, e)))
      go (here a ea) (below b eb) = omega (arith, before, a, b)
      go (here a ea) (here b eb) = omega (arith, before, a, b)
      go (here a ea) (above m e b eb) = worths _ _ _ _ ea eb (parts.behind m d b (omega (arith, few, e)))
      go (above n f a ea) (below b eb) = omega (arith, before, a, b, f)
      go (above n f a ea) (here b eb) = omega (arith, before, a, b, f)
      go (above n f a ea) (above m e b eb) = worths _ _ _ _ ea eb (falling n m d (omega (arith, before, e, f)) (omega (arith, few, e)))

  differ : AreUnlike guesses → HasNone guesses guess.words.items → AreUnlike (insert guesses place guess)
  differ unlike none i j d before to = go (was guesses place guess i d parts.within) (was guesses place guess j d parts.within)
    where
      few : j < length guesses + 1
      few = subst (λ n. j < n) (length-insert guesses place guess parts.within) to

      words : (x y x' y' : Guess) → x ≡ x' → y ≡ y' → x'.words.items ≢ y'.words.items → x.words.items ≢ y.words.items
      words x y x' y' ex ey h same = h (ap (λ z. z.words.items) (sym ex) ∙ same ∙ ap (λ z. z.words.items) ey)

      go : Was guesses place guess i d → Was guesses place guess j d
          → (get_or (insert guesses place guess) i d).words.items ≢ (get_or (insert guesses place guess) j d).words.items
      go (below a ea) (below b eb) = words _ _ _ _ ea eb (unlike i j d before (omega (arith, b, parts.within)))
      go (below a ea) (here b eb) = words _ _ _ _ ea eb (none i d (omega (arith, a, parts.within)))
      go (below a ea) (above m e b eb) = words _ _ _ _ ea eb (unlike i m d (omega (arith, a, b)) (omega (arith, few, e)))
      go (here a ea) (below b eb) = absurd (omega (arith, before, a, b))
      go (here a ea) (here b eb) = absurd (omega (arith, before, a, b))
      go (here a ea) (above m e b eb) = words _ _ _ _ ea eb (λ same. none m d (omega (arith, few, e)) (sym same))
      go (above n f a ea) (below b eb) = absurd (omega (arith, before, a, b, f))
      go (above n f a ea) (here b eb) = absurd (omega (arith, before, a, b, f))
      go (above n f a ea) (above m e b eb) = words _ _ _ _ ea eb (unlike n m d (omega (arith, before, e, f)) (omega (arith, few, e)))

-- a place in the first elements is one of them, and one in the list
below_taken : {X : Type 0} (n : ℕ) (xs : List X) (j : ℕ) → j < length (take n xs) → (j < n) × (j < length xs)
below_taken n xs j to = let h : j < min n (length xs) = subst (λ m. j < m) (length-take n xs) to in (omega (arith, h), omega (arith, h))

module _ (worths : List ℕ → ℕ) (view : View) where
  pub ranking_inserted : (guesses : List Guess) (place : ℕ) (guess : Guess) → IsRanking worths view guesses → Suits worths view guess
      → Parts guesses guess.worth place → HasNone guesses guess.words.items → IsRanking worths view (insert guesses place guess)
  ranking_inserted guesses place guess ranked suits parts none = record {
    suits = All-append (Suits worths view) (take place guesses) (guess ∷ drop place guesses) (All-take (Suits worths view) place guesses ranked.suits)
        (All-cons (Suits worths view) guess (drop place guesses) suits (All-drop (Suits worths view) place guesses ranked.suits));
    falling = falls guesses place guess parts ranked.falling;
    unlike = differ guesses place guess parts ranked.unlike none;
  }

  pub ranking_taken : (n : ℕ) (guesses : List Guess) → IsRanking worths view guesses → IsRanking worths view (take n guesses)
  ranking_taken n guesses ranked = record {
    suits = All-take (Suits worths view) n guesses ranked.suits;
    falling = λ i j d before to. let low = below_taken n guesses j to in
        subst (λ x. x.worth ≤ (get_or (take n guesses) i d).worth) (sym (get_or-take n guesses j d low.0))
        (subst (λ x. (get_or guesses j d).worth ≤ x.worth) (sym (get_or-take n guesses i d (omega (arith, before, low.0))))
        (ranked.falling i j d before low.1));
    unlike = λ i j d before to same. let low = below_taken n guesses j to in
        ranked.unlike i j d before low.1
        (ap (λ x. x.words.items) (sym (get_or-take n guesses i d (omega (arith, before, low.0)))) ∙ same ∙ ap (λ x. x.words.items) (get_or-take n guesses j d low.0));
  }

  -- a guess in its place among the first ones
  pub offered : (n place : ℕ) (guesses : List Guess) (guess : Guess) → place ≤ n → IsRanking worths view guesses → Suits worths view guess
      → IsPlace guesses guess.worth place → HasNone guesses guess.words.items → IsRanking worths view (insert (take n guesses) place guess)
  offered n place guesses guess within ranked suits at none =
      let parts = parts_at guesses guess.worth place ranked.falling at in
      ranking_inserted (take n guesses) place guess (ranking_taken n guesses ranked) suits
      (record {
        within = subst (λ m. place ≤ m) (sym (length-take n guesses)) (omega (arith, within, parts.within));
        before = λ k d low. subst (λ x. guess.worth ≤ x.worth) (sym (get_or-take n guesses k d (omega (arith, low, within)))) (parts.before k d low);
        behind = λ k d from to. let low = below_taken n guesses k to in
            subst (λ x. x.worth ≤ guess.worth) (sym (get_or-take n guesses k d low.0)) (parts.behind k d from low.1);
      })
      (λ k d to same. let low = below_taken n guesses k to in
      none k d low.1 (ap (λ x. x.words.items) (sym (get_or-take n guesses k d low.0)) ∙ same))
