-- Which slots have a state, as requests are carried out.
use Rattle.std.proofs.Common.{◌≡◌, ◌≢◌, ℕ, zero, suc, ◌<◌, List, [], ◌∷◌, ◌++◌, length, get_or, refl, ap, sym, ◌∙◌, arith, Bool, true, false, eqb, inl, inr, Option, None, is_some}
use Rattle.std.specs.Prelude.{◌⊎◌, ◌&&◌, ◌||◌, ◌==◌, All, not, if◌then◌else◌}
use Rattle.std.proofs.lemmas.Bool.{cases_Bool, cases_eq, eq-eqb, eqb-true, false≢true, or_cases}
use Rattle.std.proofs.lemmas.List.Folds.{list_any_at}
use Rattle.roll_frame.specs.declared.row.Cell.{Cell}
use Rattle.roll_requests.specs.Carried.{Elsewhere, carried, carried_all, first}
use Rattle.roll_requests.specs.Requests.{frees, job_requests, reaching, roll_requests, runs}
use Rattle.roll_requests.specs.Slotted.{is_among, is_taken, is_unheld, IsTaken}
use Rattle.roll_requests.specs.declared.request.Request.{Request}
use Rattle.roll_requests.specs.declared.request.Request.TheVariants.{Load, Save, Advance, Free, LoadAside, SaveAside, AdvanceAside}
use Rattle.roll_requests.proofs.Carrying.{carried_append, freed, other, own, ran, ran_aside}
use Rattle.roll_requests.proofs.Filling.{or_false, or_true, taken_within}

-- the place of one among some slots
place_of : (slots : List ℕ) (k : ℕ) → is_among slots k ≡ true → (i : ℕ) × (i < length slots) × (get_or slots i 0 ≡ k)
place_of [] k e = absurd (false≢true e)
place_of (x ∷ xs) k e = elim (or_cases (x == k) (is_among xs k) e) [
  | inl here ↦ (0, omega arith, eqb-true x k here)
  | inr later ↦ let rest = place_of xs k later in (suc rest.0, omega (arith, rest.1), rest.2)
]

none_among : (slots : List ℕ) (k : ℕ) → is_among slots k ≡ false → All (λ slot. slot ≢ k) slots
none_among slots k e = λ i d few. λ same. false≢true (sym e ∙ list_any_at (λ slot. slot == k) slots i d few (eq-eqb (get_or slots i d) k same))

-- some slots more have a state
more_some : {V : Type 0} (slots : List ℕ) (before : ℕ → Bool) (old new : ℕ → Option V) → ((k : ℕ) → is_some (old k) ≡ before k) → ((i d : ℕ) → i < length slots → is_some (new (get_or slots i d)) ≡ true) → ((k : ℕ) → All (λ slot. slot ≢ k) slots → new k ≡ old k)
    → (k : ℕ) → is_some (new k) ≡ (before k || is_among slots k)
more_some slots before old new was made others k = go (cases_Bool (is_among slots k))
  where
    go : (is_among slots k ≡ true) ⊎ (is_among slots k ≡ false) → is_some (new k) ≡ (before k || is_among slots k)
    go (inl e) =
        let at = place_of slots k e in
        ap (λ slot. is_some (new slot)) (sym at.2) ∙ made at.0 0 at.1 ∙ or_true (before k) ∙ ap (λ b. before k || b) (sym e)
    go (inr e) = ap is_some (others k (none_among slots k e)) ∙ was k ∙ or_false (before k) ∙ ap (λ b. before k || b) (sym e)

module _ {V : Type 0} (step : V → List Cell → V) where
  reach_leaves : (at slot k : ℕ) (there : Elsewhere V) → (carried_all step (reaching at slot) there).slots k ≡ there.slots k
  reach_leaves at slot k there = go (at == slot)
    where
      go : (b : Bool) → (carried_all step (if b then [] else Load slot ∷ []) there).slots k ≡ there.slots k
      go true = refl
      go false = refl

  empty_one : (n k : ℕ) (there : Elsewhere V) (b : Bool) → ((k ≡ n) × (b ≡ true)) ⊎ (there.slots k ≡ None) → (carried_all step (if b then Free n ∷ [] else []) there).slots k ≡ None
  empty_one n k there true (inl at) = rw (at.0, own n) refl
  empty_one n k there false (inl at) = absurd (false≢true at.1)
  empty_one n k there false (inr none) = none
  empty_one n k there true (inr none) = go (eqb k n)
    where
      go : (b : Bool) → (if b then None else there.slots k) ≡ None
      go true = refl
      go false = none

  -- a slot that is freed has none
  pub emptied : (is_freed : ℕ → Bool) (n k : ℕ) (there : Elsewhere V) → k < n → is_freed k ≡ true → (carried_all step (frees is_freed n) there).slots k ≡ None
  emptied is_freed zero k there few e = absurd (omega (arith, few))
  emptied is_freed (suc n) k there few e =
      let mid : Elsewhere V = carried_all step (frees is_freed n) there in
      let before : (k ≢ n) → mid.slots k ≡ None = λ apart. emptied is_freed n k there (omega (arith, few, apart)) e in
      ap (λ (E : Elsewhere V). E.slots k) (carried_append step (frees is_freed n) (if is_freed n then Free n ∷ [] else []) there)
      ∙ empty_one n k mid (is_freed n)
      (elim (cases_eq k n) [
        | inl same ↦ inl (same, ap is_freed (sym same) ∙ e)
        | inr apart ↦ inr (before apart)
      ])

  -- once what nothing holds is freed, just what is held has a state
  just_held : (taken held : List Bool) (there : Elsewhere V) → ((k : ℕ) → is_some (there.slots k) ≡ is_taken taken k) → ((k : ℕ) → IsTaken held k → IsTaken taken k) → (k : ℕ) → is_some ((carried_all step (frees (is_unheld taken held) (length taken)) there).slots k) ≡ is_taken held k
  just_held taken held there was within k = go (is_taken held k) (is_taken taken k) refl refl
    where
      new : Elsewhere V
      new = carried_all step (frees (is_unheld taken held) (length taken)) there

      stays : is_unheld taken held k ≡ false → is_some (new.slots k) ≡ is_taken taken k
      stays e = ap is_some ((freed step (is_unheld taken held) (length taken) there).slots k e) ∙ was k

      told : (t h : Bool) → is_taken taken k ≡ t → is_taken held k ≡ h → is_unheld taken held k ≡ (t && not h)
      told t h a b = ap (λ x. x && not (is_taken held k)) a ∙ ap (λ x. t && not x) b

      go : (h t : Bool) → is_taken held k ≡ h → is_taken taken k ≡ t → is_some (new.slots k) ≡ is_taken held k
      go true t is_held is = stays (told true true (within k is_held) is_held) ∙ within k is_held ∙ sym is_held
      go false true is_held is = ap is_some (emptied (is_unheld taken held) (length taken) k there (taken_within taken k is) (told true false is is_held)) ∙ sym is_held
      go false false is_held is = stays (told false false is is_held) ∙ is ∙ sym is_held

  -- after the requests of a roll
  pub roll_some : (at start : ℕ) (taken held : List Bool) (row : ℕ → List Cell) (slots : List ℕ) (there : Elsewhere V) → ((i k d : ℕ) → i < k → k < length slots → get_or slots i d < get_or slots k d) → ((k : ℕ) → is_some (there.slots k) ≡ is_taken taken k) → ((k : ℕ) → IsTaken held k → IsTaken taken k)
      → (k : ℕ) → is_some ((carried_all step (roll_requests at start taken held row slots) there).slots k) ≡ (is_taken held k || is_among slots k)
  roll_some at start taken held row slots there rising was within k =
      let loads : List Request = reaching at start in
      let goes : List Request = frees (is_unheld taken held) (length taken) in
      let made : List Request = runs Advance Save row slots (length slots) in
      let one : Elsewhere V = carried_all step loads there in
      let two : Elsewhere V = carried_all step goes one in
      let r = ran step row slots rising (length slots) two (omega arith) in
      ap (λ (E : Elsewhere V). is_some (E.slots k)) (carried_append step (loads ++ goes) made there ∙ ap (carried_all step made) (carried_append step loads goes there))
      ∙ more_some slots (is_taken held) two.slots (carried_all step made two).slots
      (just_held taken held one (λ j. ap is_some (reach_leaves at start j there) ∙ was j) within)
      (λ i d few. ap is_some (r.made i d few)) r.others k

  -- and of a job
  pub job_some : (start : ℕ) (row : ℕ → List Cell) (slots : List ℕ) (taken : List Bool) (there : Elsewhere V) → ((i k d : ℕ) → i < k → k < length slots → get_or slots i d < get_or slots k d) → ((k : ℕ) → is_some (there.slots k) ≡ is_taken taken k)
      → (k : ℕ) → is_some ((carried_all step (job_requests start row slots) there).slots k) ≡ (is_taken taken k || is_among slots k)
  job_some start row slots taken there rising was k =
      let one : Elsewhere V = carried step (LoadAside start) there in
      let r = ran_aside step row slots rising (length slots) one (omega arith) in
      more_some slots (is_taken taken) there.slots (carried_all step (runs AdvanceAside SaveAside row slots (length slots)) one).slots was (λ i d few. ap is_some (r.made i d few)) r.others k

-- at first the opening's slot alone has one
pub first_some : {V : Type 0} (opening : V) (k : ℕ) → is_some ((first opening).slots k) ≡ is_taken (true ∷ []) k
first_some opening zero = refl
first_some opening (suc k) = rw (other (suc k) zero (λ e. omega (arith, e))) refl
