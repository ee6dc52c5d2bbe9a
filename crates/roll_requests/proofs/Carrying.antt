-- What carrying out requests makes of the states elsewhere, a few requests at a time.
use Rattle.std.proofs.Common.{◌≡◌, ◌≢◌, ℕ, zero, suc, ◌+◌, ◌<◌, ◌≤◌, List, [], ◌∷◌, ◌++◌, length, get_or, take, refl, ap, sym, ◌∙◌, arith, Bool, true, false, eqb, inl, inr, Option, Some, unwrap_or, append_assoc, append-nil}
use Rattle.std.specs.Prelude.{◌⊎◌, ◌==◌, All, if◌then◌else◌}
use Rattle.std.proofs.lemmas.Bool.{cases_lt, false_from_ne_true, false≢true}
use Rattle.std.proofs.lemmas.Bool.Decides.{nat_tests}
use Rattle.std.proofs.lemmas.List.{get_or_default, take_more}
use Rattle.std.proofs.lemmas.List.Sums.{fold_push}
use Rattle.roll_frame.specs.declared.row.Cell.{Cell}
use Rattle.roll_frame.specs.Cells.{Rows}
use Rattle.roll_frame.specs.Paths.{run}
use Rattle.roll_frame.specs.Timeline.{Player, row_at, timeline}
use Rattle.roll_requests.specs.Carried.{Elsewhere, carried, carried_all, stored}
use Rattle.roll_requests.specs.Requests.{frees, reaching, runs}
use Rattle.roll_requests.specs.declared.request.Request.{Request}
use Rattle.roll_requests.specs.declared.request.Request.TheVariants.{Load, Save, Advance, Free, SaveAside, AdvanceAside}

pub carried_append : {V : Type 0} (step : V → List Cell → V) (xs ys : List Request) (there : Elsewhere V) → carried_all step (xs ++ ys) there ≡ carried_all step ys (carried_all step xs there)
carried_append step [] ys there = refl
carried_append step (x ∷ xs) ys there = carried_append step xs ys (carried step x there)

pub other : (k slot : ℕ) → k ≢ slot → eqb k slot ≡ false
other k slot n = false_from_ne_true (eqb k slot) (λ e. n (grind (arith, nat_tests, e)))

pub own : (k : ℕ) → eqb k k ≡ true
own k = grind (arith, nat_tests)

module _ {V : Type 0} (step : V → List Cell → V) where
  -- the state of a slot is made current
  pub record IsReached (there : Elsewhere V) (value : V) (new : Elsewhere V) : Type 0 where
    pub current : new.current ≡ value
    pub slots : (k : ℕ) → new.slots k ≡ there.slots k

  some_same : (a b : V) → Some a ≡ Some b → a ≡ b
  some_same a b e = cc e

  pub reached : (at slot : ℕ) (value : V) (there : Elsewhere V) → there.slots at ≡ Some there.current → there.slots slot ≡ Some value → IsReached there value (carried_all step (reaching at slot) there)
  reached at slot value there at_is here = go (at == slot) refl
    where
      go : (b : Bool) → (at == slot) ≡ b → IsReached there value (carried_all step (if b then [] else Load slot ∷ []) there)
      go true e =
          let same : at ≡ slot = grind (arith, nat_tests, e) in
          record { current = some_same there.current value (sym at_is ∙ ap there.slots same ∙ here); slots = λ k. refl }
      go false e = record { current = ap (λ (o : Option V). unwrap_or o there.current) here; slots = λ k. refl }

  -- slots are freed: the current state stays, and what is in the others
  pub record IsFreed (is_freed : ℕ → Bool) (there new : Elsewhere V) : Type 0 where
    pub current : new.current ≡ there.current
    pub slots : (k : ℕ) → is_freed k ≡ false → new.slots k ≡ there.slots k

  free_one : (is_freed : ℕ → Bool) (n : ℕ) (there : Elsewhere V) (b : Bool) → is_freed n ≡ b → IsFreed is_freed there (carried_all step (if b then Free n ∷ [] else []) there)
  free_one is_freed n there true e =
      record {
        current = refl;
        slots = λ k h.
            let apart : eqb k n ≡ false = other k n (λ same. false≢true (sym h ∙ ap is_freed same ∙ e)) in
            rw apart refl;
      }
  free_one is_freed n there false e = record { current = refl; slots = λ k h. refl }

  pub freed : (is_freed : ℕ → Bool) (n : ℕ) (there : Elsewhere V) → IsFreed is_freed there (carried_all step (frees is_freed n) there)
  freed is_freed zero there = record { current = refl; slots = λ k h. refl }
  freed is_freed (suc n) there =
      let before = freed is_freed n there in
      let mid : Elsewhere V = carried_all step (frees is_freed n) there in
      let last = free_one is_freed n mid (is_freed n) refl in
      rw (carried_append step (frees is_freed n) (if is_freed n then Free n ∷ [] else []) there)
      (record { current = last.current ∙ before.current; slots = λ k h. last.slots k h ∙ before.slots k h })

-- the first n of some rows
abbrev pub first_rows : (ℕ → List Cell) → ℕ → Rows
first_rows row zero = []
first_rows row (suc n) = first_rows row n ++ row n ∷ []

-- frames are run, and the state after each is in its slot
pub record IsRun {V : Type 0} (step : V → List Cell → V) (row : ℕ → List Cell) (slots : List ℕ) (n : ℕ) (there new : Elsewhere V) : Type 0 where
  pub current : new.current ≡ run step there.current (first_rows row n)
  pub made : (i d : ℕ) → i < n → new.slots (get_or slots i d) ≡ Some (run step there.current (first_rows row (i + 1)))
  pub others : (k : ℕ) → All (λ slot. slot ≢ k) slots → new.slots k ≡ there.slots k

module _ {V : Type 0} (step : V → List Cell → V) (row : ℕ → List Cell) (slots : List ℕ) (rising : (i k d : ℕ) → i < k → k < length slots → get_or slots i d < get_or slots k d) where
  run_more : (n : ℕ) (from : V) → run step from (first_rows row (suc n)) ≡ step (run step from (first_rows row n)) (row n)
  run_more n from = fold_push step from (first_rows row n) (row n)

  one_more : (n : ℕ) (there E : Elsewhere V) → n < length slots → IsRun step row slots n there E
      → IsRun step row slots (suc n) there (carried step (Save (get_or slots n 0)) (carried step (Advance (row n)) E))
  one_more n there E few m =
      let slot : ℕ = get_or slots n 0 in
      let led : step E.current (row n) ≡ run step there.current (first_rows row (suc n)) = ap (λ v. step v (row n)) m.current ∙ sym (run_more n there.current) in
      record {
        current = led;
        made = λ i d less. go i d less led (cases_lt i n);
        others = λ k h.
            let apart : eqb k slot ≡ false = other k slot (λ same. h n 0 few (sym same)) in
            rw apart (m.others k h);
      }
    where
      go : (i d : ℕ) → i < suc n → step E.current (row n) ≡ run step there.current (first_rows row (suc n)) → (i < n) ⊎ (n ≤ i)
          → stored (get_or slots n 0) (Some (step E.current (row n))) E.slots (get_or slots i d) ≡ Some (run step there.current (first_rows row (i + 1)))
      go i d less led (inl before) =
          let lower : get_or slots i d < get_or slots n d = rising i n d before few in
          let same : get_or slots n d ≡ get_or slots n 0 = get_or_default slots n d 0 few in
          let apart : eqb (get_or slots i d) (get_or slots n 0) ≡ false = other (get_or slots i d) (get_or slots n 0) (λ e. omega (arith, lower, same, e)) in
          rw apart (m.made i d before)
      go i d less led (inr past) =
          let same : i ≡ n = omega (arith, less, past) in
          let at_slot : get_or slots i d ≡ get_or slots n 0 = ap (λ k. get_or slots k d) same ∙ get_or_default slots n d 0 few in
          let place : suc n ≡ i + 1 = omega (arith, same) in
          let rows : first_rows row (suc n) ≡ first_rows row (i + 1) = ap (first_rows row) place in
          rw (at_slot, own (get_or slots n 0)) (ap Some (led ∙ ap (run step there.current) rows))

  pub ran : (n : ℕ) (there : Elsewhere V) → n ≤ length slots → IsRun step row slots n there (carried_all step (runs Advance Save row slots n) there)
  ran zero there few = record { current = refl; made = λ i d less. absurd (omega (arith, less)); others = λ k h. refl }
  ran (suc n) there few =
      rw (carried_append step (runs Advance Save row slots n) (Advance (row n) ∷ Save (get_or slots n 0) ∷ []) there)
      (one_more n there (carried_all step (runs Advance Save row slots n) there) (omega (arith, few)) (ran n there (omega (arith, few))))

-- what is run aside is run as the current state is, each in the other's place
abbrev swapped : {V : Type 0} → Elsewhere V → Elsewhere V
swapped there = record { current = there.aside; aside = there.current; slots = there.slots }

aside_same : {V : Type 0} (step : V → List Cell → V) (row : ℕ → List Cell) (slots : List ℕ) (n : ℕ) (there : Elsewhere V) → carried_all step (runs AdvanceAside SaveAside row slots n) there ≡ swapped (carried_all step (runs Advance Save row slots n) (swapped there))
aside_same step row slots zero there = refl
aside_same step row slots (suc n) there =
    carried_append step (runs AdvanceAside SaveAside row slots n) (AdvanceAside (row n) ∷ SaveAside (get_or slots n 0) ∷ []) there
    ∙ ap (λ (E : Elsewhere _). carried step (SaveAside (get_or slots n 0)) (carried step (AdvanceAside (row n)) E)) (aside_same step row slots n there)
    ∙ ap swapped (sym (carried_append step (runs Advance Save row slots n) (Advance (row n) ∷ Save (get_or slots n 0) ∷ []) (swapped there)))

-- the current state stays while others are run aside
pub record IsRunAside {V : Type 0} (step : V → List Cell → V) (row : ℕ → List Cell) (slots : List ℕ) (n : ℕ) (there new : Elsewhere V) : Type 0 where
  pub current : new.current ≡ there.current
  pub made : (i d : ℕ) → i < n → new.slots (get_or slots i d) ≡ Some (run step there.aside (first_rows row (i + 1)))
  pub others : (k : ℕ) → All (λ slot. slot ≢ k) slots → new.slots k ≡ there.slots k

aside_stays : {V : Type 0} (step : V → List Cell → V) (row : ℕ → List Cell) (slots : List ℕ) (n : ℕ) (there : Elsewhere V) → (carried_all step (runs Advance Save row slots n) there).aside ≡ there.aside
aside_stays step row slots zero there = refl
aside_stays step row slots (suc n) there =
    ap (λ (E : Elsewhere _). E.aside) (carried_append step (runs Advance Save row slots n) (Advance (row n) ∷ Save (get_or slots n 0) ∷ []) there) ∙ aside_stays step row slots n there

pub ran_aside : {V : Type 0} (step : V → List Cell → V) (row : ℕ → List Cell) (slots : List ℕ) → ((i k d : ℕ) → i < k → k < length slots → get_or slots i d < get_or slots k d) → (n : ℕ) (there : Elsewhere V) → n ≤ length slots
    → IsRunAside step row slots n there (carried_all step (runs AdvanceAside SaveAside row slots n) there)
ran_aside step row slots rising n there few =
    let m = ran step row slots rising n (swapped there) few in
    rw (aside_same step row slots n there)
    (record { current = aside_stays step row slots n (swapped there); made = m.made; others = m.others })

-- the timeline's rows from a frame on
pub time_more : (players : List Player) (from n : ℕ) → timeline players from ++ first_rows (λ k. row_at players (from + k)) n ≡ timeline players (from + n)
time_more players from zero =
    let place : from ≡ from + 0 = omega arith in
    append-nil (timeline players from) ∙ ap (timeline players) place
time_more players from (suc n) =
    let place : suc (from + n) ≡ from + suc n = omega arith in
    sym (append_assoc (timeline players from) (first_rows (λ k. row_at players (from + k)) n) (row_at players (from + n) ∷ []))
    ∙ ap (λ (rows : Rows). rows ++ row_at players (from + n) ∷ []) (time_more players from n)
    ∙ ap (timeline players) place

-- rows by their places
pub rows_more : (rows : Rows) (n : ℕ) → n ≤ length rows → first_rows (λ k. get_or rows k []) n ≡ take n rows
rows_more rows zero few = refl
rows_more rows (suc n) few =
    let place : n + 1 ≡ suc n = omega arith in
    ap (λ (front : Rows). front ++ get_or rows n [] ∷ []) (rows_more rows n (omega (arith, few)))
    ∙ sym (take_more rows n [] (omega (arith, few))) ∙ ap (λ k. take k rows) place

-- one frame more is asked for
pub runs_more : (advance : List Cell → Request) (save : ℕ → Request) (row : ℕ → List Cell) (slots : List ℕ) (k n : ℕ) (r : List Cell) (s : ℕ) (old mid one two : List Request) → mid ≡ old ++ runs advance save row slots k → one ≡ mid ++ advance r ∷ [] → two ≡ one ++ save s ∷ [] → r ≡ row k → s ≡ get_or slots k 0 → n ≡ k + 1
    → two ≡ old ++ runs advance save row slots n
runs_more advance save row slots k n r s old mid one two are a b is_row is_slot next =
    let place : k + 1 ≡ suc k = omega arith in
    let both : two ≡ mid ++ advance r ∷ save s ∷ [] = b ∙ ap (λ (l : List Request). l ++ save s ∷ []) a ∙ append_assoc mid (advance r ∷ []) (save s ∷ []) in
    both
    ∙ ap (λ (l : List Request). l ++ advance r ∷ save s ∷ []) are
    ∙ append_assoc old (runs advance save row slots k) (advance r ∷ save s ∷ [])
    ∙ ap (λ v. old ++ (runs advance save row slots k ++ advance v ∷ save s ∷ [])) is_row
    ∙ ap (λ v. old ++ (runs advance save row slots k ++ advance (row k) ∷ save v ∷ [])) is_slot
    ∙ ap (λ m. old ++ runs advance save row slots m) (sym (next ∙ place))
