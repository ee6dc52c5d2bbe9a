-- A job that is carried out late comes to the same.
use Rattle.std.proofs.Common.{◌≡◌, ◌≢◌, ℕ, zero, suc, ◌<◌, ◌≤◌, List, [], ◌∷◌, length, get_or, refl, ap, sym, subst, ◌∙◌, arith, inl, inr, eqb, Bool, true, false, Option, Some, None, unwrap_or}
use Rattle.std.specs.Prelude.{◌⊎◌, All, IsSome}
use Rattle.std.proofs.lemmas.Bool.{cases_eq, cases_lt, false≢true}
use Rattle.std.proofs.lemmas.List.{get_or_default}
use Rattle.std.proofs.lemmas.List.Elements.{All-cons, All-head, All-nil, All-tail}
use Rattle.roll_frame.specs.declared.row.Cell.{Cell}
use Rattle.roll_frame.specs.Games.{Value}
use Rattle.roll_session.specs.Seen.{Step}
use Rattle.roll_requests.specs.Carried.{Elsewhere, carried, carried_all, stored}
use Rattle.roll_requests.specs.Late.{AreAlike, MayWait}
use Rattle.roll_requests.specs.Requests.{requests_of, runs, IsApart, IsBegun, IsOff, Leaves}
use Rattle.roll_requests.specs.Slotted.{Guessed, IsOutside}
use Rattle.roll_requests.specs.declared.request.Request.{Request}
use Rattle.roll_requests.specs.declared.request.Request.TheVariants.{Load, Save, Advance, Free, LoadAside, SaveAside, AdvanceAside}
use Rattle.roll_requests.proofs.Carrying.{carried_append, other, own}

off_leaves : (slot : ℕ) (request : Request) → IsOff slot request → Leaves slot request
off_leaves slot (Load k) h = tt
off_leaves slot (Save k) h = h
off_leaves slot (Advance row) h = tt
off_leaves slot (Free k) h = h
off_leaves slot (LoadAside k) h = tt
off_leaves slot (SaveAside k) h = h
off_leaves slot (AdvanceAside row) h = tt

stored_other : (k slot : ℕ) (state : Option Value) (slots : ℕ → Option Value) → slot ≢ k → stored k state slots slot ≡ slots slot
stored_other k slot state slots n = let apart : eqb slot k ≡ false = other slot k n in rw apart refl

-- what no request puts anything else into has what it had
one_stays : (step : Step) (slot : ℕ) (request : Request) (there : Elsewhere Value) → Leaves slot request → (carried step request there).slots slot ≡ there.slots slot
one_stays step slot (Load k) there h = refl
one_stays step slot (Save k) there h = stored_other k slot (Some there.current) there.slots h
one_stays step slot (Advance row) there h = refl
one_stays step slot (Free k) there h = stored_other k slot None there.slots h
one_stays step slot (LoadAside k) there h = refl
one_stays step slot (SaveAside k) there h = stored_other k slot (Some there.aside) there.slots h
one_stays step slot (AdvanceAside row) there h = refl

stays : (step : Step) (slot : ℕ) (requests : List Request) (there : Elsewhere Value) → All (Leaves slot) requests → (carried_all step requests there).slots slot ≡ there.slots slot
stays step slot [] there all = refl
stays step slot (r ∷ rs) there all =
    stays step slot rs (carried step r there) (All-tail (Leaves slot) r rs all) ∙ one_stays step slot r there (All-head (Leaves slot) r rs all)

-- two places that differ in some slots alone
record AreBeside (slots : List ℕ) (a b : Elsewhere Value) : Type 0 where
  current : a.current ≡ b.current
  others : (slot : ℕ) → IsOutside slots slot → a.slots slot ≡ b.slots slot

loaded_same : (o p : Option Value) (a b : Value) → o ≡ p → a ≡ b → unwrap_or o a ≡ unwrap_or p b
loaded_same o p a b e f = rw (e, f) refl

pub stored_same : (k slot : ℕ) (s t : Option Value) (a b : ℕ → Option Value) → s ≡ t → a slot ≡ b slot → stored k s a slot ≡ stored k t b slot
stored_same k slot s t a b e f = go (eqb slot k) refl
  where
    go : (c : Bool) → eqb slot k ≡ c → stored k s a slot ≡ stored k t b slot
    go true is = rw is e
    go false is = rw is f

module _ (step : Step) (job : Guessed) where
  abbrev Loaded : List Request → Elsewhere Value → Elsewhere Value → Type 0
  Loaded requests a b = IsBegun requests ⊎ (a.aside ≡ b.aside)

  aside_of : (a b : Elsewhere Value) → ⊥ ⊎ (a.aside ≡ b.aside) → a.aside ≡ b.aside
  aside_of a b (inl never) = absurd never
  aside_of a b (inr e) = e

  beside : (requests : List Request) (a b : Elsewhere Value) → All (IsApart job) requests → Loaded requests a b → AreBeside job.slots a b → AreBeside job.slots (carried_all step requests a) (carried_all step requests b)
  beside [] a b all w x = x
  beside (Load k ∷ rs) a b all w x =
      let off : IsOutside job.slots k = (All-head (IsApart job) (Load k) rs all).slots in
      beside rs (carried step (Load k) a) (carried step (Load k) b) (All-tail (IsApart job) (Load k) rs all) w
      (record { current = loaded_same (a.slots k) (b.slots k) a.current b.current (x.others k off) x.current; others = x.others })
  beside (Save k ∷ rs) a b all w x =
      beside rs (carried step (Save k) a) (carried step (Save k) b) (All-tail (IsApart job) (Save k) rs all) w
      (record { current = x.current; others = λ slot out. stored_same k slot (Some a.current) (Some b.current) a.slots b.slots (ap Some x.current) (x.others slot out) })
  beside (Advance row ∷ rs) a b all w x =
      beside rs (carried step (Advance row) a) (carried step (Advance row) b) (All-tail (IsApart job) (Advance row) rs all) w
      (record { current = ap (λ v. step v row) x.current; others = x.others })
  beside (Free k ∷ rs) a b all w x =
      beside rs (carried step (Free k) a) (carried step (Free k) b) (All-tail (IsApart job) (Free k) rs all) w
      (record { current = x.current; others = λ slot out. stored_same k slot None None a.slots b.slots refl (x.others slot out) })
  beside (LoadAside k ∷ rs) a b all w x =
      let off : IsOutside job.slots k = (All-head (IsApart job) (LoadAside k) rs all).slots in
      beside rs (carried step (LoadAside k) a) (carried step (LoadAside k) b) (All-tail (IsApart job) (LoadAside k) rs all)
      (inr (loaded_same (a.slots k) (b.slots k) a.current b.current (x.others k off) x.current))
      (record { current = x.current; others = x.others })
  beside (SaveAside k ∷ rs) a b all w x =
      let e : a.aside ≡ b.aside = aside_of a b w in
      beside rs (carried step (SaveAside k) a) (carried step (SaveAside k) b) (All-tail (IsApart job) (SaveAside k) rs all) (inr e)
      (record { current = x.current; others = λ slot out. stored_same k slot (Some a.aside) (Some b.aside) a.slots b.slots (ap Some e) (x.others slot out) })
  beside (AdvanceAside row ∷ rs) a b all w x =
      let e : a.aside ≡ b.aside = aside_of a b w in
      beside rs (carried step (AdvanceAside row) a) (carried step (AdvanceAside row) b) (All-tail (IsApart job) (AdvanceAside row) rs all) (inr (ap (λ v. step v row) e))
      (record { current = x.current; others = x.others })

module _ (step : Step) (row : ℕ → List Cell) (slots : List ℕ) where
  aside_run : ℕ → Elsewhere Value → Elsewhere Value
  aside_run n there = carried_all step (runs AdvanceAside SaveAside row slots n) there

  one_more : (n : ℕ) (there : Elsewhere Value) → aside_run (suc n) there ≡ carried step (SaveAside (get_or slots n 0)) (carried step (AdvanceAside (row n)) (aside_run n there))
  unfolding aside_run
  one_more n there = carried_append step (runs AdvanceAside SaveAside row slots n) (AdvanceAside (row n) ∷ SaveAside (get_or slots n 0) ∷ []) there

  -- what is run aside leaves the current state, and all other slots
  run_leaves : (n : ℕ) (there : Elsewhere Value) → n ≤ length slots → AreBeside slots (aside_run n there) there
  unfolding aside_run
  run_leaves zero there few = record { current = refl; others = λ slot out. refl }
  run_leaves (suc n) there few =
      let before = run_leaves n there (omega (arith, few)) in
      rw (one_more n there)
      (record {
        current = before.current;
        others = λ slot out. stored_other (get_or slots n 0) slot (Some (carried step (AdvanceAside (row n)) (aside_run n there)).aside) (aside_run n there).slots (λ same. out n 0 (omega (arith, few)) (sym same)) ∙ before.others slot out;
      })

  -- and comes to the same from the same
  record RunsSame (n : ℕ) (a b : Elsewhere Value) : Type 0 where
    aside : a.aside ≡ b.aside
    made : (k d : ℕ) → k < n → a.slots (get_or slots k d) ≡ b.slots (get_or slots k d)

  runs_same : (n : ℕ) (a b : Elsewhere Value) → n ≤ length slots → a.aside ≡ b.aside → RunsSame n (aside_run n a) (aside_run n b)
  unfolding aside_run
  runs_same zero a b few e = record { aside = e; made = λ k d less. absurd (omega (arith, less)) }
  runs_same (suc n) a b few e =
      let before = runs_same n a b (omega (arith, few)) e in
      let now = ap (λ v. step v (row n)) before.aside in
      rw (one_more n a, one_more n b)
      (record { aside = now; made = λ k d less. go k d less now before (cases_lt k n) })
    where
      A : Elsewhere Value
      A = carried step (AdvanceAside (row n)) (aside_run n a)

      B : Elsewhere Value
      B = carried step (AdvanceAside (row n)) (aside_run n b)

      go : (k d : ℕ) → k < suc n → A.aside ≡ B.aside → RunsSame n (aside_run n a) (aside_run n b) → (k < n) ⊎ (n ≤ k) → (carried step (SaveAside (get_or slots n 0)) A).slots (get_or slots k d) ≡ (carried step (SaveAside (get_or slots n 0)) B).slots (get_or slots k d)
      go k d less now before (inl low) = stored_same (get_or slots n 0) (get_or slots k d) (Some A.aside) (Some B.aside) A.slots B.slots (ap Some now) (before.made k d low)
      go k d less now before (inr high) =
          let same : k ≡ n = omega (arith, less, high) in
          let at_slot : get_or slots k d ≡ get_or slots n 0 = ap (λ m. get_or slots m d) same ∙ get_or_default slots n d 0 (omega (arith, few)) in
          rw (at_slot, own (get_or slots n 0)) (ap Some now)

-- a slot is one of some, or none of them
abbrev Place : List ℕ → ℕ → Type 0
Place slots slot = IsOutside slots slot ⊎ ((k : ℕ) × (k < length slots) × (get_or slots k 0 ≡ slot))

place_of : (slots : List ℕ) (slot : ℕ) → Place slots slot
place_of [] slot = inl (All-nil (λ o. o ≢ slot))
place_of (x ∷ xs) slot = go (cases_eq x slot) (place_of xs slot)
  where
    go : (x ≡ slot) ⊎ (x ≢ slot) → Place xs slot → Place (x ∷ xs) slot
    go (inl same) rest = inr (zero, omega arith, same)
    go (inr ne) (inl out) = inl (All-cons (λ o. o ≢ slot) x xs ne out)
    go (inr ne) (inr (k, few, is)) = inr (suc k, omega (arith, few), is)

loaded_there : (o p : Option Value) (a b : Value) → IsSome o → p ≡ o → unwrap_or p a ≡ unwrap_or o b
loaded_there None p a b some e = absurd (false≢true some)
loaded_there (Some v) p a b some e = rw e refl

module _ (step : Step) (there : Elsewhere Value) (job : Guessed) (requests : List Request) (filled : IsSome (there.slots job.start)) (begun : IsBegun requests) (all : All (IsApart job) requests) where
  row_of : ℕ → List Cell
  row_of k = get_or job.route.rows.items k []

  -- what the job makes of a place
  ran : Elsewhere Value → Elsewhere Value
  ran place = carried_all step (requests_of job) place

  between : Elsewhere Value
  between = carried_all step requests there

  -- it leaves all but its own slots
  ran_leaves : (place : Elsewhere Value) → AreBeside job.slots (ran place) place
  unfolding ran aside_run row_of
  ran_leaves place =
      let left = run_leaves step row_of job.slots (length job.slots) (carried step (LoadAside job.start) place) (omega arith) in
      record { current = left.current; others = left.others }

  start_stays : between.slots job.start ≡ there.slots job.start
  unfolding between
  start_stays = stays step job.start requests there (λ k d few. (all k d few).start)

  -- its own come to the same, before or after
  ran_same : (k d : ℕ) → k < length job.slots → (ran there).slots (get_or job.slots k d) ≡ (ran between).slots (get_or job.slots k d)
  unfolding ran aside_run row_of
  ran_same =
      (runs_same step row_of job.slots (length job.slots) (carried step (LoadAside job.start) there) (carried step (LoadAside job.start) between) (omega arith)
      (sym (loaded_there (there.slots job.start) (between.slots job.start) between.current there.current filled start_stays))).made

  apart_in : (k : ℕ) → k < length job.slots → All (Leaves (get_or job.slots k 0)) requests
  apart_in k few = λ i d less. off_leaves (get_or job.slots k 0) (get_or requests i d) ((all i d less).slots k 0 few)

  soon_is : AreBeside job.slots (carried_all step requests (ran there)) between
  unfolding between
  soon_is = beside step job requests (ran there) there all (inl begun) (ran_leaves there)

  alike : AreAlike (carried_all step requests (ran there)) (ran between)
  alike = record {
    current = soon_is.current ∙ sym (ran_leaves between).current;
    slots = λ slot. go slot (place_of job.slots slot);
  }
    where
      go : (slot : ℕ) → Place job.slots slot → (carried_all step requests (ran there)).slots slot ≡ (ran between).slots slot
      go slot (inl out) = soon_is.others slot out ∙ sym ((ran_leaves between).others slot out)
      go slot (inr (k, few, is)) =
          subst (λ s. (carried_all step requests (ran there)).slots s ≡ (ran between).slots s) is
          (stays step (get_or job.slots k 0) requests (ran there) (apart_in k few) ∙ ran_same k 0 few)

pub may_wait : (step : Step) (there : Elsewhere Value) (job : Guessed) (requests : List Request) → MayWait step there job requests
unfolding ran between
may_wait step there job requests filled begun all =
    rw (carried_append step (requests_of job) requests there, carried_append step requests (requests_of job) there)
    (alike step there job requests filled begun all)
