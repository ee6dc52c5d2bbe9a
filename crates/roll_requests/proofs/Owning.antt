-- The slots of a job's states are its own.
use Rattle.std.proofs.Common.{◌≡◌, ◌≢◌, ℕ, List, [], ◌∷◌, refl, ap, sym, subst, ◌∙◌, inl, inr, eqb, Bool, true, false, Some, None}
use Rattle.std.specs.Prelude.{◌&&◌, ◌⊎◌, All, not}
use Rattle.std.proofs.lemmas.Bool.{cases_eq, false≢true}
use Rattle.std.proofs.lemmas.List.Elements.{All-cons, All-head, All-nil, All-tail}
use Rattle.slab.specs.Slab.{Slab, get, Updates}
use Rattle.roll_session.specs.Gameless.{KeepsAll, KeepsBranch, KeepsGiven}
use Rattle.roll_session.specs.Saves.{Standing}
use Rattle.roll_tree.specs.SavedStates.{Saved}
use Rattle.roll_requests.specs.Slotted.{is_taken, AreFree, AreOwn, AreTaken, Guessed, IsOutside, IsTaken}
use Rattle.roll_requests.proofs.Carrying.{other, own}
use Rattle.roll_requests.proofs.Holding.{apart, pass_all, pass_branch, pass_given}

-- whether a slot is none of those
abbrev is_outside : List ℕ → ℕ → Bool
is_outside [] slot = true
is_outside (x ∷ xs) slot = not (eqb x slot) && is_outside xs slot

told : (slots : List ℕ) (slot : ℕ) → IsOutside slots slot → is_outside slots slot ≡ true
told [] slot h = refl
told (x ∷ xs) slot h =
    let first : eqb x slot ≡ false = other x slot (All-head (λ o. o ≢ slot) x xs h) in
    let rest : is_outside xs slot ≡ true = told xs slot (All-tail (λ o. o ≢ slot) x xs h) in
    rw (first, rest) refl

meant : (slots : List ℕ) (slot : ℕ) → is_outside slots slot ≡ true → IsOutside slots slot
meant [] slot e = All-nil (λ o. o ≢ slot)
meant (x ∷ xs) slot e = go (eqb x slot) refl (meant xs slot) e
  where
    go : (b : Bool) → eqb x slot ≡ b → (is_outside xs slot ≡ true → IsOutside xs slot) → (not b && is_outside xs slot) ≡ true → IsOutside (x ∷ xs) slot
    go true is rest e = absurd (false≢true e)
    go false is rest e = All-cons (λ o. o ≢ slot) x xs (λ same. false≢true (sym is ∙ ap (λ k. eqb k slot) same ∙ own slot)) (rest e)

-- free slots are none of those that are taken
pub outside_free : (limit : ℕ) (taken : List Bool) (free slots : List ℕ) → AreFree limit taken free → All (IsTaken taken) slots → All (IsOutside slots) free
outside_free limit taken free slots f t = λ i d few. λ k e less. λ same. false≢true (sym (f.free i d few) ∙ ap (is_taken taken) (sym same) ∙ t k e less)

-- a job that goes leaves the others
pub jobs_left : (old new : Slab Guessed) (key : ℕ) → Updates old new key None → (n : ℕ) (job : Guessed) → get new n ≡ Some job → get old n ≡ Some job
jobs_left old new key u n job there = go (cases_eq n key)
  where
    go : (n ≡ key) ⊎ (n ≢ key) → get old n ≡ Some job
    go (inl same) = let never : None ≡ Some job = sym u.changed ∙ ap (get new) (sym same) ∙ there in absurd cc
    go (inr other) = sym (u.others n other) ∙ there

pub own_left : (states : List (Saved ℕ)) (old new : Slab Guessed) (key : ℕ) → Updates old new key None → AreOwn states old → AreOwn states new
own_left states old new key u o =
    record {
      saved = λ n job there. o.saved n job (jobs_left old new key u n job there);
      others = λ n m job other ne there here. o.others n m job other ne (jobs_left old new key u n job there) (jobs_left old new key u m other here);
    }

-- states are kept, or come in
pub own_all : (old new : Standing ℕ) (jobs : Slab Guessed) → KeepsAll old new → AreOwn old.tree.states jobs → AreOwn new.tree.states jobs
own_all old new jobs keeps o =
    record {
      saved = λ n job there. λ k d few. meant job.slots _ (pass_all old new keeps (is_outside job.slots) (λ i e less. told job.slots _ (o.saved n job there i e less)) k d few);
      others = o.others;
    }

pub own_given : (old new : Standing ℕ) (from : ℕ) (states : List ℕ) → KeepsGiven old new from states → (jobs : Slab Guessed) (limit : ℕ) (held : List Bool) → AreTaken old.tree.states jobs held → AreFree limit held states → AreOwn old.tree.states jobs → AreOwn new.tree.states jobs
own_given old new from states keeps jobs limit held t free o =
    record {
      saved = λ n job there. λ k d few.
          let new_ones = outside_free limit held states job.slots free (t.out n job there).slots in
          meant job.slots _ (pass_given old new from states keeps (is_outside job.slots) (λ i e less. told job.slots _ (o.saved n job there i e less)) (λ i e less. told job.slots _ (new_ones i e less)) k d few);
      others = o.others;
    }

pub own_branch : (old new : Standing ℕ) (jobs left : Slab Guessed) (key : ℕ) (job : Guessed) → KeepsBranch old new job.route job.slots → get jobs key ≡ Some job → Updates jobs left key None → AreOwn old.tree.states jobs → AreOwn new.tree.states left
own_branch old new jobs left key job keeps here u o =
    record {
      saved = λ n out is. λ k d few.
          let was : get jobs n ≡ Some out = jobs_left jobs left key u n out is in
          let ne : n ≢ key = λ same. let never : None ≡ Some out = sym u.changed ∙ ap (get left) (sym same) ∙ is in absurd cc in
          let theirs = o.others n key out job ne was here in
          meant out.slots _ (pass_branch old new job keeps (is_outside out.slots) (λ i e less. told out.slots _ (o.saved n out was i e less)) (λ i e less. told out.slots _ (theirs i e less)) k d few);
      others = (own_left old.tree.states jobs left key u o).others;
    }

-- one job more, whose slots were free
pub own_more : (states : List (Saved ℕ)) (old new : Slab Guessed) (n limit : ℕ) (job : Guessed) (taken : List Bool) → AreTaken states old taken → AreFree limit taken job.slots → Updates old new n (Some job) → AreOwn states old → AreOwn states new
own_more states old new n limit job taken t free u o =
    record {
      saved = λ m out there. saved_by m out (which m out there);
      others = λ m k one two ne there here. others_by m k one two ne (which m one there) (which k two here);
    }
  where
    Which : ℕ → Guessed → Type 0
    Which m out = ((m ≡ n) × (job ≡ out)) ⊎ (get old m ≡ Some out)

    which : (m : ℕ) (out : Guessed) → get new m ≡ Some out → Which m out
    which m out there = go (cases_eq m n)
      where
        go : (m ≡ n) ⊎ (m ≢ n) → Which m out
        go (inl same) =
            let both : Some job ≡ Some out = sym u.changed ∙ ap (get new) (sym same) ∙ there in
            inl (same, cc)
        go (inr other) = inr (sym (u.others m other) ∙ there)

    saved_by : (m : ℕ) (out : Guessed) → Which m out → All (λ u. IsOutside out.slots u.snapshot) states
    saved_by m out (inl w) = subst (λ (j : Guessed). All (λ u. IsOutside j.slots u.snapshot) states) w.1 (λ k d few. apart limit taken job.slots free _ (t.saved k d few))
    saved_by m out (inr was) = o.saved m out was

    others_by : (m k : ℕ) (one two : Guessed) → m ≢ k → Which m one → Which k two → All (IsOutside one.slots) two.slots
    others_by m k one two ne (inl a) (inl b) = absurd (ne (a.0 ∙ sym b.0))
    others_by m k one two ne (inl a) (inr b) = subst (λ (j : Guessed). All (IsOutside j.slots) two.slots) a.1 (λ i d few. apart limit taken job.slots free _ ((t.out k two b).slots i d few))
    others_by m k one two ne (inr a) (inl b) = subst (λ (j : Guessed). All (IsOutside one.slots) j.slots) b.1 (outside_free limit taken job.slots one.slots free (t.out m one a).slots)
    others_by m k one two ne (inr a) (inr b) = o.others m k one two ne a b
