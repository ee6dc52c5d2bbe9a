-- What the requests of a roll and of a job come to.
use Rattle.std.proofs.Common.{◌≡◌, ℕ, zero, suc, ◌+◌, ◌<◌, ◌≤◌, List, [], ◌∷◌, ◌++◌, length, get_or, refl, sym, arith, Bool, true, false, cond, append-nil, Some}
use Rattle.std.specs.Prelude.{◌==◌, All, count_by, if◌then◌else◌}
use Rattle.std.proofs.lemmas.List.Elements.{All-append, All-cons, All-nil}
use Rattle.std.proofs.lemmas.List.Sums.{sum_by-append}
use Rattle.slab.specs.Slab.{Slab, get}
use Rattle.roll_frame.specs.declared.row.Cell.{Cell}
use Rattle.roll_requests.specs.Requests.{frees, is_load, is_save, is_save_aside, is_step, is_step_aside, job_requests, reaching, roll_requests, runs, Adds, IsApart, IsBelow}
use Rattle.roll_requests.specs.Slotted.{is_unheld, Guessed}
use Rattle.roll_requests.specs.declared.request.Request.{Request}
use Rattle.roll_requests.specs.declared.request.Request.TheVariants.{Load, Save, Advance, Free, LoadAside, SaveAside, AdvanceAside}
use Rattle.roll_requests.proofs.Apart.{roll_begun}

-- so many frames are run, and so many aside, and states are saved below the limit
record Comes (limit loads run aside : ℕ) (requests : List Request) : Type 0 where
  below : All (IsBelow limit) requests
  run_is : count_by is_step requests ≡ run
  aside_is : count_by is_step_aside requests ≡ aside
  saves_are : count_by is_save requests ≡ run
  saves_aside_are : count_by is_save_aside requests ≡ aside
  loads_are : count_by is_load requests ≡ loads

count_both : (p : Request → Bool) (xs ys : List Request) → count_by p (xs ++ ys) ≡ count_by p xs + count_by p ys
count_both p xs ys = sum_by-append (λ x. cond (p x) 1 0) xs ys

both : (limit a b c l m n : ℕ) (xs ys : List Request) → Comes limit a b c xs → Comes limit l m n ys → Comes limit (a + l) (b + m) (c + n) (xs ++ ys)
both limit a b c l m n xs ys x y =
    record {
      below = All-append (IsBelow limit) xs ys x.below y.below;
      run_is = omega (arith, count_both is_step xs ys, x.run_is, y.run_is);
      aside_is = omega (arith, count_both is_step_aside xs ys, x.aside_is, y.aside_is);
      saves_are = omega (arith, count_both is_save xs ys, x.saves_are, y.saves_are);
      saves_aside_are = omega (arith, count_both is_save_aside xs ys, x.saves_aside_are, y.saves_aside_are);
      loads_are = omega (arith, count_both is_load xs ys, x.loads_are, y.loads_are);
    }

none : (limit : ℕ) → Comes limit 0 0 0 []
none limit = record { below = All-nil (IsBelow limit); run_is = refl; aside_is = refl; saves_are = refl; saves_aside_are = refl; loads_are = refl }

reaching_comes : (limit at slot : ℕ) → Comes limit (if at == slot then 0 else 1) 0 0 (reaching at slot)
reaching_comes limit at slot = go (at == slot)
  where
    go : (b : Bool) → Comes limit (if b then 0 else 1) 0 0 (if b then [] else Load slot ∷ [])
    go true = none limit
    go false = record { below = All-cons (IsBelow limit) (Load slot) [] tt (All-nil (IsBelow limit)); run_is = refl; aside_is = refl; saves_are = refl; saves_aside_are = refl; loads_are = refl }

frees_come : (limit : ℕ) (is_freed : ℕ → Bool) (n : ℕ) → Comes limit 0 0 0 (frees is_freed n)
frees_come limit is_freed zero = none limit
frees_come limit is_freed (suc n) = both limit 0 0 0 0 0 0 (frees is_freed n) (if is_freed n then Free n ∷ [] else []) (frees_come limit is_freed n) (go (is_freed n))
  where
    go : (b : Bool) → Comes limit 0 0 0 (if b then Free n ∷ [] else [])
    go true = record { below = All-cons (IsBelow limit) (Free n) [] tt (All-nil (IsBelow limit)); run_is = refl; aside_is = refl; saves_are = refl; saves_aside_are = refl; loads_are = refl }
    go false = none limit

runs_come : (limit : ℕ) (row : ℕ → List Cell) (slots : List ℕ) → All (λ slot. slot < limit) slots → (n : ℕ) → n ≤ length slots → Comes limit 0 n 0 (runs (λ r. Advance r) (λ s. Save s) row slots n)
runs_come limit row slots low zero few = none limit
runs_come limit row slots low (suc n) few =
    let before = runs_come limit row slots low n (omega (arith, few)) in
    let slot : ℕ = get_or slots n 0 in
    let all = both limit 0 n 0 0 1 0 (runs (λ r. Advance r) (λ s. Save s) row slots n) (Advance (row n) ∷ Save slot ∷ []) before
    (record { below = All-cons (IsBelow limit) (Advance (row n)) (Save slot ∷ []) tt (All-cons (IsBelow limit) (Save slot) [] (low n 0 (omega (arith, few))) (All-nil (IsBelow limit))); run_is = refl; aside_is = refl; saves_are = refl; saves_aside_are = refl; loads_are = refl }) in
    record { below = all.below; run_is = omega (arith, all.run_is); aside_is = all.aside_is; saves_are = omega (arith, all.saves_are); saves_aside_are = all.saves_aside_are; loads_are = all.loads_are }

aside_come : (limit : ℕ) (row : ℕ → List Cell) (slots : List ℕ) → All (λ slot. slot < limit) slots → (n : ℕ) → n ≤ length slots → Comes limit 0 0 n (runs (λ r. AdvanceAside r) (λ s. SaveAside s) row slots n)
aside_come limit row slots low zero few = none limit
aside_come limit row slots low (suc n) few =
    let before = aside_come limit row slots low n (omega (arith, few)) in
    let slot : ℕ = get_or slots n 0 in
    let all = both limit 0 0 n 0 0 1 (runs (λ r. AdvanceAside r) (λ s. SaveAside s) row slots n) (AdvanceAside (row n) ∷ SaveAside slot ∷ []) before
    (record { below = All-cons (IsBelow limit) (AdvanceAside (row n)) (SaveAside slot ∷ []) tt (All-cons (IsBelow limit) (SaveAside slot) [] (low n 0 (omega (arith, few))) (All-nil (IsBelow limit))); run_is = refl; aside_is = refl; saves_are = refl; saves_aside_are = refl; loads_are = refl }) in
    record { below = all.below; run_is = all.run_is; aside_is = omega (arith, all.aside_is); saves_are = all.saves_are; saves_aside_are = omega (arith, all.saves_aside_are); loads_are = all.loads_are }

pub roll_adds : (limit at start : ℕ) (taken held : List Bool) (row : ℕ → List Cell) (slots : List ℕ) (count : ℕ) (jobs : Slab Guessed) (old new : List Request) → All (λ slot. slot < limit) slots → length slots ≡ count → ((n : ℕ) (job : Guessed) → get jobs n ≡ Some job → All (IsApart job) (roll_requests at start taken held row slots)) → new ≡ old ++ roll_requests at start taken held row slots
    → (adds : Adds limit count 0 jobs old new) × (count_by is_load adds.more ≡ (if at == start then 0 else 1))
roll_adds limit at start taken held row slots count jobs old new low many apart list =
    let gone : ℕ → Bool = is_unheld taken held in
    let a = both limit (if at == start then 0 else 1) 0 0 0 0 0 (reaching at start) (frees gone (length taken)) (reaching_comes limit at start) (frees_come limit gone (length taken)) in
    let b = both limit ((if at == start then 0 else 1) + 0) 0 0 0 (length slots) 0 (reaching at start ++ frees gone (length taken)) (runs (λ r. Advance r) (λ s. Save s) row slots (length slots)) a (runs_come limit row slots low (length slots) (omega arith)) in
    (record { more = roll_requests at start taken held row slots; list_is = list; below = b.below; run_is = omega (arith, b.run_is, many); aside_is = b.aside_is; saves_are = omega (arith, b.saves_are, many); saves_aside_are = b.saves_aside_are; begun = roll_begun at start taken held row slots; apart = apart }, omega (arith, b.loads_are))

pub job_adds : (limit start : ℕ) (row : ℕ → List Cell) (slots : List ℕ) (count : ℕ) (jobs : Slab Guessed) (old new : List Request) → All (λ slot. slot < limit) slots → length slots ≡ count → ((n : ℕ) (job : Guessed) → get jobs n ≡ Some job → All (IsApart job) (job_requests start row slots)) → new ≡ old ++ job_requests start row slots
    → Adds limit 0 count jobs old new
job_adds limit start row slots count jobs old new low many apart list =
    let made : List Request = runs (λ r. AdvanceAside r) (λ s. SaveAside s) row slots (length slots) in
    let a : Comes limit 0 0 0 (LoadAside start ∷ []) = record { below = All-cons (IsBelow limit) (LoadAside start) [] tt (All-nil (IsBelow limit)); run_is = refl; aside_is = refl; saves_are = refl; saves_aside_are = refl; loads_are = refl } in
    let b = both limit 0 0 0 0 0 (length slots) (LoadAside start ∷ []) made a (aside_come limit row slots low (length slots) (omega arith)) in
    record { more = job_requests start row slots; list_is = list; below = b.below; run_is = b.run_is; aside_is = omega (arith, b.aside_is, many); saves_are = b.saves_are; saves_aside_are = omega (arith, b.saves_aside_are, many); begun = tt; apart = apart }

pub nothing_added : (limit : ℕ) (jobs : Slab Guessed) (requests : List Request) → Adds limit 0 0 jobs requests requests
nothing_added limit jobs requests =
    record { more = []; list_is = sym (append-nil requests); below = All-nil (IsBelow limit); run_is = refl; aside_is = refl; saves_are = refl; saves_aside_are = refl; begun = tt; apart = λ n job there. All-nil (IsApart job) }
