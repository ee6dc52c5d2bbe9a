-- What is asked for is nothing to the jobs that are out.
use Rattle.std.proofs.Common.{◌≡◌, ◌≢◌, ℕ, zero, suc, ◌≤◌, List, [], ◌∷◌, ◌++◌, length, get_or, refl, ap, sym, ◌∙◌, arith, Bool, true, false}
use Rattle.std.specs.Prelude.{◌&&◌, ◌==◌, All, not, if◌then◌else◌}
use Rattle.std.proofs.lemmas.Bool.{false≢true}
use Rattle.std.proofs.lemmas.List.Elements.{All-append, All-cons, All-nil}
use Rattle.roll_frame.specs.declared.row.Cell.{Cell}
use Rattle.roll_requests.specs.Requests.{frees, job_requests, reaching, roll_requests, runs, IsApart, IsBegun}
use Rattle.roll_requests.specs.Slotted.{is_taken, is_unheld, AreFree, Guessed, IsHeld, IsOutside}
use Rattle.roll_requests.specs.declared.request.Request.{Request}
use Rattle.roll_requests.specs.declared.request.Request.TheVariants.{Load, Save, Advance, Free, LoadAside, SaveAside, AdvanceAside}

pub begun_append : (xs ys : List Request) → IsBegun xs → IsBegun ys → IsBegun (xs ++ ys)
begun_append [] ys a b = b
begun_append (Load slot ∷ xs) ys a b = begun_append xs ys a b
begun_append (Save slot ∷ xs) ys a b = begun_append xs ys a b
begun_append (Advance row ∷ xs) ys a b = begun_append xs ys a b
begun_append (Free slot ∷ xs) ys a b = begun_append xs ys a b
begun_append (LoadAside slot ∷ xs) ys a b = tt
begun_append (SaveAside slot ∷ xs) ys a b = absurd a
begun_append (AdvanceAside row ∷ xs) ys a b = absurd a

reaching_begun : (at slot : ℕ) → IsBegun (reaching at slot)
reaching_begun at slot = go (at == slot)
  where
    go : (b : Bool) → IsBegun (if b then [] else Load slot ∷ [])
    go true = tt
    go false = tt

frees_begun : (is_freed : ℕ → Bool) (n : ℕ) → IsBegun (frees is_freed n)
frees_begun is_freed zero = tt
frees_begun is_freed (suc n) = begun_append (frees is_freed n) (if is_freed n then Free n ∷ [] else []) (frees_begun is_freed n) (go (is_freed n))
  where
    go : (b : Bool) → IsBegun (if b then Free n ∷ [] else [])
    go true = tt
    go false = tt

runs_begun : (row : ℕ → List Cell) (slots : List ℕ) (n : ℕ) → IsBegun (runs Advance Save row slots n)
runs_begun row slots zero = tt
runs_begun row slots (suc n) = begun_append (runs Advance Save row slots n) (Advance (row n) ∷ Save (get_or slots n 0) ∷ []) (runs_begun row slots n) tt

pub roll_begun : (at start : ℕ) (taken held : List Bool) (row : ℕ → List Cell) (slots : List ℕ) → IsBegun (roll_requests at start taken held row slots)
roll_begun at start taken held row slots =
    let gone : ℕ → Bool = is_unheld taken held in
    begun_append (reaching at start ++ frees gone (length taken)) (runs Advance Save row slots (length slots))
    (begun_append (reaching at start) (frees gone (length taken)) (reaching_begun at start) (frees_begun gone (length taken)))
    (runs_begun row slots (length slots))

module _ (job : Guessed) (held : List Bool) (h : IsHeld held job) where
  -- a slot that isn't taken is none that the job holds
  start_apart : (slot : ℕ) → is_taken held slot ≡ false → job.start ≢ slot
  start_apart slot free = λ same. false≢true (sym free ∙ ap (is_taken held) (sym same) ∙ h.start)

  slots_apart : (slot : ℕ) → is_taken held slot ≡ false → IsOutside job.slots slot
  slots_apart slot free = λ k d few. λ same. false≢true (sym free ∙ ap (is_taken held) (sym same) ∙ h.slots k d few)

  save_apart : (slot : ℕ) → is_taken held slot ≡ false → IsApart job (Save slot)
  save_apart slot free = record { start = start_apart slot free; slots = slots_apart slot free }

  save_aside_apart : (slot : ℕ) → is_taken held slot ≡ false → IsApart job (SaveAside slot)
  save_aside_apart slot free = record { start = start_apart slot free; slots = slots_apart slot free }

  free_apart : (slot : ℕ) → is_taken held slot ≡ false → IsApart job (Free slot)
  free_apart slot free = record { start = start_apart slot free; slots = slots_apart slot free }

  advance_apart : (row : List Cell) → IsApart job (Advance row)
  advance_apart row = record { start = tt; slots = λ k d few. tt }

  advance_aside_apart : (row : List Cell) → IsApart job (AdvanceAside row)
  advance_aside_apart row = record { start = tt; slots = λ k d few. tt }

  load_apart : (slot : ℕ) → IsOutside job.slots slot → IsApart job (Load slot)
  load_apart slot off = record { start = tt; slots = off }

  load_aside_apart : (slot : ℕ) → IsOutside job.slots slot → IsApart job (LoadAside slot)
  load_aside_apart slot off = record { start = tt; slots = off }

  reaching_apart : (at slot : ℕ) → IsOutside job.slots slot → All (IsApart job) (reaching at slot)
  reaching_apart at slot off = go (at == slot)
    where
      go : (b : Bool) → All (IsApart job) (if b then [] else Load slot ∷ [])
      go true = All-nil (IsApart job)
      go false = All-cons (IsApart job) (Load slot) [] (load_apart slot off) (All-nil (IsApart job))

  unheld : (taken : List Bool) (slot : ℕ) → is_unheld taken held slot ≡ true → is_taken held slot ≡ false
  unheld taken slot e = go (is_taken taken slot) (is_taken held slot) e
    where
      go : (a b : Bool) → (a && not b) ≡ true → b ≡ false
      go a false e = refl
      go true true e = absurd (false≢true e)
      go false true e = absurd (false≢true e)

  frees_apart : (taken : List Bool) (n : ℕ) → All (IsApart job) (frees (is_unheld taken held) n)
  frees_apart taken zero = All-nil (IsApart job)
  frees_apart taken (suc n) =
      All-append (IsApart job) (frees (is_unheld taken held) n) (if is_unheld taken held n then Free n ∷ [] else []) (frees_apart taken n) (go (is_unheld taken held n) refl)
    where
      go : (b : Bool) → is_unheld taken held n ≡ b → All (IsApart job) (if b then Free n ∷ [] else [])
      go true e = All-cons (IsApart job) (Free n) [] (free_apart n (unheld taken n e)) (All-nil (IsApart job))
      go false e = All-nil (IsApart job)

  runs_apart : (advance : List Cell → Request) (save : ℕ → Request) → ((row : List Cell) → IsApart job (advance row)) → ((slot : ℕ) → is_taken held slot ≡ false → IsApart job (save slot))
      → (row : ℕ → List Cell) (slots : List ℕ) → All (λ slot. is_taken held slot ≡ false) slots → (n : ℕ) → n ≤ length slots → All (IsApart job) (runs advance save row slots n)
  runs_apart advance save goes saves row slots free zero few = All-nil (IsApart job)
  runs_apart advance save goes saves row slots free (suc n) few =
      All-append (IsApart job) (runs advance save row slots n) (advance (row n) ∷ save (get_or slots n 0) ∷ []) (runs_apart advance save goes saves row slots free n (omega (arith, few)))
      (All-cons (IsApart job) (advance (row n)) (save (get_or slots n 0) ∷ []) (goes (row n))
      (All-cons (IsApart job) (save (get_or slots n 0)) [] (saves (get_or slots n 0) (free n 0 (omega (arith, few)))) (All-nil (IsApart job))))

  pub roll_apart : (limit at start : ℕ) (taken : List Bool) (row : ℕ → List Cell) (slots : List ℕ) → IsOutside job.slots start → AreFree limit held slots → All (IsApart job) (roll_requests at start taken held row slots)
  roll_apart limit at start taken row slots off free =
      let gone : ℕ → Bool = is_unheld taken held in
      All-append (IsApart job) (reaching at start ++ frees gone (length taken)) (runs Advance Save row slots (length slots))
      (All-append (IsApart job) (reaching at start) (frees gone (length taken)) (reaching_apart at start off) (frees_apart taken (length taken)))
      (runs_apart (λ r. Advance r) (λ s. Save s) advance_apart save_apart row slots free.free (length slots) (omega arith))

  pub job_apart : (limit start : ℕ) (row : ℕ → List Cell) (slots : List ℕ) → IsOutside job.slots start → AreFree limit held slots → All (IsApart job) (job_requests start row slots)
  job_apart limit start row slots off free =
      All-cons (IsApart job) (LoadAside start) (runs AdvanceAside SaveAside row slots (length slots)) (load_aside_apart start off)
      (runs_apart (λ r. AdvanceAside r) (λ s. SaveAside s) advance_aside_apart save_aside_apart row slots free.free (length slots) (omega arith))
