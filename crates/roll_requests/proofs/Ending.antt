-- Where the requests of an end lead.
use Rattle.std.proofs.Common.{◌≡◌, ℕ, zero, suc, ◌+◌, ◌-◌, ◌≤◌, List, [], ◌∷◌, ◌++◌, length, refl, ap, sym, subst, ◌∙◌, arith, Bool, true, false, Option, Some, None, is_some, append_assoc, append-nil}
use Rattle.std.specs.Prelude.{◌==◌, is_err, OnOk, Result, Ok, Err}
use Rattle.std.proofs.lemmas.Bool.{false≢true}
use Rattle.std.proofs.lemmas.List.Sums.{fold-append, fold_push}
use Rattle.roll_frame.specs.declared.row.Cell.{Cell}
use Rattle.roll_frame.specs.Cells.{Rows}
use Rattle.roll_frame.specs.Core.{settled}
use Rattle.roll_frame.specs.Games.{Value}
use Rattle.roll_frame.specs.Paths.{run}
use Rattle.roll_frame.specs.Timeline.{Player, row_at, timeline}
use Rattle.roll_inputs.specs.Boards.{Inputs}
use Rattle.roll_session.specs.Held.{inputs_of}
use Rattle.roll_session.specs.Seen.{Step}
use Rattle.roll_session.proofs.Rolling.{all_held, some_is}
use Rattle.roll_tree.specs.SavedStates.{Saved, state_named}
use Rattle.roll_requests.specs.Asked.{Asked, IsSettledSlot, Leads}
use Rattle.roll_requests.specs.Carried.{Elsewhere, carried_all, carried_out, first}
use Rattle.roll_requests.specs.Ended.{open_row, IsOpenedAt}
use Rattle.roll_requests.specs.Late.{AreAlike}
use Rattle.roll_requests.specs.Requests.{advances, end_requests, frees, reaching}
use Rattle.roll_requests.specs.Slotted.{is_taken}
use Rattle.roll_requests.specs.declared.request.Request.{Request}
use Rattle.roll_requests.specs.declared.request.Request.TheVariants.{Save, Advance}
use Rattle.roll_requests.proofs.Carrying.{carried_append, first_rows, freed, reached, time_more}
use Rattle.roll_requests.proofs.Filling.{taken_within}
use Rattle.roll_requests.proofs.Late.{stored_same}
use Rattle.roll_requests.proofs.Taking.{emptied}

-- one frame more is asked for
pub advances_more : (row : ℕ → List Cell) (k n : ℕ) (r : List Cell) (old mid new : List Request) → mid ≡ old ++ advances row k → new ≡ mid ++ Advance r ∷ [] → r ≡ row k → n ≡ k + 1 → new ≡ old ++ advances row n
advances_more row k n r old mid new are more is next =
    let place : k + 1 ≡ suc k = omega arith in
    more
    ∙ ap (λ (l : List Request). l ++ Advance r ∷ []) are
    ∙ append_assoc old (advances row k) (Advance r ∷ [])
    ∙ ap (λ v. old ++ (advances row k ++ Advance v ∷ [])) is
    ∙ ap (λ m. old ++ advances row m) (sym (next ∙ place))

-- frames are run: what is in the slots stays
record IsOn (step : Step) (row : ℕ → List Cell) (n : ℕ) (there new : Elsewhere Value) : Type 0 where
  current : new.current ≡ run step there.current (first_rows row n)
  slots : (k : ℕ) → new.slots k ≡ there.slots k

went_on : (step : Step) (row : ℕ → List Cell) (n : ℕ) (there : Elsewhere Value) → IsOn step row n there (carried_all step (advances row n) there)
went_on step row zero there = record { current = refl; slots = λ k. refl }
went_on step row (suc n) there =
    let before = went_on step row n there in
    rw (carried_append step (advances row n) (Advance (row n) ∷ []) there)
    (record {
      current = ap (λ v. step v (row n)) before.current ∙ sym (fold_push step there.current (first_rows row n) (row n));
      slots = before.slots;
    })

has_none : (o : Option Value) → is_some o ≡ false → o ≡ None
has_none None e = refl
has_none (Some v) e = absurd (false≢true (sym e))

-- once all that is taken is freed, no slot has a state
all_gone : (step : Step) (taken : List Bool) (there : Elsewhere Value) → ((k : ℕ) → is_some (there.slots k) ≡ is_taken taken k) → (k : ℕ) → (carried_all step (frees (is_taken taken) (length taken)) there).slots k ≡ None
all_gone step taken there was k = go (is_taken taken k) refl
  where
    go : (b : Bool) → is_taken taken k ≡ b → (carried_all step (frees (is_taken taken) (length taken)) there).slots k ≡ None
    go true e = emptied step (is_taken taken) (length taken) k there (taken_within taken k e) e
    go false e = (freed step (is_taken taken) (length taken) there).slots k e ∙ has_none (there.slots k) (was k ∙ e)

-- the requests of an end, carried out
ended_on : (step : Step) (opening : Value) (players : List Player) (far n at slot : ℕ) (taken : List Bool) (there : Elsewhere Value) → there.slots at ≡ Some there.current → there.slots slot ≡ Some (run step opening (timeline players far)) → ((k : ℕ) → is_some (there.slots k) ≡ is_taken taken k)
    → AreAlike (carried_all step (end_requests at slot taken (λ k. row_at players (far + k)) n) there) (first (run step opening (timeline players (far + n))))
ended_on step opening players far n at slot taken there at_is here was =
    let row : ℕ → List Cell = λ k. row_at players (far + k) in
    let from : Value = run step opening (timeline players far) in
    let to : Value = run step opening (timeline players (far + n)) in
    let loads : List Request = reaching at slot in
    let runs : List Request = advances row n in
    let goes : List Request = frees (is_taken taken) (length taken) in
    let saves : List Request = Save 0 ∷ [] in
    let one : Elsewhere Value = carried_all step loads there in
    let two : Elsewhere Value = carried_all step runs one in
    let three : Elsewhere Value = carried_all step goes two in
    let a = reached step at slot from there at_is here in
    let b = went_on step row n one in
    let c = freed step (is_taken taken) (length taken) two in
    let led : run step from (first_rows row n) ≡ to = sym (fold-append step opening (timeline players far) (first_rows row n)) ∙ ap (run step opening) (time_more players far n) in
    let now : three.current ≡ to = c.current ∙ b.current ∙ ap (λ v. run step v (first_rows row n)) a.current ∙ led in
    let gone : (k : ℕ) → three.slots k ≡ None = all_gone step taken two (λ k. ap is_some (b.slots k ∙ a.slots k) ∙ was k) in
    rw (carried_append step (loads ++ runs ++ goes) saves there, carried_append step (loads ++ runs) goes there, carried_append step loads runs there)
    (record {
      current = now;
      slots = λ k. stored_same 0 k (Some three.current) (Some to) three.slots (λ j. None) (ap Some now) (gone k);
    })

-- what the slot of the settled state has, where requests led
settled_here : (past : List Request) (e : Asked) (slot : ℕ) → IsSettledSlot e.saves.tree slot → Leads past e → (step : Step) (opening : Value)
    → (carried_out step opening (past ++ e.requests)).slots slot ≡ Some (run step opening (timeline e.saves.inputs.players e.saves.inputs.settled))
settled_here past e slot is l step opening =
    let T : Rows = timeline e.saves.inputs.players e.saves.inputs.settled in
    let there : Elsewhere Value = carried_out step opening (past ++ e.requests) in
    let u = some_is (state_named e.saves.tree e.saves.tree.root) (λ (v : Saved ℕ). (v.path ≡ []) × (v.snapshot ≡ slot)) is in
    ap there.slots (sym u.2.1)
    ∙ all_held (λ (v : Saved ℕ). there.slots v.snapshot ≡ Some (run step opening (T ++ v.path))) (λ v. v.name == e.saves.tree.root) e.saves.tree.states u.0 (l.there step opening).held u.1
    ∙ ap (λ (q : Rows). Some (run step opening q)) (ap (λ (q : Rows). T ++ q) u.2.0 ∙ append-nil T)

-- after an end
pub opened : (e : Asked) (end slot : ℕ) (requests : List Request) → e.saves.inputs ≡ inputs_of e.seen.settings e.seen.core → IsSettledSlot e.saves.tree slot → settled e.seen.core ≤ end
    → requests ≡ e.requests ++ end_requests e.at slot e.taken (open_row e.seen.core) (end - settled e.seen.core)
    → (past : List Request) → Leads past e → IsOpenedAt e.seen.core.players end (past ++ requests)
opened e end slot requests inputs is within list past l =
    let far : ℕ = settled e.seen.core in
    let players : List Player = e.seen.core.players in
    let more : List Request = end_requests e.at slot e.taken (open_row e.seen.core) (end - far) in
    let place : far + (end - far) ≡ end = omega (arith, within) in
    record {
      there = λ step opening.
          let there : Elsewhere Value = carried_out step opening (past ++ e.requests) in
          let here : there.slots slot ≡ Some (run step opening (timeline players far)) =
          settled_here past e slot is l step opening ∙ ap (λ (i : Inputs). Some (run step opening (timeline i.players i.settled))) inputs in
          rw (list, sym (append_assoc past e.requests more), carried_append step (past ++ e.requests) more (first opening))
          (subst (λ n. AreAlike (carried_all step more there) (first (run step opening (timeline players n)))) place
          (ended_on step opening players far (end - far) e.at slot e.taken there (l.there step opening).at_is here (l.taken step opening)));
    }

-- what holds where there is no error
pub on_ok : {X E P : Type 0} (r : Result X E) → is_err r ≡ false → OnOk r P → P
on_ok (Ok x) fine h = h
on_ok (Err e) fine h = absurd (false≢true (sym fine))
