-- The entries of a log, each where it was accepted.
use Rattle.std.proofs.Common.{◌≡◌, ◌⊎◌, ℕ, zero, suc, List, [], ◌∷◌, take, Bool, true, false, Some, None, ap, sym, subst, inl, inr}
use Rattle.std.specs.Prelude.{fold, slice_get, if◌then◌else◌}
use Rattle.std.proofs.lemmas.Bool.{cases_Bool}
use Rattle.roll_frame.specs.Core.{Core, first_core}
use Rattle.roll_frame.specs.Events.{CoreEvent, after, applied, is_accepted, log_from, replay}
use Rattle.roll_frame.specs.Games.{Game, Value}
use Rattle.roll_frame.specs.declared.entry.Entry.{Entry}
use Rattle.roll_frame.specs.declared.settings.Settings.{Settings}
use Rattle.roll_laws.specs.Laws.{EntriesWereAccepted}
use Rattle.roll_laws.proofs.Accepted.{after_accepted}

module _ (settings : Settings) (game : Game) where
  -- an entry that was accepted there
  abbrev WasAccepted : Core → List Entry → ℕ → Entry → Type 0
  WasAccepted core log place entry = (value : Value) × (is_accepted settings game (fold applied core (take place log)) (record { entry = entry; value = value }) ≡ true)

  at_first : (core : Core) (event : CoreEvent) (log : List Entry) (place : ℕ) (entry : Entry) → is_accepted settings game core event ≡ true
      → ((p : ℕ) (e : Entry) → slice_get log p ≡ Some e → WasAccepted (applied core event.entry) log p e) → slice_get (event.entry ∷ log) place ≡ Some entry → WasAccepted core (event.entry ∷ log) place entry
  at_first core event log zero entry a r e = subst (WasAccepted core (event.entry ∷ log) 0) (the event.entry entry e) (event.value, a)
    where
      the : (x y : Entry) → Some x ≡ Some y → x ≡ y
      the x y f = cc
  at_first core event log (suc place) entry a r e = r place entry e

  accepted_from : (core : Core) (events : List CoreEvent) (place : ℕ) (entry : Entry) → slice_get (log_from settings game core events) place ≡ Some entry → WasAccepted core (log_from settings game core events) place entry
  accepted_from core [] place entry e = let no : None ≡ Some entry = e in absurd (cc no)
  accepted_from core (event ∷ events) place entry e = go (cases_Bool (is_accepted settings game core event)) (accepted_from (after settings game core event) events)
    where
      go : (is_accepted settings game core event ≡ true) ⊎ (is_accepted settings game core event ≡ false)
          → ((p : ℕ) (x : Entry) → slice_get (log_from settings game (after settings game core event) events) p ≡ Some x → WasAccepted (after settings game core event) (log_from settings game (after settings game core event) events) p x)
          → WasAccepted core (log_from settings game core (event ∷ events)) place entry
      go (inl a) r =
          let rest : List Entry = log_from settings game (after settings game core event) events in
          let whole : log_from settings game core (event ∷ events) ≡ event.entry ∷ rest = ap (λ (b : Bool). if b then event.entry ∷ rest else rest) a in
          subst (λ (l : List Entry). WasAccepted core l place entry) (sym whole)
          (at_first core event rest place entry a (λ p x h. subst (λ (c : Core). WasAccepted c rest p x) (after_accepted settings game core event a) (r p x h)) (subst (λ (l : List Entry). slice_get l place ≡ Some entry) whole e))
      go (inr a) r =
          let rest : List Entry = log_from settings game (after settings game core event) events in
          let whole : log_from settings game core (event ∷ events) ≡ rest = ap (λ (b : Bool). if b then event.entry ∷ rest else rest) a in
          let same : after settings game core event ≡ core = ap (λ (b : Bool). if b then applied core event.entry else core) a in
          subst (λ (l : List Entry). WasAccepted core l place entry) (sym whole) (subst (λ (c : Core). WasAccepted c rest place entry) same (r place entry (subst (λ (l : List Entry). slice_get l place ≡ Some entry) whole e)))

pub entries_were_accepted : EntriesWereAccepted
unfolding replay
entries_were_accepted settings game events place entry e = accepted_from settings game (first_core settings) events place entry e
