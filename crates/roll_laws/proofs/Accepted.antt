-- What an accepted event tells of its tests, and what it does to the players.
use Rattle.std.proofs.Common.{◌≡◌, ℕ, zero, suc, ◌-◌, List, [], ◌∷◌, ◌++◌, refl, ap, sym, ◌∙◌, Bool, true, false, subst, inl, inr, map, set, Option, Some, None}
use Rattle.std.specs.Prelude.{◌⊎◌, not, slice_get, slice_set, ◌==◌, nat_le, is_none, if◌then◌else◌}
use Rattle.std.specs.Option.{option_map_or}
use Rattle.std.proofs.lemmas.Bool.{false≢true, cases_Bool, and_parts, not-false}
use Rattle.std.proofs.lemmas.List.{append-nil}
use Rattle.roll_frame.specs.Core.{Core}
use Rattle.roll_frame.specs.Events.{CoreEvent, tests_of, refusal, is_repeat, is_accepted, applied, after, played_from}
use Rattle.roll_frame.specs.Games.{Game}
use Rattle.roll_frame.specs.Inputs.{player_at, of_player, changed, with_words, with_given, with_gone, with_none_given}
use Rattle.roll_frame.specs.Timeline.{Player}
use Rattle.roll_frame.specs.declared.refusal.Refusal.{Refusal}
use Rattle.roll_frame.specs.declared.settings.Settings.{Settings}
use Rattle.roll_frame.proofs.Refused.{AllFail, all_fail}
use Rattle.roll_laws.proofs.Ahead.{Later, later_same, AllLater, all_later_same}

pub fail_first : (xs ys : List (Bool × Refusal)) → AllFail (xs ++ ys) → AllFail xs × AllFail ys
fail_first [] ys h = (tt, h)
fail_first (x ∷ xs) ys h = let r = fail_first xs ys h.1 in ((h.0, r.0), r.1)

-- what holds where an event is accepted: each of its tests fails, and the log has room
abbrev pub Accepted : Settings → Game → Core → CoreEvent → Type 0
Accepted settings game core event = AllFail (tests_of settings game core event.value event.entry) × (nat_le settings.log core.logged ≡ false)

-- an event changes nothing and is not logged, or it is accepted and changes what its entry says
abbrev pub Outcome : Settings → Game → Core → CoreEvent → Type 0
Outcome settings game core event =
    ((after settings game core event ≡ core) × (is_accepted settings game core event ≡ false))
    ⊎ (Accepted settings game core event × (after settings game core event ≡ applied core event.entry) × (is_accepted settings game core event ≡ true))

-- an accepted event changes what its entry says
pub after_accepted : (settings : Settings) (game : Game) (core : Core) (event : CoreEvent) → is_accepted settings game core event ≡ true → after settings game core event ≡ applied core event.entry
after_accepted settings game core event a = ap (λ b. if b then applied core event.entry else core) a

none_of : (o : Option Refusal) → is_none o ≡ true → o ≡ None
none_of None e = refl
none_of (Some why) e = absurd (false≢true e)

-- an accepted event passes its tests
pub accepted_passes : (settings : Settings) (game : Game) (core : Core) (event : CoreEvent) → is_accepted settings game core event ≡ true → Accepted settings game core event
accepted_passes settings game core event e =
    let b = and_parts (not (is_repeat core event.entry)) (is_none (refusal settings game core event)) e in
    let f = fail_first (tests_of settings game core event.value event.entry) _ (all_fail _ (none_of (refusal settings game core event) b.1)) in
    (f.0, f.1.0)

pub after_log : (settings : Settings) (game : Game) (core : Core) (event : CoreEvent) → Outcome settings game core event
after_log settings game core event = go (cases_Bool (is_accepted settings game core event))
  where
    go : (is_accepted settings game core event ≡ true) ⊎ (is_accepted settings game core event ≡ false) → Outcome settings game core event
    go (inr e) = inl (ap (λ b. if b then applied core event.entry else core) e, e)
    go (inl e) = inr (accepted_passes settings game core event e, after_accepted settings game core event e, e)

-- what each accepted event keeps is kept by any events
pub events_keep : (settings : Settings) (game : Game) (P : Core → Type 0)
    → ((core : Core) (event : CoreEvent) → Accepted settings game core event → P core → P (applied core event.entry))
    → (core : Core) (events : List CoreEvent) → P core → P (played_from settings game core events)
events_keep settings game P step core [] h = h
events_keep settings game P step core (event ∷ events) h =
    events_keep settings game P step (after settings game core event) events (go (after_log settings game core event))
  where
    go : Outcome settings game core event → P (after settings game core event)
    go (inl a) = subst P (sym a.0) h
    go (inr a) = subst P (sym a.1) (step core event a.0 h)

-- a fact of each player
abbrev pub Each : (Player → Type 0) → List Player → Type 0
Each P [] = Unit {0}
Each P (p ∷ ps) = P p × Each P ps

pub each_weaker : (P Q : Player → Type 0) (ps : List Player) → ((p : Player) → P p → Q p) → Each P ps → Each Q ps
each_weaker P Q [] f h = tt
each_weaker P Q (p ∷ ps) f h = (f p h.0, each_weaker P Q ps f h.1)

pub each_at : (P : Player → Type 0) (ps : List Player) (i : ℕ) (x : Player) → slice_get ps i ≡ Some x → Each P ps → P x
each_at P [] i x e h = let no : None ≡ Some x = e in absurd (cc no)
each_at P (p ∷ ps) zero x e h = subst P (the p x e) h.0
  where
    the : (a b : Player) → Some a ≡ Some b → a ≡ b
    the a b f = cc
each_at P (p ∷ ps) (suc i) x e h = each_at P ps i x e h.1

pub each_set : (P : Player → Type 0) (ps : List Player) (i : ℕ) (y : Player) → P y → Each P ps → Each P (set ps i y)
each_set P [] i y k h = tt
each_set P (p ∷ ps) zero y k h = (k, h.1)
each_set P (p ∷ ps) (suc i) y k h = (h.0, each_set P ps i y k h.1)

later_set : (ps : List Player) (i : ℕ) (x y : Player) → slice_get ps i ≡ Some x → Later x y → AllLater ps (set ps i y)
later_set [] i x y e l = tt
later_set (p ∷ ps) zero x y e l = (subst (λ (z : Player). Later z y) (the p x e) l, all_later_same ps)
  where
    the : (a b : Player) → Some a ≡ Some b → b ≡ a
    the a b f = cc
later_set (p ∷ ps) (suc i) x y e l = (later_same p, later_set ps i x y e l)

pub at_place : (ps : List Player) (p : ℕ) (x : Player) → player_at ps p ≡ Some x → slice_get ps (p - 1) ≡ Some x
at_place ps p x e = go (p == 0) refl
  where
    go : (b : Bool) → (p == 0) ≡ b → slice_get ps (p - 1) ≡ Some x
    go true f = let no : None ≡ Some x = rw f at e in absurd (cc no)
    go false f = rw f at e

-- what a test finds is a player
pub found : (test : Player → Bool) (players : List Player) (p : ℕ) → not (of_player test players p) ≡ false
    → (x : Player) × (player_at players p ≡ Some x) × (test x ≡ true)
found test players p h = go (player_at players p) (not-false (of_player test players p) h)
  where
    go : (o : Option Player) → option_map_or test o false ≡ true → (x : Player) × (o ≡ Some x) × (test x ≡ true)
    go None e = absurd (false≢true e)
    go (Some x) e = (x, refl, e)

pub of_player_is : (test : Player → Bool) (ps : List Player) (p : ℕ) (x : Player) (b : Bool) → player_at ps p ≡ Some x → of_player test ps p ≡ b → test x ≡ b
of_player_is test ps p x b e h = ap (λ o. option_map_or test o false) (sym e) ∙ h

-- the change of a player is a write at its place
pub changed_is : (change : Player → Player) (ps : List Player) (p : ℕ) (x : Player) → player_at ps p ≡ Some x
    → changed change ps p ≡ set ps (p - 1) (change x)
changed_is change ps p x e =
    ap (λ o. option_map_or (λ player. slice_set ps (p - 1) (change player)) o ps) e

pub changed_later : (change : Player → Player) (ps : List Player) (p : ℕ) (x : Player) → player_at ps p ≡ Some x
    → Later x (change x) → AllLater ps (changed change ps p)
changed_later change ps p x e l =
    subst (AllLater ps) (sym (changed_is change ps p x e)) (later_set ps (p - 1) x (change x) (at_place ps p x e) l)

pub changed_each : (P : Player → Type 0) (change : Player → Player) (ps : List Player) (p : ℕ) (x : Player)
    → player_at ps p ≡ Some x → (P x → P (change x)) → Each P ps → Each P (changed change ps p)
changed_each P change ps p x e f h =
    subst (Each P) (sym (changed_is change ps p x e)) (each_set P ps (p - 1) (change x) (f (each_at P ps (p - 1) x (at_place ps p x e) h)) h)

pub later_with_words : (words : List ℕ) (x : Player) → x.gone ≡ false → Later x (with_words words x)
later_with_words words x g = record { same_local = refl; same_mask = refl; same_before = refl; more = words; words = refl; gone = λ h. absurd (false≢true (sym g ∙ h)) }

pub later_with_given : (word : ℕ) (x : Player) → x.gone ≡ false → Later x (with_given word x)
later_with_given word x g = record { same_local = refl; same_mask = refl; same_before = refl; more = word ∷ []; words = refl; gone = λ h. absurd (false≢true (sym g ∙ h)) }

pub later_with_gone : (x : Player) → Later x (with_gone x)
later_with_gone x = record { same_local = refl; same_mask = refl; same_before = refl; more = []; words = sym (append-nil x.words); gone = λ h. (refl, refl) }

pub later_none_given : (ps : List Player) → AllLater ps (map with_none_given ps)
later_none_given [] = tt
later_none_given (p ∷ ps) = (record { same_local = refl; same_mask = refl; same_before = refl; more = []; words = sym (append-nil p.words); gone = λ h. (h, refl) }, later_none_given ps)
