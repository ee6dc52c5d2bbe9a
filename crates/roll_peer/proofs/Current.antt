-- What is shown once nothing but branches was accepted since the last roll.
use Rattle.std.proofs.Common.{◌≡◌, ◌∙◌, ◌<◌, List, [], ◌∷◌, ◌+◌, ℕ, zero, suc, length, take, refl, ap, sym, subst, arith, Bool, true, false, Option, None, Some}
use Rattle.std.specs.Prelude.{filter, fold, if◌then◌else◌, not, slice_get}
use Rattle.std.specs.List.{last_or}
use Rattle.std.specs.Option.{option_map_or}
use Rattle.std.proofs.lemmas.Bool.{false≢true}
use Rattle.roll_frame.proofs.Timelines.{timeline_none_given}
use Rattle.roll_frame.specs.Core.{first_core, Core}
use Rattle.roll_frame.specs.Events.{applied, replay}
use Rattle.roll_frame.specs.Timeline.{timeline}
use Rattle.roll_frame.specs.declared.entry.Entry.{Entry}
use Rattle.roll_frame.specs.declared.entry.Entry.TheVariants.{Local, Remote, Disconnect, Sync, Advance, Graft, Partial}
use Rattle.roll_frame.specs.declared.settings.Settings.{Settings}
use Rattle.roll_session.specs.Changes.{after_advance, after_sync}
use Rattle.roll_session.specs.Seen.{Seen}
use Rattle.roll_peer.specs.Turning.{ends_in_roll, is_graft, is_roll, IsUpToDate}

-- the state shown is that of what is known of the players
abbrev Shows : Core → Type 0
Shows core = core.shown ≡ Some (timeline core.players core.frame)

after_roll : (core : Core) (entry : Entry) → is_roll entry ≡ true → Shows (applied core entry)
after_roll core Sync h = refl
after_roll core Advance h =
    ap (λ rows. Some rows) (sym (timeline_none_given core.players (core.frame + 1)))
after_roll core (Local player word) h = absurd (false≢true h)
after_roll core (Remote player frame word) h = absurd (false≢true h)
after_roll core (Disconnect player) h = absurd (false≢true h)
after_roll core (Graft ticket route) h = absurd (false≢true h)
after_roll core (Partial to made) h = absurd (false≢true h)

-- a branch changes nothing of what is shown
shows_from : (core : Core) (last : Option Entry) (log : List Entry)
    → (option_map_or is_roll last false ≡ true → Shows core)
    → option_map_or is_roll (last_or last (filter (λ entry. not (is_graft entry)) log)) false ≡ true
    → Shows (fold applied core log)
shows_from core last [] so_far h = so_far h
shows_from core last (Graft ticket route ∷ more) so_far h =
    shows_from (applied core (Graft ticket route)) last more so_far h
shows_from core last (Sync ∷ more) so_far h =
    shows_from (applied core Sync) (Some Sync) more (after_roll core Sync) h
shows_from core last (Advance ∷ more) so_far h =
    shows_from (applied core Advance) (Some Advance) more (after_roll core Advance) h
shows_from core last (Local player word ∷ more) so_far h =
    let entry = Local player word in
    shows_from (applied core entry) (Some entry) more (after_roll core entry) h
shows_from core last (Remote player frame word ∷ more) so_far h =
    let entry = Remote player frame word in
    shows_from (applied core entry) (Some entry) more (after_roll core entry) h
shows_from core last (Disconnect player ∷ more) so_far h =
    let entry = Disconnect player in
    shows_from (applied core entry) (Some entry) more (after_roll core entry) h
shows_from core last (Partial to made ∷ more) so_far h =
    let entry = Partial to made in
    shows_from (applied core entry) (Some entry) more (after_roll core entry) h

shows_after : (settings : Settings) (log : List Entry) → ends_in_roll log ≡ true
    → Shows (replay settings log)
unfolding replay
shows_after settings log h =
    shows_from (first_core settings) None log (λ none. absurd (false≢true none)) h

-- a session of which nothing but branches was accepted since its last roll
pub still_current : (s : Seen) → s.core ≡ replay s.settings s.log → ends_in_roll s.log ≡ true
    → IsUpToDate s
still_current s core h =
    subst (λ (c : Core). Shows c) (sym core) (shows_after s.settings s.log h)

-- and one that has just rolled
pub synced_current : (s : Seen) → IsUpToDate (after_sync s)
synced_current s = refl

pub advanced_current : (s : Seen) → IsUpToDate (after_advance s)
advanced_current s =
    ap (λ rows. Some rows) (sym (timeline_none_given s.core.players (s.core.frame + 1)))

-- ---- the last entry that isn't a branch, found from the end

last_at : (last : Option Entry) (log : List Entry) (place : ℕ) → place < length log
    → last_or last (filter (λ entry. not (is_graft entry)) (take (suc place) log))
    ≡ (if option_map_or is_graft (slice_get log place) false
    then last_or last (filter (λ entry. not (is_graft entry)) (take place log)) else slice_get log place)
last_at last [] place lt = absurd (omega (arith, lt))
last_at last (x ∷ xs) zero lt = go (is_graft x)
  where
    go : (b : Bool) → last_or last (if not b then x ∷ [] else []) ≡ (if b then last else Some x)
    go true = refl
    go false = refl
last_at last (x ∷ xs) (suc place) lt =
    let less : place < length xs = omega (arith, lt) in
    go (is_graft x) (last_at last xs place less) (last_at (Some x) xs place less)
  where
    rest : List Entry → List Entry
    rest = λ entries. filter (λ entry. not (is_graft entry)) entries

    Told : Option Entry → Type 0
    Told o = last_or o (rest (take (suc place) xs))
        ≡ (if option_map_or is_graft (slice_get xs place) false
        then last_or o (rest (take place xs)) else slice_get xs place)

    go : (b : Bool) → Told last → Told (Some x)
        → last_or last (if not b then x ∷ rest (take (suc place) xs) else rest (take (suc place) xs))
        ≡ (if option_map_or is_graft (slice_get xs place) false
        then last_or last (if not b then x ∷ rest (take place xs) else rest (take place xs))
        else slice_get xs place)
    go true without with = without
    go false without with = with

-- so what the last entries say is told by the entry at a place, unless it is a branch
pub ends_at : (log : List Entry) (place : ℕ) (b : Bool) → place < length log
    → option_map_or is_graft (slice_get log place) false ≡ b
    → ends_in_roll (take (place + 1) log)
    ≡ (if b then ends_in_roll (take place log) else option_map_or is_roll (slice_get log place) false)
ends_at log place b lt e =
    let next : place + 1 ≡ suc place = omega arith in
    ap (λ n. ends_in_roll (take n log)) next
    ∙ ap (λ o. option_map_or is_roll o false) (last_at None log place lt)
    ∙ go b e
  where
    go : (b : Bool) → option_map_or is_graft (slice_get log place) false ≡ b
        → option_map_or is_roll (if option_map_or is_graft (slice_get log place) false
        then last_or None (filter (λ entry. not (is_graft entry)) (take place log)) else slice_get log place) false
        ≡ (if b then ends_in_roll (take place log) else option_map_or is_roll (slice_get log place) false)
    go true e = rw e refl
    go false e = rw e refl
