-- The log of the accepted events leads to the same core; guesses; and deeper paths.
use Rattle.std.proofs.Common.{◌≡◌, ℕ, ◌+◌, ◌-◌, ◌<◌, ◌≤◌, List, [], ◌∷◌, ◌++◌, length, get_or, refl, ap, sym, ◌∙◌, true, false, arith, inl, inr, length-append}
use Rattle.std.specs.Prelude.{◌⊎◌, fold, nat_lt, bit_and, if◌then◌else◌}
use Rattle.std.proofs.lemmas.Bool.{cases_lt, false_from_ne_true, lt-ltb, le-ltb}
use Rattle.std.proofs.lemmas.List.{get_or_append_left, get_or-append-add}
use Rattle.roll_frame.specs.declared.row.Cell.TheVariants.{Word}
use Rattle.roll_frame.specs.Cells.{Rows}
use Rattle.roll_frame.specs.Core.{Core, first_core, depth}
use Rattle.roll_frame.specs.Events.{CoreEvent, is_accepted, applied, after, played_from, log_from, replay}
use Rattle.roll_frame.specs.Games.{Game}
use Rattle.roll_frame.specs.Inputs.{with_words}
use Rattle.roll_frame.specs.Paths.{begins_with, contains}
use Rattle.roll_frame.specs.Timeline.{last_word, cell_at, timeline}
use Rattle.roll_frame.specs.declared.entry.Entry.{Entry}
use Rattle.roll_frame.specs.declared.settings.Settings.{Settings}
use Rattle.roll_laws.specs.Laws.{LogReplays, LogIsCounted, GuessedCells}
use Rattle.roll_laws.proofs.Known.{cell_confirmed, cell_predicted}
use Rattle.roll_laws.proofs.Saved.{has_in, longest_at_least}
use Rattle.roll_laws.proofs.Accepted.{Outcome, after_log}

replays_from : (settings : Settings) (game : Game) (core : Core) (events : List CoreEvent) → played_from settings game core events ≡ fold applied core (log_from settings game core events)
replays_from settings game core [] = refl
replays_from settings game core (event ∷ events) = go (after_log settings game core event) (replays_from settings game (after settings game core event) events)
  where
    go : Outcome settings game core event
        → played_from settings game (after settings game core event) events ≡ fold applied (after settings game core event) (log_from settings game (after settings game core event) events)
        → played_from settings game (after settings game core event) events
        ≡ fold applied core (if is_accepted settings game core event then event.entry ∷ log_from settings game (after settings game core event) events else log_from settings game (after settings game core event) events)
    go (inl h) r =
        r ∙ ap (λ (c : Core). fold applied c (log_from settings game (after settings game core event) events)) h.0
        ∙ ap (λ b. fold applied core (if b then event.entry ∷ log_from settings game (after settings game core event) events else log_from settings game (after settings game core event) events)) (sym h.1)
    go (inr h) r =
        r ∙ ap (λ (c : Core). fold applied c (log_from settings game (after settings game core event) events)) h.1
        ∙ ap (λ b. fold applied core (if b then event.entry ∷ log_from settings game (after settings game core event) events else log_from settings game (after settings game core event) events)) (sym h.2)

pub log_replays : LogReplays
unfolding replay
log_replays settings game events = replays_from settings game (first_core settings) events

counts_all : (core : Core) (entries : List Entry) → (fold applied core entries).logged ≡ core.logged + length entries
counts_all core [] = omega arith
counts_all core (entry ∷ entries) = omega (arith, counts_all (applied core entry) entries)

pub log_is_counted : LogIsCounted
unfolding replay
log_is_counted settings game events =
    ap (λ (c : Core). c.logged) (log_replays settings game events) ∙ counts_all (first_core settings) (log_from settings game (first_core settings) events) ∙ omega arith

-- no saved path that is deeper than where a roll to m starts begins the timeline's first m rows
pub deeper_diverge : (core : Core) (m : ℕ) (path : Rows) → contains core.ever path ≡ true → depth core m < length path → begins_with (timeline core.players m) path ≡ false
deeper_diverge core m path s d =
    false_from_ne_true (begins_with (timeline core.players m) path)
    (λ b. let l : length path ≤ depth core m = longest_at_least core.ever (timeline core.players m) path (has_in core.ever path s) b in absurd (omega arith))

-- of some words the last doesn't depend on the one before them
last_any : (before other : ℕ) (ws : List ℕ) → 1 ≤ length ws → last_word before ws ≡ last_word other ws
last_any before other [] h = absurd (omega arith)
last_any before other (w ∷ ws) h = refl

last_append : (before : ℕ) (vs ws : List ℕ) → 1 ≤ length ws → last_word before (vs ++ ws) ≡ last_word before ws
last_append before [] ws h = refl
last_append before (v ∷ vs) ws h = last_append v vs ws h ∙ last_any v before ws h

pub guessed_cells : GuessedCells
guessed_cells player words t g n = go (cases_lt t (length player.words))
  where
    long : length (player.words ++ words) ≡ length player.words + length words
    long = length-append player.words words

    go : (t < length player.words) ⊎ (length player.words ≤ t)
        → cell_at t (with_words words player) ≡ (if nat_lt t (length player.words) then cell_at t player else (if nat_lt (t - length player.words) (length words) then Word (get_or words (t - length player.words) 0) else Word (bit_and (last_word player.before words) player.mask)))
    go (inl a) =
        cell_confirmed t (with_words words player) (omega (arith, long)) ∙ ap Word (get_or_append_left player.words words 0 t a) ∙ sym (cell_confirmed t player a)
        ∙ ap (λ c. if c then cell_at t player else (if nat_lt (t - length player.words) (length words) then Word (get_or words (t - length player.words) 0) else Word (bit_and (last_word player.before words) player.mask))) (sym (lt-ltb t (length player.words) a))
    go (inr a) = at (cases_lt (t - length player.words) (length words))
      where
        at : (t - length player.words < length words) ⊎ (length words ≤ t - length player.words)
            → cell_at t (with_words words player) ≡ (if nat_lt t (length player.words) then cell_at t player else (if nat_lt (t - length player.words) (length words) then Word (get_or words (t - length player.words) 0) else Word (bit_and (last_word player.before words) player.mask)))
        at (inl b) =
            let place : length player.words + (t - length player.words) ≡ t = omega arith in
            let word : get_or (player.words ++ words) t 0 ≡ get_or words (t - length player.words) 0 = ap (λ k. get_or (player.words ++ words) k 0) (sym place) ∙ get_or-append-add player.words words (t - length player.words) 0 in
            cell_confirmed t (with_words words player) (omega (arith, long)) ∙ ap Word word
            ∙ ap (λ c. if c then cell_at t player else Word (get_or words (t - length player.words) 0)) (sym (le-ltb t (length player.words) a))
            ∙ ap (λ c. if nat_lt t (length player.words) then cell_at t player else (if c then Word (get_or words (t - length player.words) 0) else Word (bit_and (last_word player.before words) player.mask))) (sym (lt-ltb (t - length player.words) (length words) b))
        at (inr b) =
            cell_predicted t (with_words words player) (omega (arith, long)) g ∙ ap (λ w. Word (bit_and w player.mask)) (last_append player.before player.words words n)
            ∙ ap (λ c. if c then cell_at t player else Word (bit_and (last_word player.before words) player.mask)) (sym (le-ltb t (length player.words) a))
            ∙ ap (λ c. if nat_lt t (length player.words) then cell_at t player else (if c then Word (get_or words (t - length player.words) 0) else Word (bit_and (last_word player.before words) player.mask))) (sym (le-ltb (t - length player.words) (length words) b))
