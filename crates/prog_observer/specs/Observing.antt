-- What is seen of a session while it is played.
use Rattle.std.specs.Prelude.{◌-◌, ◌&&◌, ◌||◌, ◌==◌, ℕ, List, [], ◌∷◌, ◌++◌, drop, length, map, nat_le, nat_lt, Bool, true, Option, None, Some, if◌then◌else◌, slice_get, is_none}
use Rattle.std.specs.List.{range_with_len}
use Rattle.std.specs.Option.{option_map_or, option_to_list}
use Rattle.prog_picture.specs.declared.scene.Roll.{Roll}
use Rattle.prog_picture.specs.declared.scene.Window.{Window}
use Rattle.roll_frame.specs.Cells.{Rows}
use Rattle.roll_frame.specs.Core.{settled}
use Rattle.roll_frame.specs.declared.claim.Claim.{Claim}
use Rattle.roll_frame.specs.declared.refusal.Refusal.{Refusal}
use Rattle.roll_frame.specs.declared.refusal.Refusal.TheVariants.{NoMemory, NoPlan}
use Rattle.roll_frame.specs.declared.row.Cell.{Cell}
use Rattle.roll_session.specs.Headline.{last_claim}
use Rattle.roll_session.specs.Seen.{Seen}
use Rattle.prog_observer.specs.Changes.{roll_of, rows_from}
use Rattle.prog_observer.specs.Hearing.{HeardWords, after_hearing, heard_words, nothing_heard}
use Rattle.prog_observer.specs.declared.observer.Observer.{Observer}
use Rattle.prog_observer.specs.declared.observer.Sample.{Sample}

-- what was seen of a session
pub record Observed : Type 0 where
  -- what is to be shown of it
  pub window : Window
  -- its frame, and how many rows were settled after its last roll
  pub frame : ℕ
  pub settled : ℕ
  -- the rows from there up to the frame, as that roll left them
  pub rows : Rows
  -- the row that was shown of each frame as it was first run
  pub firsts : Rows
  -- the words of each player
  pub heard : List HeardWords
  pub rolls : List Roll
  -- the roll whose saved states are to be shown
  pub sample : Option Sample

abbrev pub observed : Observer → Observed
observed observer = record {
  window = observer.window;
  frame = observer.frame;
  settled = observer.settled;
  rows = observer.rows.items;
  firsts = observer.firsts.items;
  heard = map heard_words observer.hearings.items;
  rolls = observer.rolls.items;
  sample = observer.sample;
}

-- nothing was seen of a session of so many players
abbrev pub nothing_seen : ℕ → Window → Observed
nothing_seen players window = record {
  window = window;
  frame = 0;
  settled = 0;
  rows = [];
  firsts = [];
  heard = map nothing_heard (range_with_len 1 players);
  rolls = [];
  sample = None;
}

-- whether a roll ran frames again, or changed what was shown
abbrev pub is_rollback : Roll → Bool
is_rollback roll = nat_lt 0 roll.rerun || nat_lt 0 roll.ggpo

-- whether a roll ran more frames again than another, or as many where GGPO would have run more
abbrev pub is_deeper : Roll → Roll → Bool
is_deeper roll other = nat_lt other.rerun roll.rerun || (roll.rerun == other.rerun && nat_lt other.ggpo roll.ggpo)

-- whether the saved states of a roll may be shown: it came at the frame that is asked for, or if none is, it is a rollback that
-- is shown
abbrev pub is_wanted : Window → Roll → Bool
is_wanted window roll =
    let is_shown = nat_le window.from roll.at && nat_le roll.at window.to in
    option_map_or (λ frame. roll.at == frame) window.tree (is_rollback roll && is_shown)

-- whether a roll is deeper than the one whose saved states were to be shown, if there is one
abbrev pub is_better : Roll → Option Sample → Bool
is_better roll sample = option_map_or (λ (kept : Sample). is_deeper roll kept.roll) sample true

-- the roll whose saved states are to be shown, where there was one more: the deepest that may be, the first of several
abbrev pub with_sample : Window → Option Sample → Sample → Option Sample
with_sample window kept sample = if is_better sample.roll kept && is_wanted window sample.roll then Some sample else kept

-- the claim of a roll, which lists its saved states
abbrev pub tree_of : Sample → Claim
tree_of sample = sample.claim

-- the last of the rows, if there is one
abbrev pub last_row : Rows → Option (List Cell)
last_row rows = slice_get rows (length rows - 1)

-- the same with what a roll changed, where these are the timeline's rows from the frame on that was settled before it, and the
-- session is this
abbrev pub with_roll : Observed → Seen → Rows → Roll → Claim → Observed
with_roll seen s rows roll claim = record {
  window = seen.window;
  frame = s.core.frame;
  settled = settled s.core;
  rows = drop (settled s.core - seen.settled) rows;
  firsts = seen.firsts ++ (if nat_lt seen.frame s.core.frame then option_to_list (last_row rows) else []);
  heard = seen.heard;
  rolls = seen.rolls ++ (if is_rollback roll then roll ∷ [] else []);
  sample = with_sample seen.window seen.sample (record { roll = roll; claim = claim });
}

-- what was seen, and the roll of a session that has this claim
abbrev pub after_roll : Observed → Seen → Claim → Observed
after_roll seen s claim =
    let rows = rows_from s.core claim seen.settled in
    let roll = roll_of seen.frame claim.from seen.settled seen.rows rows in
    with_roll seen s rows roll claim

-- what was seen, and the words that have come since
abbrev pub after_words : Observed → Seen → Observed
after_words seen s = record seen { heard = map (after_hearing s seen.frame) seen.heard }

-- the claim of the roll that is to be noted, if there was one
abbrev pub claim_to_note : Seen → Bool → Option Claim
claim_to_note s has_rolled = if has_rolled then last_claim s else None

-- what was seen of a session, after it was watched again: the words that have come since, and its last roll if that is new
abbrev pub after_watch : Observed → Seen → Bool → Observed
after_watch seen s has_rolled =
    option_map_or (after_roll (after_words seen s) s) (claim_to_note s has_rolled) (after_words seen s)

-- why it can't be watched: there is no roll to be noted, or no memory is left
abbrev pub watch_refusal : Seen → Bool → Refusal
watch_refusal s has_rolled = if has_rolled && is_none s.core.last then NoPlan else NoMemory
