-- The timeline and the saved states as a session sees them, and what their fields keep.
use Rattle.std.specs.Prelude.{◌≡◌, ℕ, ◌+◌, ◌-◌, ◌≤◌, List, [], ◌∷◌, ◌++◌, length, filter, map, drop, min, not, All, Bool, true, false, Option, Some, None, slice_get}
use Rattle.std.specs.Option.{option_eq, option_map_or}
use Rattle.std.specs.List.{list_all}
use Rattle.roll_frame.specs.declared.row.Cell.{Cell}
use Rattle.roll_frame.specs.declared.row.Cell.TheVariants.{Gone, Word}
use Rattle.roll_frame.specs.Cells.{Rows, cell_eq}
use Rattle.roll_frame.specs.Events.{all_given}
use Rattle.roll_frame.specs.Refusals.{first_refusal}
use Rattle.roll_frame.specs.declared.refusal.Refusal.{Refusal}
use Rattle.roll_frame.specs.declared.refusal.Refusal.TheVariants.{LocalInputMissing}
use Rattle.roll_frame.specs.Paths.{begins_with, longest, prefixes, run}
use Rattle.roll_frame.specs.Games.{Value}
use Rattle.roll_frame.specs.Timeline.{timeline, front}
use Rattle.roll_inputs.specs.Boards.{Inputs, count_of, disconnect_refusal, local_refusal, remote_refusal, with_player}
use Rattle.roll_frame.specs.Inputs.{is_repeated, with_given, with_gone, with_none_given, with_words}
use Rattle.roll_frame.specs.declared.entry.Entry.{Entry}
use Rattle.roll_frame.specs.declared.entry.Entry.TheVariants.{Local, Remote, Disconnect, Advance}
use Rattle.roll_laws.specs.Laws.{has_no_other}
use Rattle.roll_tree.specs.SavedStates.{SavedStates, Saved, has_other, later, paths_of}
use Rattle.roll_session.specs.Standing.{rows_from}
use Rattle.roll_session.specs.declared.saves.Saves.TheInside.{Inside}

-- the inputs, the saved states, and how many settled rows there is room for
pub record Standing (S : Type 0) : Type 0 where
  pub inputs : Inputs
  pub tree : SavedStates S
  pub room : ℕ

-- the fields tell of one timeline
pub record IsInStep {S : Type 0} (s : Inside S) : Type 0 where
  pub past : s.past.rows ≡ timeline s.board.players s.board.settled
  pub wide : s.past.players ≡ length s.board.players
  pub base : s.tree.base ≡ s.board.settled
  pub told : s.tree.time ≡ rows_from s.board.players s.board.settled (length s.tree.time)
  pub room : s.board.frame ≤ s.past.room

-- whether rows have the word at this place in the cells of this player, from 0, or end before it
abbrev pub has_word : Rows → ℕ → ℕ → ℕ → Bool
has_word time place player word = option_map_or (λ row. option_eq cell_eq (slice_get row player) (Some (Word word))) (slice_get time place) true

-- the inputs after a player's input
abbrev pub taken_inputs : Inputs → Entry → Inputs
taken_inputs inputs (Local p word) = with_player (with_given word) inputs p
taken_inputs inputs (Remote p f word) = with_player (with_words (word ∷ [])) inputs p
taken_inputs inputs (Disconnect p) = with_player with_gone inputs p
taken_inputs inputs entry = inputs

-- a player's input that the inputs have no test against
abbrev pub IsFree : Inputs → Entry → Type 0
IsFree inputs (Local p word) = local_refusal inputs p ≡ None
IsFree inputs (Remote p f word) = (is_repeated inputs.players p f word ≡ false) × (remote_refusal inputs p f ≡ None)
IsFree inputs (Disconnect p) = disconnect_refusal inputs p ≡ None
IsFree inputs entry = ⊥

-- whether a player's input repeats a word
abbrev pub repeats : Inputs → Entry → Bool
repeats inputs (Remote p f word) = is_repeated inputs.players p f word
repeats inputs entry = false

-- why a call is refused, apart from a full log
abbrev pub refusal_in : Inputs → Entry → Option Refusal
refusal_in inputs (Local p word) = local_refusal inputs p
refusal_in inputs (Remote p f word) = remote_refusal inputs p f
refusal_in inputs (Disconnect p) = disconnect_refusal inputs p
refusal_in inputs Advance = first_refusal ((not (all_given inputs.players), LocalInputMissing) ∷ [])
refusal_in inputs entry = None

-- the inputs after a roll's entry: an advance goes to the next frame
abbrev pub stepped_inputs : Inputs → Entry → Inputs
stepped_inputs inputs Advance = record inputs { frame = inputs.frame + 1; players = map with_none_given inputs.players }
stepped_inputs inputs entry = inputs

-- the timeline's rows from the settled frame to this one
abbrev pub rows_to : Inputs → ℕ → Rows
rows_to inputs to = rows_from inputs.players inputs.settled (to - inputs.settled)

module _ {S : Type 0} where
  -- the states whose paths have no other cell than this for player p in the frame of its next word
  abbrev pub without_other : Inputs → ℕ → Cell → List (Saved S) → List (Saved S)
  without_other inputs p cell states = filter (λ s. not (has_other p (count_of inputs.players p - inputs.settled) cell s.path)) states

  -- the states whose paths have player p gone from the frame of its next word on
  abbrev pub with_gone_only : Inputs → ℕ → List (Saved S) → List (Saved S)
  with_gone_only inputs p states = filter (λ s. list_all (has_no_other (p - 1) Gone) (drop (count_of inputs.players p - inputs.settled) s.path)) states

  -- the states that a player's input leaves
  abbrev pub taken_states : Inputs → Entry → List (Saved S) → List (Saved S)
  taken_states inputs (Local p word) states = without_other inputs p (Word word) states
  taken_states inputs (Remote p f word) states = without_other inputs p (Word word) states
  taken_states inputs (Disconnect p) states = with_gone_only inputs p states
  taken_states inputs entry states = states

  -- how far past the settled rows the deepest saved state lies on the timeline's way to a frame
  abbrev pub deepest_toward : Standing S → ℕ → ℕ
  deepest_toward s to = longest (paths_of s.tree) (rows_to s.inputs to)

  -- each state has the value that the settled rows and its path lead to
  abbrev pub HaveValues : (S → Value) → (Value → List Cell → Value) → Value → Rows → List (Saved S) → Type 0
  HaveValues value step opening settled states = All (λ s. value s.snapshot ≡ run step opening (settled ++ s.path)) states

  -- whatever the opening's value: where each old state has the value that settled rows and path lead to, each new one has
  abbrev pub KeepsValues : (S → Value) → (Value → List Cell → Value) → Standing S → Standing S → Type 0
  KeepsValues value step old new =
      (opening : Value)
      → HaveValues value step opening (timeline old.inputs.players old.inputs.settled) old.tree.states
      → HaveValues value step opening (timeline old.inputs.players old.inputs.settled) new.tree.states

  -- and this is the value that the timeline to a frame leads to
  abbrev pub IsRunTo : (S → Value) → (Value → List Cell → Value) → Standing S → ℕ → Value → Type 0
  IsRunTo value step s to there =
      (opening : Value)
      → HaveValues value step opening (timeline s.inputs.players s.inputs.settled) s.tree.states
      → there ≡ run step opening (timeline s.inputs.players to)

  -- so many states more are saved, the next ones on the timeline's way to a frame
  abbrev pub GrowsBy : Standing S → Standing S → ℕ → ℕ → Type 0
  GrowsBy old new to count = paths_of new.tree ≡ paths_of old.tree ++ prefixes (rows_to old.inputs to) (deepest_toward old to) count

  -- how many rows can be settled more: the deepest saved state on the confirmed timeline up to the frame ends them
  abbrev pub settling : Standing S → ℕ
  settling s = deepest_toward s (min (front s.inputs.players) s.inputs.frame)

  -- the states as they are seen from n settled rows later
  abbrev pub settled_by : Standing S → ℕ → List (Saved S)
  settled_by s n = map (later n) (filter (λ u. begins_with u.path (rows_from s.inputs.players s.inputs.settled n)) s.tree.states)
