-- When the words of a player came, and what had been shown of it.
use Rattle.std.specs.Prelude.{◌-◌, ℕ, List, [], ◌++◌, drop, length, map, max, Bool, Option, None, Some, slice_get, unwrap_or}
use Rattle.std.specs.List.{range_with_len}
use Rattle.std.specs.Option.{option_map}
use Rattle.prog_picture.specs.declared.scene.Cell.{Cell}
use Rattle.prog_picture.specs.declared.scene.Lane.{Lane}
use Rattle.roll_frame.specs.Cells.{Rows}
use Rattle.roll_frame.specs.Claims.{cell_in}
use Rattle.roll_frame.specs.Inputs.{of_player}
use Rattle.roll_frame.specs.declared.row.Cell.{Cell as Shown}
use Rattle.roll_frame.specs.declared.row.Cell.TheVariants.{Word, Gone}
use Rattle.roll_session.specs.Headline.{words_of}
use Rattle.roll_session.specs.Seen.{Seen}
use Rattle.prog_observer.specs.declared.hearing.Heard.{Heard}
use Rattle.prog_observer.specs.declared.hearing.Hearing.{Hearing}

-- a player's words that have come, from frame 0 on
pub record HeardWords : Type 0 where
  pub player : ℕ
  pub words : List Heard

abbrev pub heard_words : Hearing → HeardWords
heard_words hearing = record { player = hearing.player; words = hearing.words.items }

-- of a player nothing was heard
abbrev pub nothing_heard : ℕ → HeardWords
nothing_heard player = record { player = player; words = [] }

-- a word that comes in this frame
abbrev pub heard_at : ℕ → ℕ → Heard
heard_at at word = record { word = word; at = at }

-- what was heard of a player, and then, coming in this frame, the confirmed words that it lacks
abbrev pub after_hearing : Seen → ℕ → HeardWords → HeardWords
after_hearing s at heard =
    record heard { words = heard.words ++ map (heard_at at) (drop (length heard.words) (words_of s heard.player)) }

-- the word of a cell, unless the player is gone
abbrev pub word_shown : Option Shown → Option ℕ
word_shown None = None
word_shown (Some (Word word)) = Some word
word_shown (Some Gone) = None

-- the word that was shown of a player as a frame was first run, if it was run and the player hadn't left
abbrev pub shown_at : Rows → ℕ → ℕ → Option ℕ
shown_at firsts frame player = word_shown (cell_in firsts frame (player - 1))

-- a cell of what was heard, and of what was shown: where nothing was shown, what was heard, and where nothing was heard, what
-- was shown
abbrev pub cell_by : Option Heard → Option ℕ → Option Cell
cell_by (Some heard) shown =
    Some (record { word = heard.word; shown = unwrap_or shown heard.word; heard = Some heard.at })
cell_by None shown = option_map (λ word. record { word = word; shown = word; heard = None }) shown

abbrev pub cell_at : HeardWords → Rows → ℕ → Option Cell
cell_at heard firsts frame = cell_by (slice_get heard.words frame) (shown_at firsts frame heard.player)

-- all cells, up to the last frame of which a word has come, or that was run
abbrev pub cells_of : HeardWords → Rows → List (Option Cell)
cells_of heard firsts = map (cell_at heard firsts) (range_with_len 0 (max (length heard.words) (length firsts)))

-- a lane as a picture shows it
pub record LaneShown : Type 0 where
  pub player : ℕ
  pub is_local : Bool
  pub cells : List (Option Cell)

abbrev pub lane_shown : Lane → LaneShown
lane_shown lane = record { player = lane.player; is_local = lane.is_local; cells = lane.cells.items }

-- the lane of a player of whom this was heard, where these rows were shown as their frames were first run
abbrev pub lane_of : Bool → Rows → HeardWords → LaneShown
lane_of is_local firsts heard = record { player = heard.player; is_local = is_local; cells = cells_of heard firsts }

-- the lane of a player of a session
abbrev pub lane_in : Seen → Rows → HeardWords → LaneShown
lane_in s firsts heard = lane_of (of_player (λ player. player.local) s.core.players heard.player) firsts heard
