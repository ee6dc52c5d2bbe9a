-- Viewers see settled rows, whatever the network does: from the bytes that a host's line sends to the rows that a viewer has.
use Rattle.std.specs.Prelude.{◌≡◌, ◌⊎◌, ◌≤◌, ℕ, ◌+◌, List, [], ◌∷◌, ◌++◌, length, drop, take, true, false, All, ⊤, Some, None, ◌==◌, if◌then◌else◌}
use Rattle.roll_contact.specs.Contacts.{is_playing, says_hello}
use Rattle.roll_contact.specs.Seals.{IsSealed}
use Rattle.roll_frame.specs.Cells.{Rows}
use Rattle.roll_frame.specs.Core.{Core}
use Rattle.roll_frame.specs.Events.{replay}
use Rattle.roll_frame.specs.Games.{Game}
use Rattle.roll_frame.specs.declared.entry.Entry.{Entry}
use Rattle.roll_frame.specs.declared.settings.Settings.{Settings}
use Rattle.roll_laws.specs.Sessions.{IsLog}
use Rattle.roll_session.specs.Standing.{settled_rows}
use Rattle.roll_wire.specs.Spelling.{Fits, Leaves}
use Rattle.roll_wire.specs.declared.limits.TheConstants.{DATAGRAM_LIMIT}
use Rattle.roll_viewer.specs.Ends.{host_message, host_sends, ignored_by_viewer, opened_viewer, Hosted, ViewerHears, Viewing}
use Rattle.roll_viewer.specs.Lines.{farewell, key_of_both, message_of, opened, own_key, players_of}
use Rattle.roll_viewer.specs.Queued.{with_taken, IsFull}
use Rattle.roll_viewer.specs.Rows.{are_rows, first_row, rows_in}
use Rattle.roll_viewer.specs.Telling.{room_after, told_to}
use Rattle.roll_viewer.specs.declared.line.Line.{Line}
use Rattle.roll_viewer.specs.declared.settings.LineSettings.{LineSettings}

-- what a host tells a viewer who has so many rows is its settled rows from there on, as many as there is room for: a viewer of
-- a match of as many players reads them so. The first row is said if there is one
pub record TellsRows (core : Core) (had : ℕ) : Type 0 where
  pub are_rows : are_rows (length core.players) (told_to core had) ≡ true
  pub first : first_row (told_to core had) ≡ (if room_after core had == 0 then 0 else had)
  pub rows : rows_in (length core.players) (told_to core had)
      ≡ take (room_after core had) (drop had (settled_rows core))

-- ---- what comes of a host

-- bytes that a line of this number sent in some turn of a match: the session's log was a first part of this one then, and nothing
-- is said of what the line knew
pub record IsOfTurn (settings : Settings) (log : List Entry) (number : ℕ) (bytes : List ℕ) : Type 0 where
  pub earlier : List Entry
  pub later : List Entry
  pub parts : earlier ++ later ≡ log
  pub host : Hosted
  pub now : ℕ
  pub sent : host_sends host (replay settings earlier) now ≡ Some bytes
  pub fits : Fits (host_message host (replay settings earlier) now)
  pub numbered : host.line.settings.number ≡ number

-- or as its machine left
pub record IsOfLeaving (number : ℕ) (bytes : List ℕ) : Type 0 where
  pub host : Hosted
  pub sent : farewell host.line host.line.settings.host ≡ Some bytes
  pub fits : Fits (message_of host.line host.line.settings.host (Leaves 0))
  pub numbered : host.line.settings.number ≡ number

abbrev pub IsOfHost : Settings → List Entry → (number : ℕ) → List ℕ → Type 0
IsOfHost settings log number bytes = IsOfTurn settings log number bytes ⊎ IsOfLeaving number bytes

-- ---- what a viewer does

-- a viewer, and the rows that were taken of it
pub record Watching : Type 0 where
  pub viewer : Viewing
  pub seen : Rows

-- it hears bytes, whoever sent them: but what is sealed by the draws of both ends is its host's, sent at some time, and perhaps it
-- came before
pub record HearsBytes (settings : Settings) (log : List Entry) (old new : Watching) : Type 0 where
  pub bytes : List ℕ
  pub now : ℕ
  pub count : ℕ
  pub of_host : IsSealed (key_of_both old.viewer.line) bytes
      → IsOfHost settings log old.viewer.line.settings.number bytes
  pub accepted : ignored_by_viewer old.viewer
      (opened old.viewer.line old.viewer.line.settings.host bytes) ≡ None
  pub heard : ViewerHears old.viewer new.viewer bytes now count
  pub seen : new.seen ≡ old.seen

-- so many rows are taken, from the first on that waits
pub record GivesRows (old new : Watching) : Type 0 where
  pub count : ℕ
  pub rest : new.viewer ≡ record old.viewer { rows = with_taken count old.viewer.rows }
  pub seen : new.seen ≡ old.seen ++ take count old.viewer.rows.waiting

-- it refuses bytes, sends its own, or leaves: no row comes or goes
pub record ChangesLine (old new : Watching) : Type 0 where
  pub line : Line
  pub told : line.settings ≡ old.viewer.line.settings
  pub rest : new ≡ record old { viewer = record old.viewer { line = line } }

abbrev pub IsCall : Settings → List Entry → (old new : Watching) → Type 0
IsCall settings log old new =
    HearsBytes settings log old new ⊎ (GivesRows old new ⊎ ChangesLine old new)

-- call after call
abbrev pub AreCalls : Settings → List Entry → Watching → List Watching → Type 0
AreCalls settings log old [] = ⊤
AreCalls settings log old (new ∷ later) =
    IsCall settings log old new × AreCalls settings log new later

-- ---- the law

-- the two ends have opened one line, believe each other's draws, and neither has said bye
pub record CanHear (host viewer : Line) : Type 0 where
  pub going_on : viewer.ended ≡ false
  pub playing : is_playing viewer.contact.stage ≡ true
  pub keys : own_key host ≡ key_of_both viewer
  pub named : host.settings.host ≡ viewer.settings.host

-- the rows that the viewer has had are the first of these, in order and each once: as many as it says that came
pub record HasFirst (settled : Rows) (w : Watching) : Type 0 where
  pub few : w.viewer.rows.count ≤ length settled
  pub first : w.seen ++ w.viewer.rows.waiting ≡ take w.viewer.rows.count settled

-- whichever bytes of a host come to a viewer, in whichever order and however often: the rows that it has had are the host's first
-- settled rows. Once it has heard a play, it has had all rows up to those that the play tells, unless no more may wait. And it does
-- hear each play of a host that believes it to have no more rows than it has
pub record ViewersSeeSettledRows : Type 0 where
  pub first : (settings : Settings) (game : Game) (log : List Entry) (told : LineSettings)
      (later : List Watching) → IsLog settings game log → players_of told ≡ settings.players
      → AreCalls settings log (record { viewer = opened_viewer told; seen = [] }) later
      → All (HasFirst (settled_rows (replay settings log))) later
  pub come : (settings : Settings) (game : Game) (log : List Entry) (old new : Watching)
      (h : HearsBytes settings log old new) (t : IsOfTurn settings log old.viewer.line.settings.number h.bytes)
      → IsLog settings game log → players_of old.viewer.line.settings ≡ settings.players
      → says_hello t.host.line.contact ≡ false
      → 1 ≤ room_after (replay settings t.earlier) t.host.had
      → (t.host.had + room_after (replay settings t.earlier) t.host.had ≤ new.viewer.rows.count)
      ⊎ IsFull new.viewer.rows
  pub heard : (settings : Settings) (game : Game) (log : List Entry) (viewer : Viewing) (bytes : List ℕ)
      (t : IsOfTurn settings log viewer.line.settings.number bytes)
      → IsLog settings game log → players_of viewer.line.settings ≡ settings.players
      → CanHear t.host.line viewer.line → says_hello t.host.line.contact ≡ false
      → length bytes ≤ DATAGRAM_LIMIT → t.host.had ≤ viewer.rows.count
      → ignored_by_viewer viewer (opened viewer.line viewer.line.settings.host bytes) ≡ None
