-- What a call of a line at its host comes to.
use Rattle.std.specs.Prelude.{◌≡◌, ◌⊎◌, ℕ, ℤ, pos, List, Option, Some, None, option_and_then, IfNone, IfSome, MatchOption, if◌then◌else◌}
use Rattle.roll_frame.specs.Core.{Core}
use Rattle.roll_contact.specs.Contacts.{is_playing}
use Rattle.roll_session.specs.Gameless.{Bare}
use Rattle.roll_chain.specs.declared.past.Past.{Past}
use Rattle.roll_viewer.specs.Ends.{Hosted, host_sends, host_told, ignored_by_host, opened_host, HostHears}
use Rattle.roll_viewer.specs.Lines.{after_bye, after_refusal, farewell, fault_of, is_silent, opened as what_is_in, silence}
use Rattle.roll_viewer.specs.Seeing.{TellsRows}
use Rattle.roll_viewer.specs.declared.line.Line.{Line}
use Rattle.roll_viewer.specs.declared.refusal.LineFault.{LineFault}
use Rattle.roll_viewer.specs.declared.refusal.LineRefusal.{LineRefusal}
use Rattle.roll_viewer.specs.declared.settings.LineSettings.{LineSettings}
use Rattle.fazgrond_c.specs.Handles.{IsNothing}
use Rattle.fazgrond_c.specs.LineKinds.{code_of_fault, code_of_line, AreTold, HasNoRoom}
use Rattle.fazgrond_c.specs.Peers.{code_unless}
use Rattle.fazgrond_c.specs.Written.{AreWritten}
use Rattle.fazgrond_c.specs.declared.line_kinds.LineIn.{LineIn}
use Rattle.fazgrond_c.specs.declared.line_kinds.LineState.{LineState}
use Rattle.fazgrond_c.specs.declared.network.Network.{Network}

-- whom a viewer names as the sender: no machine of a match has this number
abbrev pub VIEWER : ℕ
VIEWER = 255

-- ---- opening

-- there is no such line
pub record IsFaulty (given : LineIn) (code : ℤ) : Type 0 where
  pub settings : LineSettings
  pub are_told : AreTold given settings
  pub fault : LineFault
  pub why : fault_of settings ≡ Some fault
  pub code_is : code ≡ pos (code_of_fault fault)

-- why no end is opened: a number has no room where it belongs, or there is no such line, or memory ran out
abbrev pub IsWhyClosed : LineIn → ℤ → Type 0
IsWhyClosed given code =
    ((code ≡ pos 11) × HasNoRoom given) ⊎ (IsFaulty given code ⊎ (code ≡ pos 107))

-- a host that has heard nothing of its viewer
pub record IsOpened (given : LineIn) (host : Hosted) : Type 0 where
  pub settings : LineSettings
  pub are_told : AreTold given settings
  pub accepted : fault_of settings ≡ None
  pub opened : host ≡ opened_host settings

-- ---- hearing and sending

-- bytes of the viewer are heard, or they aren't, and what a refusal changes is changed alone
pub record HostHearsBytes (bytes : List ℕ) (now : ℕ) (old new : Hosted) (code : ℤ)
    : Type 0 where
  pub why : Option LineRefusal
  pub why_is : ignored_by_host old (what_is_in old.line VIEWER bytes) ≡ why
  pub heard : IfNone why (HostHears old new bytes now)
  pub refused : IfSome why
      (λ why. new ≡ record old {
        line = after_refusal old.line now why (what_is_in old.line VIEWER bytes);
      })
  pub code_is : code ≡ code_unless code_of_line why

-- what is sent in a turn of a session is written, and told from now on: a hello, or settled rows of the session
pub record IsTelling (core : Core) (now : ℕ) (old new : Hosted) (before after : List ℕ) (had size : ℕ)
    (code : ℤ) : Type 0 where
  pub bytes : Option (List ℕ)
  pub sent : bytes ≡ host_sends old core now
  pub told : new ≡ host_told old core now
  pub rows : TellsRows core old.had
  pub written : AreWritten bytes before after had size code

-- the same of settled rows of the epoch before, as long as that is kept
abbrev pub past_in : Network → Option (Past (Bare ℕ))
past_in network = option_and_then (λ e. e.past) network.epochs

abbrev pub IsTellingBefore : Network → (now : ℕ) → (old new : Hosted) → (before after : List ℕ) → (had size : ℕ) → ℤ → Type 0
IsTellingBefore network now old new before after had size code = MatchOption (past_in network)
    (IsNothing 203 old new before after had size code)
    (λ past. IsTelling past.session.seen.core now old new before after had size code)

-- the bytes by which the host says that it leaves are written, if the viewer's draw is believed, and the line has ended
pub record IsHostsBye (old new : Hosted) (before after : List ℕ) (had size : ℕ) (code : ℤ)
    : Type 0 where
  pub ended : new ≡ record old { line = after_bye old.line }
  pub written : AreWritten (farewell old.line old.line.settings.host) before after had
      size code

-- ---- what is read

-- how far the ends of a line are
abbrev pub state_of : Line → (rows settled now : ℕ) → LineState
state_of line rows settled now = record {
  rows = rows;
  settled = settled;
  silence = silence line now;
  is_playing = if is_playing line.contact.stage then 1 else 0;
  has_ended = if line.ended then 1 else 0;
  is_silent = if is_silent line now then 1 else 0;
}

abbrev pub host_state : ℕ → Hosted → LineState
host_state now host = state_of host.line host.had host.told now
