-- The two ends of a viewer's line, and what each makes of what it hears.
use Rattle.std.specs.Prelude.{◌≡◌, ℕ, ◌+◌, List, [], max, replicate, take, false, not, nat_lt, Option, Some, None, Result, Ok, Err, if◌then◌else◌}
use Rattle.roll_contact.specs.Contacts.{says_hello}
use Rattle.roll_frame.specs.Core.{Core}
use Rattle.roll_mesh.specs.Machines.{none_offered}
use Rattle.roll_mesh.specs.declared.limits.TheConstants.{MACHINE_LIMIT, PLAYER_LIMIT}
use Rattle.roll_wire.specs.Spelling.{Content, Greets, Leaves, Message, Plays, Turn}
use Rattle.roll_wire.specs.declared.datagram.Clocks.{Clocks}
use Rattle.roll_viewer.specs.Lines.{after_bye, after_hello, after_play, clocks_at, greeting, hello_said, message_of, mismatched, opened, opened_line, play_said, players_of, said, turn_said, IsSealedFor}
use Rattle.roll_viewer.specs.Queued.{Queued}
use Rattle.roll_viewer.specs.Rows.{are_rows, first_row, is_inside, least_with, most_of, AreTaken}
use Rattle.roll_viewer.specs.Telling.{padded, room_after, told_to, with_clocks}
use Rattle.roll_viewer.specs.declared.line.Line.{Line}
use Rattle.roll_viewer.specs.declared.line.TheConstants.{VIEWER}
use Rattle.roll_viewer.specs.declared.refusal.LineRefusal.{LineRefusal}
use Rattle.roll_viewer.specs.declared.refusal.LineRefusal.TheVariants.{Gap, NoRows}
use Rattle.roll_viewer.specs.declared.settings.LineSettings.{LineSettings}

-- ---- the host's end

-- how many rows the viewer has said that it has, and how many it was told
pub record Hosted : Type 0 where
  pub line : Line
  pub had : ℕ
  pub told : ℕ

abbrev pub opened_host : LineSettings → Hosted
opened_host settings = record { line = opened_line settings; had = 0; told = 0 }

-- how many rows the viewer has once it says that it has so many of each player: never more than it was told
abbrev pub after_ack : Hosted → List ℕ → ℕ
after_ack host has =
    max host.had (least_with host.told (take (players_of host.line.settings) has))

-- why what came isn't heard
abbrev pub unheard_by_host : Hosted → Content → Option LineRefusal
unheard_by_host host (Greets hello) = mismatched host.line hello
unheard_by_host host (Plays t) =
    if is_inside (players_of host.line.settings) t then None else Some NoRows
unheard_by_host host (Leaves why) = None

abbrev pub ignored_by_host : Hosted → Result Content LineRefusal → Option LineRefusal
ignored_by_host host (Err why) = Some why
ignored_by_host host (Ok what) = unheard_by_host host what

abbrev pub host_after : Hosted → ℕ → Content → Hosted
host_after host now (Greets hello) = record host { line = after_hello host.line hello now }
host_after host now (Plays t) = record host {
  line = after_play host.line t.head host.told now;
  had = after_ack host t.head.view.has;
}
host_after host now (Leaves why) = record host { line = after_bye host.line }

-- the host hears bytes
pub record HostHears (old new : Hosted) (bytes : List ℕ) (now : ℕ) : Type 0 where
  pub what : Content
  pub is_opened : opened old.line VIEWER bytes ≡ Ok what
  pub is_sealed : IsSealedFor old.line bytes what
  pub new_is : new ≡ host_after old now what

-- the rows up to there were told
abbrev pub with_told : Hosted → Core → Hosted
with_told host core = record host { told = max host.told (host.had + room_after core host.had) }

-- what the host says in a turn of a session: a hello, or its next rows
abbrev pub host_says : Hosted → Core → (now : ℕ) → Content
host_says host core now =
    if says_hello host.line.contact then greeting host.line
    else Plays (with_clocks host.line.contact.sent (clocks_at host.line (with_told host core).told now)
    (told_to core host.had))

-- as a datagram
abbrev pub host_message : Hosted → Core → (now : ℕ) → Message
host_message host core now =
    message_of host.line host.line.settings.host (host_says host core now)

-- and sends: nothing once the line has ended
abbrev pub host_sends : Hosted → Core → (now : ℕ) → Option (List ℕ)
host_sends host core now =
    if host.line.ended then None
    else Some (said host.line host.line.settings.host (host_says host core now))

abbrev pub host_told : Hosted → Core → (now : ℕ) → Hosted
host_told host core now =
    if host.line.ended then host
    else (if says_hello host.line.contact then record host { line = hello_said host.line now }
    else record (with_told host core) { line = play_said host.line now })

-- ---- the viewer's end

-- the rows that came, and how many rows the host has said that it has
pub record Viewing : Type 0 where
  pub line : Line
  pub rows : Queued
  pub settled : ℕ

abbrev pub opened_viewer : LineSettings → Viewing
opened_viewer settings = record {
  line = opened_line settings;
  rows = record { count = 0; waiting = [] };
  settled = 0;
}

-- why a play's rows aren't taken
abbrev pub unread : Viewing → Turn → Option LineRefusal
unread viewer t =
    if not (are_rows (players_of viewer.line.settings) t) then Some NoRows
    else (if nat_lt viewer.rows.count (first_row t) then Some Gap else None)

-- why what came isn't heard
abbrev pub unheard_by_viewer : Viewing → Content → Option LineRefusal
unheard_by_viewer viewer (Greets hello) = mismatched viewer.line hello
unheard_by_viewer viewer (Plays t) = unread viewer t
unheard_by_viewer viewer (Leaves why) = None

abbrev pub ignored_by_viewer : Viewing → Result Content LineRefusal → Option LineRefusal
ignored_by_viewer viewer (Err why) = Some why
ignored_by_viewer viewer (Ok what) = unheard_by_viewer viewer what

-- a play is heard, and its rows are taken in
pub record HearsRows (old new : Viewing) (now : ℕ) (t : Turn) (count : ℕ) : Type 0 where
  pub line : new.line ≡ after_play old.line t.head old.rows.count now
  pub settled : new.settled ≡ max old.settled (most_of t.head.view.has)
  pub rows : AreTaken (players_of old.line.settings) t old.rows new.rows count

abbrev pub Hears : (old new : Viewing) → ℕ → Content → (count : ℕ) → Type 0
Hears old new now (Greets hello) count =
    (new ≡ record old { line = after_hello old.line hello now }) × (count ≡ 0)
Hears old new now (Plays t) count = HearsRows old new now t count
Hears old new now (Leaves why) count = (new ≡ record old { line = after_bye old.line }) × (count ≡ 0)

-- the viewer hears bytes
pub record ViewerHears (old new : Viewing) (bytes : List ℕ) (now count : ℕ) : Type 0 where
  pub what : Content
  pub is_opened : opened old.line old.line.settings.host bytes ≡ Ok what
  pub is_sealed : IsSealedFor old.line bytes what
  pub hears : Hears old new now what count

-- a viewer of a match of so many players says how many rows it has
abbrev pub acknowledged : (players rows number : ℕ) → Option Clocks → Turn
acknowledged players rows number clocks = record {
  head = record {
    number = number;
    clocks = clocks;
    view = record {
      gone = replicate MACHINE_LIMIT false;
      has = padded 0 (replicate players rows);
    };
    settled = None;
    offers = replicate PLAYER_LIMIT none_offered;
  };
  marks = replicate PLAYER_LIMIT None;
  words = [];
}

-- what the viewer says in a turn: a hello, or how many rows it has
abbrev pub viewer_says : Viewing → (now : ℕ) → Content
viewer_says viewer now =
    let rows = viewer.rows.count in
    if says_hello viewer.line.contact then greeting viewer.line
    else Plays (acknowledged (players_of viewer.line.settings) rows viewer.line.contact.sent
    (clocks_at viewer.line rows now))

-- and sends: nothing once the line has ended
abbrev pub viewer_sends : Viewing → (now : ℕ) → Option (List ℕ)
viewer_sends viewer now =
    if viewer.line.ended then None
    else Some (said viewer.line VIEWER (viewer_says viewer now))

abbrev pub viewer_told : Viewing → (now : ℕ) → Viewing
viewer_told viewer now = record viewer { line = turn_said viewer.line now }
