-- Viewers see settled rows.
use Rattle.std.proofs.Common.{◌≡◌, ◌∙◌, ◌≤◌, ◌⊎◌, ◌+◌, ◌-◌, ℕ, List, [], ◌∷◌, ◌++◌, length, drop, take, refl, sym, ap, subst, arith, Bool, true, false, inl, inr, append_assoc, length-append, Option, None, Some, Ok}
use Rattle.std.specs.Prelude.{All, nat_lt, not, if◌then◌else◌}
use Rattle.std.proofs.lemmas.Bool.{cases_lt, lt-ltb}
use Rattle.std.proofs.lemmas.List.Elements.{All-cons, All-nil}
use Rattle.std.proofs.lemmas.List.{length-drop, length-take, take-append-drop}
use Rattle.roll_contact.specs.Contacts.{says_hello}
use Rattle.roll_frame.specs.Cells.{Rows}
use Rattle.roll_frame.specs.Core.{Core}
use Rattle.roll_frame.specs.Events.{replay}
use Rattle.roll_frame.specs.Games.{Game}
use Rattle.roll_frame.specs.declared.entry.Entry.{Entry}
use Rattle.roll_frame.specs.declared.settings.Settings.{Settings}
use Rattle.roll_laws.specs.Sessions.{IsLog}
use Rattle.roll_session.specs.Standing.{settled_rows}
use Rattle.roll_spectate.specs.Sent.{IsFirstPart}
use Rattle.roll_wire.specs.Reading.{is_unmarked}
use Rattle.roll_wire.specs.Spelling.{Content, Fits, Greets, Leaves, Plays, Turn}
use Rattle.roll_wire.specs.declared.datagram.Clocks.{Clocks}
use Rattle.roll_wire.specs.declared.limits.TheConstants.{DATAGRAM_LIMIT}
use Rattle.roll_viewer.specs.Ends.{host_says, host_sends, ignored_by_viewer, opened_viewer, unread, with_told, Hears, HearsRows, Hosted, Viewing}
use Rattle.roll_viewer.specs.Lines.{clocks_at, greeting, message_of, opened, players_of, said, IsSealedFor}
use Rattle.roll_viewer.specs.Queued.{IsFull}
use Rattle.roll_viewer.specs.Rows.{are_rows, first_row, news_in, rows_in, AreTaken}
use Rattle.roll_viewer.specs.Seeing.{AreCalls, CanHear, ChangesLine, GivesRows, HasFirst, HearsBytes, IsCall, IsOfHost, IsOfTurn, ViewersSeeSettledRows, Watching}
use Rattle.roll_viewer.specs.Telling.{room_after, told_to, with_clocks}
use Rattle.roll_viewer.specs.declared.line.Line.{Line}
use Rattle.roll_viewer.specs.declared.refusal.LineRefusal.TheVariants.{Gap, NoRows}
use Rattle.roll_viewer.proofs.Hearing.{not_refused, turn_opened, unmarked_told}
use Rattle.roll_viewer.proofs.ReadBack.{read_back}
use Rattle.roll_viewer.proofs.Told.{first_if, many_told, more_first, part_short, told_first, told_rows}

-- ---- which play came

-- what a line sent in a turn
said_in : (host : Hosted) (core : Core) (now : ℕ) (bytes : List ℕ) → host_sends host core now ≡ Some bytes
    → bytes ≡ said host.line host.line.settings.host (host_says host core now)
said_in host core now bytes e = go host.line.ended e
  where
    go : (b : Bool) → (if b then None else Some (said host.line host.line.settings.host (host_says host core now))) ≡ Some bytes
        → bytes ≡ said host.line host.line.settings.host (host_says host core now)
    go true e = absurd (cc e)
    go false e = sym (cc e)

-- what it said as it left
said_leaving : (line : Line) (bytes : List ℕ) (b : Bool) → (if b then Some (said line line.settings.host (Leaves 0)) else None) ≡ Some bytes
    → bytes ≡ said line line.settings.host (Leaves 0)
said_leaving line bytes true e = sym (cc e)
said_leaving line bytes false e = absurd (cc e)

-- a play that a host told of its session as it was at some time
record IsTold (settings : Settings) (log : List Entry) (t : Turn) : Type 0 where
  earlier : List Entry
  later : List Entry
  parts : earlier ++ later ≡ log
  had : ℕ
  number : ℕ
  clocks : Option Clocks
  told : t ≡ with_clocks number clocks (told_to (replay settings earlier) had)

play_is : (t u : Turn) → Plays t ≡ Plays u → t ≡ u
play_is t u e = cc e

module _ (settings : Settings) (log : List Entry) (number : ℕ) (bytes : List ℕ) (line : Line) (same : number ≡ line.settings.number) (sender : ℕ) where
  -- what is read of a turn's bytes is what was said
  turn_read : (s : IsOfTurn settings log number bytes) (what : Content) → opened line sender bytes ≡ Ok what
      → what ≡ host_says s.host (replay settings s.earlier) s.now
  turn_read s what e =
      read_back s.host.line line s.host.line.settings.host sender (host_says s.host (replay settings s.earlier) s.now) what bytes
      (said_in s.host (replay settings s.earlier) s.now bytes s.sent) s.fits (s.numbered ∙ same) e

  play_read : (s : IsOfTurn settings log number bytes) (t : Turn) → opened line sender bytes ≡ Ok (Plays t) → (b : Bool)
      → says_hello s.host.line.contact ≡ b
      → Plays t ≡ (if b then greeting s.host.line else Plays (with_clocks s.host.line.contact.sent (clocks_at s.host.line (with_told s.host (replay settings s.earlier)).told s.now) (told_to (replay settings s.earlier) s.host.had)))
      → t ≡ with_clocks s.host.line.contact.sent (clocks_at s.host.line (with_told s.host (replay settings s.earlier)).told s.now) (told_to (replay settings s.earlier) s.host.had)
  play_read s t e true b is = absurd (cc is)
  play_read s t e false b is = play_is t _ is

  told_by : IsOfHost settings log number bytes → (t : Turn) → opened line sender bytes ≡ Ok (Plays t) → IsTold settings log t
  told_by (inl s) t e = record {
    earlier = s.earlier;
    later = s.later;
    parts = s.parts;
    had = s.host.had;
    number = s.host.line.contact.sent;
    clocks = clocks_at s.host.line (with_told s.host (replay settings s.earlier)).told s.now;
    told = play_read s t e (says_hello s.host.line.contact) refl (turn_read s (Plays t) e);
  }
  told_by (inr s) t e =
      let left : Plays t ≡ Leaves 0 =
      read_back s.host.line line s.host.line.settings.host sender (Leaves 0) (Plays t) bytes
      (said_leaving s.host.line bytes _ s.sent) s.fits (s.numbered ∙ same) e in
      absurd (cc left)

-- ---- what is heard has no gap

heard_from : (viewer : Viewing) (t : Turn) → unread viewer t ≡ None → first_row t ≤ viewer.rows.count
heard_from viewer t e = go (not (are_rows (players_of viewer.line.settings) t)) e
  where
    gap : (b : Bool) → nat_lt viewer.rows.count (first_row t) ≡ b → (if b then Some Gap else None) ≡ None → first_row t ≤ viewer.rows.count
    gap true l e = absurd (cc e)
    gap false l e = elim (cases_lt viewer.rows.count (first_row t)) [
      | inl past ↦ (let is : true ≡ false = sym (lt-ltb viewer.rows.count (first_row t) past) ∙ l in absurd (cc is))
      | inr low ↦ low
    ]

    go : (b : Bool) → (if b then Some NoRows else (if nat_lt viewer.rows.count (first_row t) then Some Gap else None)) ≡ None → first_row t ≤ viewer.rows.count
    go true e = absurd (cc e)
    go false e = gap (nat_lt viewer.rows.count (first_row t)) refl e

-- ---- call after call

module _ (settings : Settings) (game : Game) (log : List Entry) (l : IsLog settings game log) where
  abbrev rows_now : Rows
  rows_now = settled_rows (replay settings log)

  record Holds (w : Watching) : Type 0 where
    told : players_of w.viewer.line.settings ≡ settings.players
    first : IsFirstPart (w.seen ++ w.viewer.rows.waiting) rows_now
    all : length (w.seen ++ w.viewer.rows.waiting) ≡ w.viewer.rows.count

  has : (w : Watching) → Holds w → HasFirst rows_now w
  has w h = record {
    few = omega (arith, h.all, part_short (w.seen ++ w.viewer.rows.waiting) rows_now h.first);
    first = h.first ∙ ap (λ n. take n rows_now) h.all;
  }

  -- no row came or went
  stays : (old new : Watching) → Holds old → new.viewer.line.settings ≡ old.viewer.line.settings → new.viewer.rows ≡ old.viewer.rows
      → new.seen ≡ old.seen → Holds new
  stays old new h line rows seen =
      let same : new.seen ++ new.viewer.rows.waiting ≡ old.seen ++ old.viewer.rows.waiting =
      ap (λ (s : Rows). s ++ new.viewer.rows.waiting) seen ∙ ap (λ q. old.seen ++ q.waiting) rows in
      record {
        told = ap players_of line ∙ h.told;
        first = subst (λ (r : Rows). IsFirstPart r rows_now) (sym same) h.first;
        all = ap (λ (r : Rows). length r) same ∙ h.all ∙ ap (λ q. q.count) (sym rows);
      }

  -- rows of a play came
  comes : (old new : Watching) → Holds old → (t : Turn) → IsTold settings log t → first_row t ≤ old.viewer.rows.count
      → (now count : ℕ) → HearsRows old.viewer new.viewer now t count → new.seen ≡ old.seen → Holds new
  comes old new h t told reach now count heard seen =
      let before : Rows = old.seen ++ old.viewer.rows.waiting in
      let news : Rows = news_in settings.players t old.viewer.rows.count in
      let r : AreTaken settings.players t old.viewer.rows new.viewer.rows count =
      subst (λ n. AreTaken n t old.viewer.rows new.viewer.rows count) h.told heard.rows in
      let now_is : new.seen ++ new.viewer.rows.waiting ≡ before ++ take count news =
      ap (λ (s : Rows). s ++ new.viewer.rows.waiting) seen ∙ ap (λ (w : Rows). old.seen ++ w) r.waiting
      ∙ sym (append_assoc old.seen old.viewer.rows.waiting (take count news)) in
      let grown : IsFirstPart (before ++ take count (drop (length before - first_row t) (rows_in settings.players t))) rows_now =
      subst (λ (u : Turn). IsFirstPart (before ++ take count (drop (length before - first_row u) (rows_in settings.players u))) rows_now)
      (sym told.told)
      (more_first settings game log told.earlier told.later told.parts l told.had before count
      (omega (arith, ap first_row told.told, reach, h.all)) h.first) in
      let first : IsFirstPart (new.seen ++ new.viewer.rows.waiting) rows_now =
      subst (λ (r : Rows). IsFirstPart r rows_now) (sym now_is)
      (subst (λ (n : ℕ). IsFirstPart (before ++ take count (drop (n - first_row t) (rows_in settings.players t))) rows_now) h.all grown) in
      let all : length (new.seen ++ new.viewer.rows.waiting) ≡ new.viewer.rows.count =
      omega (
        arith,
        ap (λ (r : Rows). length r) now_is,
        length-append before (take count news),
        length-take count news,
        r.few,
        r.counted,
        h.all,
      ) in
      record {
        told = ap (λ (line : Line). players_of line.settings) heard.line ∙ h.told;
        first = first;
        all = all;
      }

  hears : (old new : Watching) → Holds old → HearsBytes settings log old new → Holds new
  hears old new h c = go c.heard.what c.heard.is_opened c.heard.is_sealed c.heard.hears
    where
      go : (what : Content) → opened old.viewer.line old.viewer.line.settings.host c.bytes ≡ Ok what
          → IsSealedFor old.viewer.line c.bytes what → Hears old.viewer new.viewer c.now what c.count → Holds new
      go (Greets hello) e sealed heard =
          stays old new h (ap (λ (v : Viewing). v.line.settings) heard.0) (ap (λ (v : Viewing). v.rows) heard.0) c.seen
      go (Plays t) e sealed heard =
          let accepted : unread old.viewer t ≡ None = ap (ignored_by_viewer old.viewer) (sym e) ∙ c.accepted in
          let told = told_by settings log old.viewer.line.settings.number c.bytes old.viewer.line refl old.viewer.line.settings.host (c.of_host sealed.1) t e in
          comes old new h t told (heard_from old.viewer t accepted) c.now c.count heard c.seen
      go (Leaves why) e sealed heard =
          stays old new h (ap (λ (v : Viewing). v.line.settings) heard.0) (ap (λ (v : Viewing). v.rows) heard.0) c.seen

  gives : (old new : Watching) → Holds old → GivesRows old new → Holds new
  gives old new h c =
      let waiting : Rows = old.viewer.rows.waiting in
      let same : new.seen ++ new.viewer.rows.waiting ≡ old.seen ++ waiting =
      ap (λ (s : Rows). s ++ new.viewer.rows.waiting) c.seen
      ∙ ap (λ (v : Viewing). (old.seen ++ take c.count waiting) ++ v.rows.waiting) c.rest
      ∙ append_assoc old.seen (take c.count waiting) (drop c.count waiting)
      ∙ ap (λ (w : Rows). old.seen ++ w) (take-append-drop c.count waiting) in
      let count : new.viewer.rows.count ≡ old.viewer.rows.count = ap (λ (v : Viewing). v.rows.count) c.rest in
      record {
        told = ap (λ (v : Viewing). players_of v.line.settings) c.rest ∙ h.told;
        first = subst (λ (r : Rows). IsFirstPart r rows_now) (sym same) h.first;
        all = ap (λ (r : Rows). length r) same ∙ h.all ∙ sym count;
      }

  changes : (old new : Watching) → Holds old → ChangesLine old new → Holds new
  changes old new h c =
      stays old new h (ap (λ (w : Watching). w.viewer.line.settings) c.rest ∙ c.told) (ap (λ (w : Watching). w.viewer.rows) c.rest)
      (ap (λ (w : Watching). w.seen) c.rest)

  called : (old new : Watching) → Holds old → IsCall settings log old new → Holds new
  called old new h (inl c) = hears old new h c
  called old new h (inr (inl c)) = gives old new h c
  called old new h (inr (inr c)) = changes old new h c

  all_called : (old : Watching) (later : List Watching) → Holds old → AreCalls settings log old later → All (HasFirst rows_now) later
  all_called old [] h c = All-nil (HasFirst rows_now)
  all_called old (new ∷ later) h c =
      let now : Holds new = called old new h c.0 in
      All-cons (HasFirst rows_now) new later (has new now) (all_called new later now c.1)

  -- ---- what a play brings

  brings : (old new : Watching) (h : HearsBytes settings log old new) (s : IsOfTurn settings log old.viewer.line.settings.number h.bytes)
      → players_of old.viewer.line.settings ≡ settings.players → says_hello s.host.line.contact ≡ false
      → 1 ≤ room_after (replay settings s.earlier) s.host.had
      → (s.host.had + room_after (replay settings s.earlier) s.host.had ≤ new.viewer.rows.count) ⊎ IsFull new.viewer.rows
  brings old new h s players playing some = go h.heard.what h.heard.is_opened h.heard.hears
    where
      core : Core
      core = replay settings s.earlier

      clocks : Option Clocks
      clocks = clocks_at s.host.line (with_told s.host core).told s.now

      reads : (what : Content) → opened old.viewer.line old.viewer.line.settings.host h.bytes ≡ Ok what
          → what ≡ Plays (with_clocks s.host.line.contact.sent clocks (told_to core s.host.had))
      reads what e =
          turn_read settings log old.viewer.line.settings.number h.bytes old.viewer.line refl old.viewer.line.settings.host s what e
          ∙ ap (λ (b : Bool). if b then greeting s.host.line else Plays (with_clocks s.host.line.contact.sent clocks (told_to core s.host.had))) playing

      go : (what : Content) → opened old.viewer.line old.viewer.line.settings.host h.bytes ≡ Ok what
          → Hears old.viewer new.viewer h.now what h.count
          → (s.host.had + room_after core s.host.had ≤ new.viewer.rows.count) ⊎ IsFull new.viewer.rows
      go (Greets hello) e heard = (let is = reads (Greets hello) e in absurd (cc is))
      go (Leaves why) e heard = (let is = reads (Leaves why) e in absurd (cc is))
      go (Plays t) e heard =
          let told : t ≡ with_clocks s.host.line.contact.sent clocks (told_to core s.host.had) = play_is t _ (reads (Plays t) e) in
          let accepted : unread old.viewer t ≡ None = ap (ignored_by_viewer old.viewer) (sym e) ∙ h.accepted in
          let reach : first_row t ≤ old.viewer.rows.count = heard_from old.viewer t accepted in
          let first : first_row t ≡ s.host.had =
          ap first_row told ∙ first_if settings game log s.earlier s.later s.parts l s.host.had some in
          let many : length (rows_in settings.players t) ≡ room_after core s.host.had =
          ap (λ (u : Turn). length (rows_in settings.players u)) told ∙ many_told settings game log s.earlier s.later s.parts l s.host.had in
          let r : AreTaken settings.players t old.viewer.rows new.viewer.rows h.count =
          subst (λ n. AreTaken n t old.viewer.rows new.viewer.rows h.count) players heard.rows in
          elim r.all [
            | inl all ↦ inl (omega (arith, all, many, first, reach, r.counted, length-drop (old.viewer.rows.count - first_row t) (rows_in settings.players t)))
            | inr full ↦ inr full
          ]

  -- ---- what is heard

  all_heard : (viewer : Viewing) (bytes : List ℕ) (s : IsOfTurn settings log viewer.line.settings.number bytes)
      → players_of viewer.line.settings ≡ settings.players → CanHear s.host.line viewer.line → says_hello s.host.line.contact ≡ false
      → length bytes ≤ DATAGRAM_LIMIT → s.host.had ≤ viewer.rows.count
      → ignored_by_viewer viewer (opened viewer.line viewer.line.settings.host bytes) ≡ None
  all_heard viewer bytes s players can playing most low =
      let core : Core = replay settings s.earlier in
      let clocks : Option Clocks = clocks_at s.host.line (with_told s.host core).told s.now in
      let t : Turn = with_clocks s.host.line.contact.sent clocks (told_to core s.host.had) in
      let says : host_says s.host core s.now ≡ Plays t =
      ap (λ (b : Bool). if b then greeting s.host.line else Plays t) playing in
      let is : bytes ≡ said s.host.line s.host.line.settings.host (Plays t) =
      said_in s.host core s.now bytes s.sent ∙ ap (said s.host.line s.host.line.settings.host) says in
      let fits : Fits (message_of s.host.line s.host.line.settings.host (Plays t)) =
      subst (λ (what : Content). Fits (message_of s.host.line s.host.line.settings.host what)) says s.fits in
      let none : is_unmarked (Plays t) ≡ true = unmarked_told core s.host.had s.host.line.contact.sent clocks in
      let are : are_rows (players_of viewer.line.settings) t ≡ true =
      ap (λ (n : ℕ). are_rows n t) players ∙ told_rows settings game log s.earlier s.later s.parts l s.host.had in
      ap (ignored_by_viewer viewer) (turn_opened s.host.line viewer.line t bytes can is fits most none)
      ∙ not_refused viewer t are (told_first settings game log s.earlier s.later s.parts l s.host.had viewer.rows.count low)

-- ---- the law

pub viewers_see_settled_rows : ViewersSeeSettledRows
viewers_see_settled_rows = record {
  first = λ settings game log told later l players calls.
      all_called settings game log l (record { viewer = opened_viewer told; seen = [] }) later
      (record { told = players; first = refl; all = refl }) calls;
  come = λ settings game log old new h s l players playing some. brings settings game log l old new h s players playing some;
  heard = λ settings game log viewer bytes s l players can playing most low. all_heard settings game log l viewer bytes s players can playing most low;
}
