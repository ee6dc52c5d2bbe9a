-- What a call through a handle comes to.
use Rattle.std.specs.Prelude.{◌≡◌, ◌≢◌, ◌⊎◌, ◌≤◌, ◌<◌, ℕ, ℤ, List, [], ◌∷◌, ◌++◌, drop, length, map, max, min, take, nat_lt, IsSomeAnd, if◌then◌else◌, pos, Result, Ok, Err, IfOk, IfErr, OnOk, Option, Some, None, IfSome, unwrap_or}
use Rattle.roll_frame.specs.Advice.{noted}
use Rattle.roll_frame.specs.Codes.{code_of}
use Rattle.roll_frame.specs.Core.{Core, settled}
use Rattle.roll_frame.specs.Settings.{start_refusal}
use Rattle.roll_frame.specs.Timeline.{row_at}
use Rattle.roll_frame.specs.declared.row.Cell.{Cell}
use Rattle.roll_frame.specs.declared.claim.Claim.{Claim}
use Rattle.roll_frame.specs.declared.refusal.Refusal.{Refusal}
use Rattle.roll_frame.specs.declared.reply.Reply.{Reply}
use Rattle.roll_frame.specs.declared.reply.Reply.TheVariants.{Repeated, Synchronized, Taken, Reached}
use Rattle.roll_cert.specs.Texts.{claim_lines}
use Rattle.roll_frame.specs.declared.settings.Settings.{Settings}
use Rattle.roll_game.specs.Counts.{no_calls}
use Rattle.roll_requests.specs.Asked.{Asked, IsSettledSlot, Leads}
use Rattle.roll_requests.specs.Declined.{refusal_of}
use Rattle.roll_requests.specs.Made.{IsMade as IsMadeOf, IsNotMade as IsNotMadeOf, KeepsLeading}
use Rattle.roll_requests.specs.declared.declined.Declined.{Declined}
use Rattle.roll_requests.specs.declared.limits.TheConstants.{SLOTS}
use Rattle.roll_requests.specs.declared.request.Request.{Request}
use Rattle.roll_session.specs.Changes.{reserve_refusal, FitsLog, IsWhy}
use Rattle.roll_session.specs.Headline.{last_claim}
use Rattle.roll_session.specs.Started.{first_seen}
use Rattle.roll_session.specs.declared.event.Call.{Call}
use Rattle.roll_session.specs.declared.event.Call.TheVariants.{Sync, Advance}
use Rattle.roll_text.specs.Lines.{text_of}
use Rattle.fazgrond_c.specs.Handles.{session_in}
use Rattle.fazgrond_c.specs.Kinds.{request_out, row_out, AreGiven, HaveNoRoom}
use Rattle.fazgrond_c.specs.declared.kinds.ReachedOut.{ReachedOut}
use Rattle.fazgrond_c.specs.declared.kinds.RequestOut.{RequestOut}
use Rattle.fazgrond_c.specs.declared.kinds.RowOut.{RowOut}
use Rattle.fazgrond_c.specs.declared.kinds.SettingsIn.{SettingsIn}
use Rattle.fazgrond_c.specs.declared.kinds.TheConstants.{SETTINGS_SIZE}
use Rattle.fazgrond_c.specs.declared.live.Live.{Live}
use Rattle.fazgrond_c.specs.declared.open.Open.{Open}
use Rattle.fazgrond_c.specs.declared.open.Open.TheVariants.{Session}

-- the last requests of the epoch before that are still to be taken
abbrev pub closing_in : Live → List Request
closing_in live = unwrap_or live.closing []

-- all requests that are still to be taken
abbrev pub asked : Live → List Request
asked live = closing_in live ++ live.session.requests

-- a call that rolls waits until all requests were taken
abbrev pub IsPending : Live → Call → Type 0
IsPending live Sync = asked live ≢ []
IsPending live Advance = asked live ≢ []
IsPending live call = ⊥

-- the session of an open handle answers a call by the rules
pub record IsMade (old new : Option Open) (call : Call) (said : Reply) : Type 0 where
  pub before : Live
  pub after : Live
  pub was : old ≡ Some (Session before)
  pub is : new ≡ Some (Session after)
  pub taken : ¬ IsPending before call
  pub made : IsMadeOf before.session after.session call said
  pub leads : KeepsLeading before.session after.session
  pub advice : after.advice ≡ before.advice
  pub closing : after.closing ≡ before.closing
  pub first_job : after.first_job ≡ before.first_job
  pub network : after.network ≡ before.network

-- a call isn't made, since it waits, or it is refused, by the rules or for want of memory or slots: this is the code
abbrev pub IsDeclined : Live → Live → Call → ℤ → Type 0
IsDeclined before after call code =
    (IsPending before call × (code ≡ pos 202) × (after ≡ before))
    ⊎ (¬ IsPending before call × ((why : Declined) × (code ≡ pos (code_of (refusal_of why)))
    × IsNotMadeOf before.session after.session call why))

-- the same through a handle, which may be closed
pub record IsDeclinedBy (old new : Option Open) (call : Call) (code : ℤ) : Type 0 where
  pub before : Live
  pub after : Live
  pub was : old ≡ Some (Session before)
  pub is : new ≡ Some (Session after)
  pub declined : IsDeclined before after call code
  pub leads : KeepsLeading before.session after.session
  pub advice : after.advice ≡ before.advice
  pub closing : after.closing ≡ before.closing
  pub first_job : after.first_job ≡ before.first_job
  pub network : after.network ≡ before.network

abbrev pub IsNotMade : Option Open → Option Open → Call → ℤ → Type 0
IsNotMade old new call code =
    ((code ≡ pos 201) × (session_in old ≡ None) × (new ≡ old)) ⊎ IsDeclinedBy old new call code

-- the code of a call's result
abbrev pub code_in : Result Reply ℤ → ℤ
code_in (Ok said) = pos 0
code_in (Err code) = code

-- a call of the session that a handle holds, made or not, has this result
pub record HasResult (old new : Option Open) (call : Call) (result : Result Reply ℤ) : Type 0 where
  pub made : IfOk result (IsMade old new call)
  pub not_made : IfErr result (IsNotMade old new call)

-- it is answered by this code
pub record IsAnsweredBy (old new : Option Open) (call : Call) (code : ℤ) : Type 0 where
  pub result : Result Reply ℤ
  pub has : HasResult old new call result
  pub code_is : code ≡ code_in result

-- and if it is made, this of its reply is written
pub record IsWrittenBy {T : Type 0} (value : Reply → Option T) (old new : Option Open) (call : Call)
    (before after : T) (code : ℤ) : Type 0 where
  pub result : Result Reply ℤ
  pub has : HasResult old new call result
  pub code_is : code ≡ code_in result
  pub written : IfOk result (λ said. IfSome (value said) (λ there. after ≡ there))
  pub unwritten : IfErr result (λ code. after ≡ before)

-- whether a word was taken before
abbrev pub flag_of : Reply → Option ℕ
flag_of Repeated = Some 1
flag_of Taken = Some 0
flag_of said = None

-- the row that a sync is answered
abbrev pub row_in : Reply → Option RowOut
row_in (Synchronized row) = Some (row_out row)
row_in said = None

-- where an advance led
abbrev pub reached_in : Reply → Option ReachedOut
reached_in (Reached frame from rerun) = Some (record { frame = frame; from = from; rerun = rerun })
reached_in said = None

-- the settled row of a frame
abbrev pub settled_row : Core → ℕ → Option (List Cell)
settled_row core frame = if nat_lt frame (settled core) then Some (row_at core.players frame) else None

-- room was made for so many more events
pub record HasReserved (events : ℕ) (old new : Live) : Type 0 where
  pub fits : FitsLog old.session.seen events
  pub made : new ≡ record old {
    session = record old.session {
      seen = record old.session.seen { reserved = max old.session.seen.reserved events };
    };
  }

-- it wasn't: the log would pass its limit, or memory ran out, which it doesn't for what was reserved before; nothing is changed
pub record HasNotReserved (events : ℕ) (old new : Live) (why : Refusal) : Type 0 where
  pub refused : IsWhy (reserve_refusal old.session.seen events) why
  pub short : FitsLog old.session.seen events → old.session.seen.reserved < events
  pub unchanged : new ≡ old

abbrev pub code_of_reserve : Result Unit Refusal → ℤ
code_of_reserve (Ok done) = pos 0
code_of_reserve (Err why) = pos (code_of why)

pub record IsReserved (events : ℕ) (old new : Live) (code : ℤ) : Type 0 where
  pub result : Result Unit Refusal
  pub made : OnOk result (HasReserved events old new)
  pub refused : IfErr result (HasNotReserved events old new)
  pub leads : KeepsLeading old.session new.session
  pub code_is : code ≡ code_of_reserve result

-- a session of a game elsewhere at its start: the opening is current there, and in slot 0, and nothing is asked for
pub record IsStarted (settings : Settings) (session : Asked) : Type 0 where
  pub seen : session.seen ≡ first_seen settings [] no_calls
  pub at : session.at ≡ 0
  pub requests : session.requests ≡ []
  pub limit : session.limit ≡ SLOTS
  pub jobs : session.jobs.slots ≡ []
  pub leads : Leads [] session

-- a session with these settings is open at its start
pub record IsOpened (given : SettingsIn) (live : Live) : Type 0 where
  pub settings : Settings
  pub are_given : AreGiven given settings
  pub session : IsStarted settings live.session
  pub advice : live.advice ≡ []
  pub closing : live.closing ≡ None
  pub first_job : live.first_job ≡ 0
  pub network : live.network ≡ None

-- there is no session with such settings
pub record IsUnfit (given : SettingsIn) (code : ℤ) : Type 0 where
  pub settings : Settings
  pub are_given : AreGiven given settings
  pub refusal : Refusal
  pub why : IsWhy (start_refusal settings) refusal
  pub code_is : code ≡ pos (code_of refusal)

-- why no session is opened: the settings are another version's, a number has no room where it belongs, or they aren't good, or
-- memory ran out
abbrev pub IsWhyClosed : SettingsIn → ℤ → Type 0
IsWhyClosed given code =
    ((code ≡ pos 205) × (given.size ≢ SETTINGS_SIZE))
    ⊎ (((code ≡ pos 11) × HaveNoRoom given) ⊎ (IsUnfit given code ⊎ (code ≡ pos 107)))

-- the text of a claim is written to the front of a buffer if it has room, and its length is told also if it has none; or memory
-- ran out
abbrev pub IsWritten : (text before after : List ℕ) → (had size : ℕ) → (code : ℤ) → Type 0
IsWritten text before after had size code =
    ((length text ≤ length before) × ((code ≡ pos 0) × ((after ≡ text ++ drop (length text) before) × (size ≡ length text))))
    ⊎ (((length before < length text) × ((code ≡ pos 204) × ((after ≡ before) × (size ≡ length text))))
    ⊎ ((code ≡ pos 107) × ((after ≡ before) × (size ≡ had))))

-- if there was no rollback yet, there is no claim
abbrev pub IsClaimOf : Option Claim → (before after : List ℕ) → (had size : ℕ) → (code : ℤ) → Type 0
IsClaimOf None before after had size code =
    (code ≡ pos 117) × ((after ≡ before) × (size ≡ had))
IsClaimOf (Some claim) before after had size code =
    IsWritten (text_of (claim_lines claim)) before after had size code

pub record IsClaimed (old new : Option Open) (before after : List ℕ) (had size : ℕ) (code : ℤ) : Type 0 where
  pub kept : new ≡ old
  pub closed : session_in old ≡ None → (code ≡ pos 201) × ((after ≡ before) × (size ≡ had))
  pub read : IfSome (session_in old) (λ live. IsClaimOf (last_claim live.session.seen) before after had size code)

-- as many requests as there is room for are written to the front of a buffer, in order
pub record AreWrittenOut (requests : List Request) (before after : List RequestOut) (count : ℕ) : Type 0 where
  pub count_is : count ≡ min (length before) (length requests)
  pub written : after ≡ map request_out (take count requests) ++ drop count before

-- those of the epoch before
pub record AreHandedLast (old new : List Request) (before after : List RequestOut) (count : ℕ) : Type 0 where
  pub out : AreWrittenOut old before after count
  pub left : new ≡ drop count old

-- those of the session; all that was handed out and is still to be leads where it did
pub record AreHandedNext (old new : Asked) (before after : List RequestOut) (count : ℕ) : Type 0 where
  pub out : AreWrittenOut old.requests before after count
  pub left : new ≡ record old { requests = drop count old.requests }
  pub leads : (past : List Request) → Leads past old → Leads (past ++ take count old.requests) new

-- the next requests of a session are handed out: those of the epoch before by themselves, as long as there are any
abbrev pub AreHandedIn : (old new : Live) → (before after : List RequestOut) → (count : ℕ) → (closing : List Request) → Type 0
AreHandedIn old new before after count [] =
    (new ≡ record old { session = new.session }) × AreHandedNext old.session new.session before after count
AreHandedIn old new before after count (first ∷ more) =
    (new ≡ record old { closing = new.closing })
    × IsSomeAnd new.closing (λ now. AreHandedLast (first ∷ more) now before after count)

abbrev pub AreHanded : (old new : Live) → (before after : List RequestOut) → (count : ℕ) → Type 0
AreHanded old new before after count = AreHandedIn old new before after count (closing_in old)

-- requests of an open session are handed out; a closed one has none
pub record IsHandedBy (old new : Option Open) (before after : List RequestOut) (count : ℕ) : Type 0 where
  pub closed : session_in old ≡ None → (new ≡ old) × ((count ≡ 0) × (after ≡ before))
  pub handed : IfSome (session_in old) (λ live. IsSomeAnd (session_in new) (λ now.
      AreHanded live now before after count))

-- from now on no state is saved in a slot from this one on, nor past the last that there is
pub record IsLimited (slots : ℕ) (old new : Live) (code : ℤ) : Type 0 where
  pub limited : new ≡ record old { session = record old.session { limit = min slots SLOTS } }
  pub leads : KeepsLeading old.session new.session
  pub code_is : code ≡ pos 0

-- the settled frame is written, and the slot in which its state lies
pub record IsSettledAt (old new : Option Open) (before after : ℕ) (had slot : ℕ) (code : ℤ) : Type 0 where
  pub kept : new ≡ old
  pub closed : session_in old ≡ None → (code ≡ pos 201) × ((after ≡ before) × (slot ≡ had))
  pub read : IfSome (session_in old) (λ live. (code ≡ pos 0)
      × ((after ≡ settled live.session.seen.core) × IsSettledSlot live.session.saves.tree slot))

-- the advantages of both sides are noted
pub record IsNoted (local remote : ℤ) (old new : Live) (code : ℤ) : Type 0 where
  pub code_is : code ≡ pos 0
  pub noted_is : new ≡ record old { advice = noted old.advice local remote }
