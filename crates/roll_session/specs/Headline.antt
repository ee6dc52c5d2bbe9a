-- The headline: what is true of each event of a session, whatever it is asked for and in whichever order. The state that is
-- shown is the serial run over the timeline; a rollback runs as few frames as any plan from a state that was ever saved; and
-- it leaves a certificate of that.
--
-- What it cites: `Seen` (Seen), what contracts see of a session; in roll_frame/specs `Core`, `settled` and `kept` (Core), what
-- its events have made of it; `timeline` (Timeline), the rows of the confirmed words and of the predictions
-- after them; `run` (Paths), the value that rows lead to; `IsRight` (Claims), what a claim has to have; and in roll_game/specs
-- `rolled` (Counts), what a rollback asks of the game. Which events are refused, and what the others change, is said by the rules
-- (Events), and needn't be known here.
use Rattle.std.specs.Prelude.{◌≡◌, ℕ, ◌-◌, ◌≤◌, List, [], ◌∷◌, ◌++◌, length, map, drop, take, All, Bool, true, false, ◌==◌, Option, Some, option_map, slice_get, if◌then◌else◌, IsSomeAnd, MatchBool}
use Rattle.std.specs.Option.{option_map_or}
use Rattle.roll_frame.specs.Cells.{Rows}
use Rattle.roll_frame.specs.Claims.{claim_of, path_from, IsRight}
use Rattle.roll_frame.specs.Core.{kept, settled}
use Rattle.roll_frame.specs.Events.{CoreEvent}
use Rattle.roll_frame.specs.Games.{Value}
use Rattle.roll_frame.specs.Inputs.{player_at}
use Rattle.roll_frame.specs.Order.{in_order}
use Rattle.roll_frame.specs.Paths.{contains, run}
use Rattle.roll_frame.specs.Timeline.{timeline}
use Rattle.roll_frame.specs.declared.claim.Claim.{Claim}
use Rattle.roll_frame.specs.declared.entry.Entry.{Entry}
use Rattle.roll_frame.specs.declared.entry.Entry.TheVariants.{Local, Remote}
use Rattle.roll_frame.specs.declared.reply.Reply.{Reply}
use Rattle.roll_frame.specs.declared.reply.Reply.TheVariants.{Refused, Done, Taken, Repeated, Synchronized, Reached}
use Rattle.roll_game.specs.Counts.{rolled}
use Rattle.roll_session.specs.Answered.{IsReplied}
use Rattle.roll_session.specs.Seen.{Step, Seen}

-- an event with its reply, and the session before and after it
pub record Turn : Type 0 where
  pub before : Seen
  pub event : CoreEvent
  pub said : Reply
  pub after : Seen

-- each turn begins with the session that the one before it left
abbrev pub AreTurns : Seen → List Turn → Seen → Type 0
AreTurns old [] new = new ≡ old
AreTurns old (turn ∷ turns) new = (turn.before ≡ old) × AreTurns turn.after turns new

-- the timeline up to the frame: the confirmed words, and the predictions after them
abbrev pub time_of : Seen → Rows
time_of s = timeline s.core.players s.core.frame

-- the value of the state that `current` shows, if it shows one
abbrev pub value_shown : Step → Seen → Option Value
value_shown step s = option_map (run step s.opening) s.core.shown

-- the claim of the last rollback, which `claim` makes, if there is one
abbrev pub last_claim : Seen → Option Claim
last_claim s = option_map (claim_of s.settings.players) s.core.last

-- a state that these rows lead to was saved at some time, whether it is still kept or was forgotten since
abbrev pub IsSaved : Seen → Rows → Type 0
IsSaved s path = contains s.core.ever path ≡ true

-- the confirmed words of a player
abbrev pub words_of : Seen → ℕ → List ℕ
words_of s p = option_map_or (λ player. player.words) (player_at s.core.players p) []

-- whether this replies to a sync or an advance that was not refused: it went to its frame, by a rollback of 0 frames or more
abbrev pub is_rolled : Reply → Bool
is_rolled (Synchronized row) = true
is_rolled (Reached frame from rerun) = true
is_rolled said = false

-- whether this says that nothing changed: a refusal, or a word that was taken before
abbrev pub is_declined : Reply → Bool
is_declined (Refused why) = true
is_declined Repeated = true
is_declined said = false

-- the word of player p that an event confirms, by its reply
abbrev pub words_in : Entry → Reply → ℕ → List ℕ
words_in (Local q word) Done p = if p == q then word ∷ [] else []
words_in (Remote q frame word) Taken p = if p == q then word ∷ [] else []
words_in entry said p = []

-- the rules say what is replied, and what becomes of the session
abbrev pub IsByTheRules : Step → Turn → Type 0
IsByTheRules step turn = IsReplied step turn.before turn.after turn.event turn.said

-- after a rollback the state shown is worth the serial run, from the opening, over the timeline up to the frame; any other
-- event leaves it
abbrev pub ShowsSerialRun : Step → Turn → Type 0
ShowsSerialRun step turn =
    value_shown step turn.after
    ≡ (if is_rolled turn.said then Some (run step turn.after.opening (time_of turn.after))
    else value_shown step turn.before)

-- a rollback starts from a state on the timeline that was saved before it: no path that was ever saved before it and begins
-- the timeline is longer. From there on it advances the game to the frame, and saves each state. So any plan, a saved path
-- and the rows that are left of the timeline, has at least as many rows to run
pub record IsFewest (turn : Turn) (claim : Claim) : Type 0 where
  pub starts : IsSaved turn.before (take claim.from (time_of turn.after))
  pub longest : (path rest : Rows) → IsSaved turn.before path → path ++ rest ≡ time_of turn.after
      → length path ≤ claim.from
  pub advanced : turn.after.counts
      ≡ rolled (turn.after.core.frame - claim.from) turn.before.counts
  pub saves : (n : ℕ) → IsSaved turn.after (take n (time_of turn.after))

-- any other event asks nothing of the game
abbrev pub RunsFewest : Turn → Type 0
RunsFewest turn =
    MatchBool (is_rolled turn.said) (IsSomeAnd (last_claim turn.after) (IsFewest turn))
    (turn.after.counts ≡ turn.before.counts)

-- the claim of a rollback is right: so it names a frame and a player where path and timeline differ, for each path that it
-- lists, is deeper than the start, and not past the frame. It lists all paths that were kept before the rollback
pub record IsCertificate (turn : Turn) (claim : Claim) : Type 0 where
  pub right : IsRight claim
  pub players : claim.players ≡ turn.before.settings.players
  pub base : claim.base ≡ settled turn.before.core
  pub time : claim.time ≡ drop claim.base (time_of turn.after)
  pub lists : claim.kept ≡ map (path_from claim.base) (in_order (kept turn.before.core))

-- any other event leaves the last claim
abbrev pub IsCertified : Turn → Type 0
IsCertified turn =
    MatchBool (is_rolled turn.said) (IsSomeAnd (last_claim turn.after) (IsCertificate turn))
    (last_claim turn.after ≡ last_claim turn.before)

-- a remote word that is taken is its player's next; one that was taken before is confirmed there
abbrev pub IsNext : Seen → Entry → Reply → Type 0
IsNext s (Remote p frame word) Taken = frame ≡ length (words_of s p)
IsNext s (Remote p frame word) Repeated = slice_get (words_of s p) frame ≡ Some word
IsNext s entry said = Unit {0}

-- each player's confirmed words are those before, and then the one that the event confirms
pub record TakesOnce (turn : Turn) : Type 0 where
  pub next : IsNext turn.before turn.event.entry turn.said
  pub words : (p : ℕ) → words_of turn.after p
      ≡ words_of turn.before p ++ words_in turn.event.entry turn.said p

-- what is refused, or was taken before, leaves the session as it was; what was ever saved counts as saved for ever
pub record LosesNothing (turn : Turn) : Type 0 where
  pub refused : is_declined turn.said ≡ true → turn.after ≡ turn.before
  pub saved : (path : Rows) → IsSaved turn.before path → IsSaved turn.after path

-- any events with their replies, as turns from one session to another
pub record Headline (step : Step) (old new : Seen) (events : List CoreEvent)
    (replies : List Reply) : Type 0 where
  pub turns : List Turn
  pub are_turns : AreTurns old turns new
  pub events_are : map (λ turn. turn.event) turns ≡ events
  pub replies_are : map (λ turn. turn.said) turns ≡ replies
  pub rules : All (IsByTheRules step) turns
  pub shown : All (ShowsSerialRun step) turns
  pub fewest : All RunsFewest turns
  pub certificate : All IsCertified turns
  pub inputs : All TakesOnce turns
  pub nothing_lost : All LosesNothing turns
