-- What each command of a script makes of a session that is played live, and what it writes.
use Rattle.std.specs.Prelude.{◌≡◌, ◌≤◌, ◌<◌, ℕ, ◌+◌, List, [], ◌∷◌, ◌++◌, codes, length, map, Bool, true, false, nat_lt, Option, None, Some}
use Rattle.std.specs.Fmt.{decimal}
use Rattle.std.specs.Option.{option_map_or}
use Rattle.roll_branch.specs.Routed.{Routed}
use Rattle.roll_frame.specs.Core.{Core}
use Rattle.roll_frame.specs.Events.{CoreEvent, reply}
use Rattle.roll_frame.specs.Games.{Game}
use Rattle.roll_frame.specs.Paths.{run}
use Rattle.roll_frame.specs.declared.entry.Entry.TheVariants.{Local, Disconnect, Sync, Advance}
use Rattle.roll_frame.specs.declared.refusal.Refusal.{Refusal}
use Rattle.roll_frame.specs.declared.reply.Reply.{Reply}
use Rattle.roll_frame.specs.declared.reply.Reply.TheVariants.{Refused, Taken, Repeated, Synchronized, Reached}
use Rattle.roll_game.specs.declared.counts.Counts.{Counts}
use Rattle.roll_host.specs.Heard.{event_of, AreHeard}
use Rattle.roll_link.specs.declared.remote.Remote.{Remote}
use Rattle.roll_session.specs.Answered.{IsPlayed, IsReplied}
use Rattle.roll_session.specs.Calls.{grafting}
use Rattle.roll_session.specs.Seen.{Seen, Step, game_of, plain}
use Rattle.roll_text.specs.Lines.{ended}
use Rattle.prog_scripts.specs.Calls.{narrowed}
use Rattle.prog_scripts.specs.Output.{Texts, is_refused, reply_line}
use Rattle.prog_scripts.specs.declared.command.Command.{Command}
use Rattle.prog_scripts.specs.declared.command.Command.TheVariants.{Local as Gives, Remote as Tells, Disconnect as Leaves, Sync as Syncs, Advance as Advances, Guess, Extend, Claim}
use Rattle.roll_live.specs.declared.playing.TheConstants.{AHEAD_LIMIT}

-- the frame, and the state shown
unfoldable pub state_line : Texts → Game → Core → List ℕ
state_line texts game core =
    option_map_or
    (λ rows. codes "frame " ++ (decimal core.frame
    ++ (codes " state " ++ texts (run game.step game.opening rows))))
    core.shown []

-- the line of a reply, without its end, and the core after its event: of a roll the frame and the state alone
abbrev pub live_line : Texts → Game → Core → Reply → List ℕ
live_line texts game core (Synchronized row) = state_line texts game core
live_line texts game core (Reached frame from rerun) = state_line texts game core
live_line texts game core said = reply_line texts game core said

-- what a command wrote, and whether it was a refusal
pub record Line : Type 0 where
  pub text : List ℕ
  pub refused : Bool

-- a command that writes nothing
abbrev pub silent : Line
silent = record { text = []; refused = false }

abbrev pub said_line : Texts → Game → Core → Reply → Line
said_line texts game core said =
    record { text = ended (live_line texts game core said); refused = is_refused said }

-- the item of an `R` line
abbrev pub item_of : ℕ → ℕ → ℕ → Remote
item_of p f word = record { player = narrowed p; frame = f; word = word }

-- the items of a command: that of an `R` line
abbrev pub items_of : Command → List Remote
items_of (Tells p f word) = item_of p f word ∷ []
items_of command = []

-- the reply to an item that was applied, by whether the log grew, and by the last refusal among the
-- replies, if there is one
abbrev pub item_reply : Bool → Option Refusal → Reply
item_reply true refusal = Taken
item_reply false None = Repeated
item_reply false (Some why) = Refused why

-- the counts, with others of copies, and of refusals
abbrev pub guessed_counts : Counts → Counts → Counts
guessed_counts counts others = record counts { copies = others.copies; refusals = others.refusals }

module _ (step : Step) (texts : Texts) where
  -- an event was asked for, and its reply written
  pub record IsAsked (old new : Seen) (event : CoreEvent) (line : Line) : Type 0 where
    pub said : Reply
    pub replied : IsReplied step old new event said
    pub line_is : line ≡ said_line texts (game_of step new) new.core said

  -- an item was sent, and a pump applied what had come. The reply is told by whether the log grew,
  -- and by the last refusal; where nothing else had come, it is what the session replies to the item
  pub record IsHeard (old new : Seen) (item : Remote) (line : Line) : Type 0 where
    pub near : item.frame < old.core.frame + AHEAD_LIMIT
    pub items : List Remote
    pub refused : ℕ
    pub why : Option Refusal
    pub heard : AreHeard step old new items refused why
    pub some : 1 ≤ length items
    pub said : Reply
    pub said_is : said ≡ item_reply (nat_lt (length old.log) (length new.log)) why
    pub same : items ≡ item ∷ []
        → said ≡ reply old.settings (game_of step old) old.core (event_of item)
    pub line_is : line ≡ said_line texts (game_of step new) new.core said

  -- each command: a guess has the game copied, if anything; `B` takes branches in, whichever have
  -- come
  abbrev pub IsTold : Seen → Seen → Command → Line → Type 0
  IsTold old new (Gives p word) line = IsAsked old new (plain (Local (narrowed p) word)) line
  IsTold old new (Tells p f word) line = IsHeard old new (item_of p f word) line
  IsTold old new (Leaves p) line = IsAsked old new (plain (Disconnect (narrowed p))) line
  IsTold old new Syncs line = IsAsked old new (plain Sync) line
  IsTold old new Advances line = IsAsked old new (plain Advance) line
  IsTold old new (Guess p until words) line =
      (line ≡ silent) × (new ≡ record old { counts = guessed_counts old.counts new.counts })
  IsTold old new (Extend j) line =
      (line ≡ silent)
      × ((branches : List Routed) × IsPlayed step old new (map grafting branches))
  IsTold old new Claim line = (line ≡ silent) × (new ≡ old)

-- a command that ends the run as unreadable: an `R` line whose frame is too far ahead
abbrev pub IsFar : Seen → Command → Type 0
IsFar s (Tells p f word) = s.core.frame + AHEAD_LIMIT ≤ f
IsFar s command = ⊥
