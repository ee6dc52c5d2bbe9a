-- The headline holds of the events of any script.
use Rattle.std.proofs.Common.{◌≡◌, ◌∙◌, ℕ, List, [], ◌∷◌, ◌++◌, map, refl, ap, subst, sym, Option, Some, None}
use Rattle.std.specs.Prelude.{All, option_map, IfSome}
use Rattle.std.specs.Option.{option_map_or, option_to_list}
use Rattle.std.proofs.lemmas.List.Elements.{All-head, All-tail}
use Rattle.roll_branch.specs.Routed.{Routed}
use Rattle.roll_frame.specs.Core.{Core, first_core}
use Rattle.roll_frame.specs.Events.{CoreEvent, after, reply}
use Rattle.roll_frame.specs.Games.{Game}
use Rattle.roll_frame.specs.Settings.{start_refusal}
use Rattle.roll_frame.specs.declared.settings.Settings.{Settings}
use Rattle.roll_game.specs.declared.counts.Counts.{Counts}
use Rattle.roll_laws.proofs.Glue.{log_first}
use Rattle.roll_session.proofs.Headlines.{headline_of, played_any, session_after, AreAsked}
use Rattle.roll_session.proofs.Holding.{replay-nil}
use Rattle.roll_session.proofs.Turns.{IsAsked}
use Rattle.roll_session.specs.Answered.{IsReplied}
use Rattle.roll_session.specs.Calls.{grafting}
use Rattle.roll_session.specs.Seen.{Seen, Step, game_of}
use Rattle.roll_session.specs.Headline.{AreTurns, IsByTheRules, Turn}
use Rattle.roll_text.specs.Lines.{ended}
use Rattle.roll_session.specs.Started.{first_seen}
use Rattle.roll_cli.specs.Headlines.{events_from, line_of, lines_from, HasHeadline, IsHeadlined, IsHeadlinedDuel, IsHeadlinedOutput}
use Rattle.prog_scripts.specs.Output.{Playing, Texts, after_command, asked_by, duel_game, duel_output, duel_refusals, event_text, first_playing, job_at, output, refusals, reply_line, IsOutput}
use Rattle.prog_scripts.specs.Headers.{settings_of}
use Rattle.prog_scripts.specs.Plays.{Play}
use Rattle.roll_duel.specs.Text.{duel_text}
use Rattle.prog_scripts.specs.declared.command.Command.{Command}
use Rattle.prog_scripts.specs.declared.command.Command.TheVariants.{Local as Gives, Remote as Tells, Disconnect as Leaves, Sync as Syncs, Advance as Advances, Guess, Extend, Claim}

module _ (texts : Texts) (settings : Settings) (game : Game) where
  -- the lines of events from a core on
  abbrev texts_of : Core → List CoreEvent → List (List ℕ)
  texts_of core [] = []
  texts_of core (event ∷ events) = event_text texts settings game core event ∷ texts_of (after settings game core event) events

  -- the lines of turns are those of their events
  turn_lines : (step : Step) (turns : List Turn) (old new : Seen) (core : Core) → old.settings ≡ settings → game_of step old ≡ game → old.core ≡ core → AreTurns old turns new → All (IsByTheRules step) turns
      → map (line_of texts game) turns ≡ texts_of core (map (λ (t : Turn). t.event) turns)
  turn_lines step [] old new core es eg ec are rules = refl
  turn_lines step (turn ∷ turns) old new core es eg ec are rules =
      let r : IsReplied step turn.before turn.after turn.event turn.said = All-head (IsByTheRules step) turn turns rules in
      let s : turn.before.settings ≡ settings = ap (λ (t : Seen). t.settings) are.0 ∙ es in
      let g : game_of step turn.before ≡ game = ap (game_of step) are.0 ∙ eg in
      let c : turn.before.core ≡ core = ap (λ (t : Seen). t.core) are.0 ∙ ec in
      let said : turn.said ≡ reply settings game core turn.event = r.said_is ∙ (λ i. reply (s i) (g i) (c i) turn.event) in
      let next : turn.after.core ≡ after settings game core turn.event = r.played.core ∙ (λ i. after (s i) (g i) (c i) turn.event) in
      let same : turn.after.settings ≡ settings = ap (λ (t : Seen). t.settings) r.played.seen ∙ s in
      let plays : game_of step turn.after ≡ game = ap (game_of step) r.played.seen ∙ g in
      let rest = turn_lines step turns turn.after new (after settings game core turn.event) same plays next are.1 (All-tail (IsByTheRules step) turn turns rules) in
      λ i. ended (reply_line texts game (next i) (said i)) ∷ rest i

  -- the lines of a command's event, if it asks for one, and then of others
  first_lines : (core later : Core) (event : Option CoreEvent) (events : List CoreEvent) (lines : List (List ℕ)) → later ≡ option_map_or (after settings game core) event core → texts_of later events ≡ lines
      → texts_of core (option_to_list event ++ events) ≡ map (event_text texts settings game core) (option_to_list event) ++ lines
  first_lines core later None events lines e h = subst (λ (c : Core). texts_of c events ≡ lines) e h
  first_lines core later (Some event) events lines e h = ap (λ (ls : List (List ℕ)). event_text texts settings game core event ∷ ls) (subst (λ (c : Core). texts_of c events ≡ lines) e h)

  command_lines : (playing : Playing) (commands : List Command) → texts_of playing.core (events_from settings game playing commands) ≡ lines_from texts settings game playing commands
  command_lines playing [] = refl
  command_lines playing (command ∷ commands) =
      let next : Playing = after_command settings game playing command in
      first_lines playing.core next.core (asked_by playing command) (events_from settings game next commands) (lines_from texts settings game next commands) refl (command_lines next commands)

module _ (settings : Settings) (game : Game) where
  first_asked : (event : Option CoreEvent) (events : List CoreEvent) → IfSome event (λ e. IsAsked e.entry) → AreAsked events → AreAsked (option_to_list event ++ events)
  first_asked None events h rest = rest
  first_asked (Some event) events h rest = (h, rest)

  grafts : (job : Option Routed) → IfSome (option_map grafting job) (λ e. IsAsked e.entry)
  grafts None = tt
  grafts (Some job) = tt

  asks : (playing : Playing) (command : Command) → IfSome (asked_by playing command) (λ e. IsAsked e.entry)
  asks playing (Gives player word) = tt
  asks playing (Tells player frame word) = tt
  asks playing (Leaves player) = tt
  asks playing Syncs = tt
  asks playing Advances = tt
  asks playing (Guess player until words) = tt
  asks playing (Extend job) = grafts (job_at playing.jobs job)
  asks playing Claim = tt

  all_asked : (playing : Playing) (commands : List Command) → AreAsked (events_from settings game playing commands)
  all_asked playing [] = tt
  all_asked playing (command ∷ commands) =
      let next : Playing = after_command settings game playing command in
      first_asked (asked_by playing command) (events_from settings game next commands) (asks playing command) (all_asked next commands)

-- whatever a script's commands are, where its session starts
scripts_have_headlines : (texts : Texts) (settings : Settings) (game : Game) (counts : Counts) (commands : List Command) → start_refusal settings ≡ None
    → HasHeadline texts settings game counts commands (events_from settings game (first_playing settings) commands)
scripts_have_headlines texts settings game counts commands starts =
    let old : Seen = first_seen settings game.opening counts in
    let events : List CoreEvent = events_from settings game (first_playing settings) commands in
    let new : Seen = session_after game.step old events in
    let h = headline_of game.step events old new (record { log = log_first settings game starts; core = sym (replay-nil settings) }) (all_asked settings game (first_playing settings) commands) (played_any game.step old events) in
    record {
      new = new;
      headline = h;
      lines =
          turn_lines texts settings game game.step h.turns old new (first_core settings) refl refl refl h.are_turns h.rules
          ∙ ap (texts_of texts settings game (first_core settings)) h.events_are
          ∙ command_lines texts settings game (first_playing settings) commands;
    }

headlined : (texts : Texts) (game : Game) (play : Play) → IsHeadlined texts game play
headlined texts game play counts starts = scripts_have_headlines texts (settings_of play.setup) game counts play.commands starts

-- so whatever a script writes, it has the headline
pub output_headlined : (texts : Texts) (game : Game) (text written : List ℕ) (refused : ℕ)
    → IsOutput (output texts game) (refusals game) text written refused
    → IsHeadlinedOutput texts game text written refused
output_headlined texts game text written refused is =
    record { is_output = is; headline = headlined texts game is.play }

pub duel_headlined : (text written : List ℕ) (refused : ℕ)
    → IsOutput duel_output duel_refusals text written refused → IsHeadlinedDuel text written refused
duel_headlined text written refused is = record {
  is_output = is;
  headline = λ ships. headlined duel_text (duel_game is.play.setup.players) is.play;
}
