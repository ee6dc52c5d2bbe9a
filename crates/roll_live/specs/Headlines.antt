-- The headline of a script that is played live.
use Rattle.std.specs.Prelude.{ℕ, List, [], ◌∷◌, ◌++◌, map}
use Rattle.roll_frame.specs.Events.{CoreEvent}
use Rattle.roll_frame.specs.declared.entry.Entry.TheVariants.{Local, Disconnect, Sync, Advance}
use Rattle.roll_host.specs.Heard.{events_of}
use Rattle.roll_session.specs.Answered.{replies_to}
use Rattle.roll_session.specs.Calls.{grafting}
use Rattle.roll_session.specs.Headline.{Headline}
use Rattle.roll_session.specs.Seen.{Seen, Step, plain}
use Rattle.prog_scripts.specs.Calls.{narrowed}
use Rattle.prog_scripts.specs.Output.{Texts}
use Rattle.prog_scripts.specs.declared.command.Command.{Command}
use Rattle.prog_scripts.specs.declared.command.Command.TheVariants.{Local as Gives, Remote as Tells}
use Rattle.prog_scripts.specs.declared.command.Command.TheVariants.{Disconnect as Leaves, Sync as Syncs}
use Rattle.prog_scripts.specs.declared.command.Command.TheVariants.{Advance as Advances, Guess, Extend}
use Rattle.prog_scripts.specs.declared.command.Command.TheVariants.{Claim}
use Rattle.roll_live.specs.Told.{Line, IsTold}
use Rattle.roll_live.specs.Tellings.{AreTold, IsLive, Telling}

-- a session but for the copies that guesses had made, or that were refused them, and for what is
-- reserved
abbrev pub but_guesses : Seen → Seen
but_guesses s = record s { counts = record s.counts { copies = 0; refusals = 0 }; reserved = 0 }

module _ (step : Step) (texts : Texts) where
  -- the events that a command stood for: its own, or those of the words that a pump applied, or of
  -- the branches that had come
  abbrev pub events_told : (old new : Seen) (command : Command) (line : Line)
      → IsTold step texts old new command line → List CoreEvent
  events_told old new (Gives p word) line told = plain (Local (narrowed p) word) ∷ []
  events_told old new (Tells p f word) line told = events_of told.items
  events_told old new (Leaves p) line told = plain (Disconnect (narrowed p)) ∷ []
  events_told old new Syncs line told = plain Sync ∷ []
  events_told old new Advances line told = plain Advance ∷ []
  events_told old new (Guess p until words) line told = []
  events_told old new (Extend j) line told = map grafting told.1.0
  events_told old new Claim line told = []

  -- those of all commands
  abbrev pub all_events : (old : Seen) (tellings : List Telling) (new : Seen)
      → AreTold step texts old tellings new → List CoreEvent
  all_events old [] new told = []
  all_events old (first ∷ more) new told =
      events_told old first.after first.command first.line told.0
      ++ all_events first.after more new told.1

  -- the headline holds of them
  pub record HasHeadline (old new : Seen) (commands : List Command) (written : List ℕ) (refused : ℕ)
      : Type 0 where
    pub live : IsLive step texts old new commands written refused
    pub headline : Headline step (but_guesses old) (but_guesses new)
        (all_events old live.tellings new live.are_told)
        (replies_to step old (all_events old live.tellings new live.are_told))
