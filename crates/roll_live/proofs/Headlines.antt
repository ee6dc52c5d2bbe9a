-- The headline of commands that were played live.
use Rattle.std.proofs.Common.{◌≡◌, ◌⊎◌, ℕ, List, [], ◌∷◌, refl, sym, subst, inl, inr, true, false, Option, None, Some, Result, Ok, Err}
use Rattle.roll_frame.specs.Events.{CoreEvent}
use Rattle.roll_frame.specs.declared.entry.Entry.TheVariants.{Local, Disconnect, Sync, Advance}
use Rattle.roll_frame.specs.declared.refusal.Refusal.{Refusal}
use Rattle.roll_game.specs.declared.counts.Counts.{Counts}
use Rattle.roll_host.specs.Guesses.{with_copy, Speculates}
use Rattle.roll_host.specs.Hosted.{Hosted}
use Rattle.roll_session.proofs.Copies.{played_aside}
use Rattle.roll_host.proofs.Standing.{asked-append, grafts_asked, heard_asked}
use Rattle.roll_session.proofs.Headlines.{headline_of, AreAsked}
use Rattle.roll_session.proofs.Runs.{played_more, played_none}
use Rattle.roll_session.specs.Answered.{IsPlayed}
use Rattle.roll_session.specs.Seen.{FollowsLog, Seen, Step, plain}
use Rattle.prog_scripts.specs.Calls.{narrowed}
use Rattle.prog_scripts.specs.Output.{Texts}
use Rattle.prog_scripts.specs.declared.command.Command.{Command}
use Rattle.prog_scripts.specs.declared.command.Command.TheVariants.{Local as Gives, Remote as Tells, Disconnect as Leaves, Sync as Syncs, Advance as Advances, Guess, Extend, Claim}
use Rattle.roll_live.specs.Headlines.{all_events, but_guesses, events_told, HasHeadline}
use Rattle.roll_live.specs.Tellings.{AreTold, IsLive, Telling}
use Rattle.roll_live.specs.Told.{guessed_counts, Line, IsTold}

-- a guess has copies made, or is refused them, and that is all that it asks of the game
pub guess_counts : {D : Type 0} (step : Step) (old new : Hosted D) (player : ℕ) (words : List ℕ) (until : ℕ) (said : Result (Option ℕ) Refusal) → Speculates step old new player words until said
    → new.session ≡ record old.session { counts = guessed_counts old.session.counts new.session.counts }
guess_counts {D = D} step old new player words until said h = go said h
  where
    Is : Seen → Type 0
    Is s = s ≡ record old.session { counts = guessed_counts old.session.counts s.counts }

    same : new ≡ old → Is new.session
    same e = subst (λ (k : Hosted D). Is k.session) (sym e) refl

    copied : new.session ≡ with_copy true old.session → Is new.session
    copied e = subst Is (sym e) refl

    short : (new.session ≡ old.session) ⊎ (new.session ≡ with_copy false old.session) → Is new.session
    short (inl e) = subst Is (sym e) refl
    short (inr e) = subst Is (sym e) refl

    go : (said : Result (Option ℕ) Refusal) → Speculates step old new player words until said → Is new.session
    go (Ok (Some ticket)) h = copied h.made.session
    go (Ok None) h = same h.2
    go (Err why) (inl h) = same h.2
    go (Err why) (inr (inl h)) = same h.2
    go (Err why) (inr (inr (inl h))) = short h.1.session
    go (Err why) (inr (inr (inr (inl h)))) = copied h.1.made.session
    go (Err why) (inr (inr (inr (inr h)))) = copied h.1.made.session

-- counts without those of copies and refusals
abbrev without_guesses : Counts → Counts
without_guesses c = record c { copies = 0; refusals = 0 }

-- what a command stood for
record Stood (step : Step) (old new : Seen) (events : List CoreEvent) : Type 0 where
  played : IsPlayed step (but_guesses old) (but_guesses new) events
  asked : AreAsked events

module _ (step : Step) where
  some_events : (old new : Seen) (events : List CoreEvent) → AreAsked events → IsPlayed step old new events → Stood step old new events
  some_events old new events a p = record { played = played_aside without_guesses (record { load = λ c. refl; step = λ c. refl }) step old new events p; asked = a }

  no_events : (old new : Seen) → but_guesses old ≡ but_guesses new → Stood step old new []
  no_events old new same = record { played = subst (λ (s : Seen). IsPlayed step (but_guesses old) s []) same (played_none step (but_guesses old)); asked = tt }

module _ (step : Step) (texts : Texts) where
  stood : (old new : Seen) (command : Command) (line : Line) (told : IsTold step texts old new command line) → Stood step old new (events_told step texts old new command line told)
  stood old new (Gives p word) line told = some_events step old new (plain (Local (narrowed p) word) ∷ []) (tt, tt) told.replied.played
  stood old new (Tells p f word) line told = some_events step old new (events_told step texts old new (Tells p f word) line told) (heard_asked told.items) told.heard.played
  stood old new (Leaves p) line told = some_events step old new (plain (Disconnect (narrowed p)) ∷ []) (tt, tt) told.replied.played
  stood old new Syncs line told = some_events step old new (plain Sync ∷ []) (tt, tt) told.replied.played
  stood old new Advances line told = some_events step old new (plain Advance ∷ []) (tt, tt) told.replied.played
  stood old new (Guess p until words) line told = no_events step old new (λ i. but_guesses (sym told.1 i))
  stood old new (Extend j) line told = some_events step old new (events_told step texts old new (Extend j) line told) (grafts_asked told.1.0) told.1.1
  stood old new Claim line told = no_events step old new (λ i. but_guesses (sym told.1 i))

  all_stood : (old : Seen) (tellings : List Telling) (new : Seen) (told : AreTold step texts old tellings new) → Stood step old new (all_events step texts old tellings new told)
  all_stood old [] new told = no_events step old new (λ i. but_guesses (sym told i))
  all_stood old (first ∷ more) new told =
      let one = stood old first.after first.command first.line told.0 in
      let rest = all_stood first.after more new told.1 in
      let events : List CoreEvent = events_told step texts old first.after first.command first.line told.0 in
      let others : List CoreEvent = all_events step texts first.after more new told.1 in
      record {
        played = played_more step (but_guesses old) (but_guesses first.after) (but_guesses new) events others one.played rest.played;
        asked = asked-append events others one.asked rest.asked;
      }

  pub live_headline : (old new : Seen) (commands : List Command) (written : List ℕ) (refused : ℕ) → FollowsLog step old → IsLive step texts old new commands written refused → HasHeadline step texts old new commands written refused
  live_headline old new commands written refused logged live =
      let all = all_stood old live.tellings new live.are_told in
      record { live = live; headline = headline_of step (all_events step texts old live.tellings new live.are_told) (but_guesses old) (but_guesses new) (record { log = logged.log; core = logged.core }) all.asked all.played }
