-- The calls that commands ask for are their events.
use Rattle.std.proofs.Common.{◌≡◌, ◌==◌, ℕ, ◌-◌, ◌≤◌, ◌⊎◌, inl, inr, List, length, Bool, true, false, refl, sym, ap, ◌∙◌, subst, arith, rules, tests, Some, None}
use Rattle.std.specs.Prelude.{nat_lt, Err}
use Rattle.std.proofs.lemmas.Option.{slice_get_past}
use Rattle.roll_frame.specs.declared.limits.TheConstants.{PLAYER_LIMIT}
use Rattle.roll_frame.specs.Core.{Core}
use Rattle.roll_frame.specs.Events.{CoreEvent, after, reply}
use Rattle.roll_frame.specs.Games.{Game}
use Rattle.roll_frame.specs.Inputs.{player_at}
use Rattle.roll_frame.specs.Timeline.{Player}
use Rattle.roll_frame.specs.declared.entry.Entry.{Entry}
use Rattle.roll_frame.specs.declared.entry.Entry.TheVariants.{Local, Remote, Disconnect}
use Rattle.roll_frame.specs.declared.refusal.Refusal.TheVariants.{InvalidPlayer}
use Rattle.roll_frame.specs.declared.reply.Reply.TheVariants.{Refused}
use Rattle.roll_frame.specs.declared.settings.Settings.{Settings}
use Rattle.roll_session.specs.Calls.{event_of}
use Rattle.roll_session.specs.Seen.{plain}
use Rattle.roll_session.specs.declared.event.Call.{Call}
use Rattle.prog_scripts.specs.declared.command.Command.{Command}
use Rattle.prog_scripts.specs.declared.command.Command.TheVariants.{Local as Gives, Remote as Tells, Disconnect as Leaves, Sync as Syncs, Advance as Advances, Guess, Extend, Claim}
use Rattle.prog_scripts.specs.Calls.{narrowed, call_of}
use Rattle.prog_scripts.specs.Output.{Playing, Texts, after_command, event_text, guessed, refusal_by, refusal_in, reply_line, written_by}
use Rattle.roll_text.specs.Lines.{ended}

-- a number past all players' becomes 0
narrowed_cases : (p : ℕ) → (narrowed p ≡ p) ⊎ ((narrowed p ≡ 0) × (256 ≤ p))
narrowed_cases p = go (nat_lt p 256) refl
  where
    go : (b : Bool) → nat_lt p 256 ≡ b → (narrowed p ≡ p) ⊎ ((narrowed p ≡ 0) × (256 ≤ p))
    go true e = inl (rw e refl)
    go false e = inr (rw e refl, search (rules, tests))

nobody_at : (players : List Player) (p : ℕ) → length players ≤ PLAYER_LIMIT → 256 ≤ p → player_at players p ≡ None
nobody_at players p few high = let some : (p == 0) ≡ false = search (rules, tests) in rw some (slice_get_past players (p - 1) (omega arith))

-- two entries of which the core makes the same
record AreAlike (settings : Settings) (game : Game) (core : Core) (a b : Entry) : Type 0 where
  same_reply : reply settings game core (plain a) ≡ reply settings game core (plain b)
  same_core : after settings game core (plain a) ≡ after settings game core (plain b)

alike : (settings : Settings) (game : Game) (core : Core) (a b : Entry) → a ≡ b → AreAlike settings game core a b
alike settings game core a b e = record { same_reply = ap (λ x. reply settings game core (plain x)) e; same_core = ap (λ x. after settings game core (plain x)) e }

-- what nobody's input or leaving is answered
record IsNobodys (settings : Settings) (game : Game) (core : Core) (entry : Entry) : Type 0 where
  refused : reply settings game core (plain entry) ≡ Refused InvalidPlayer
  unchanged : after settings game core (plain entry) ≡ core

nobodys_local : (settings : Settings) (game : Game) (core : Core) (p word : ℕ) → player_at core.players p ≡ None → IsNobodys settings game core (Local p word)
nobodys_local settings game core p word none = record { refused = rw none refl; unchanged = rw none refl }

nobodys_remote : (settings : Settings) (game : Game) (core : Core) (p frame word : ℕ) → player_at core.players p ≡ None → IsNobodys settings game core (Remote p frame word)
nobodys_remote settings game core p frame word none = record { refused = rw none refl; unchanged = rw none refl }

nobodys_leaving : (settings : Settings) (game : Game) (core : Core) (p : ℕ) → player_at core.players p ≡ None → IsNobodys settings game core (Disconnect p)
nobodys_leaving settings game core p none = record { refused = rw none refl; unchanged = rw none refl }

both_nobodys : (settings : Settings) (game : Game) (core : Core) (a b : Entry) → IsNobodys settings game core a → IsNobodys settings game core b → AreAlike settings game core a b
both_nobodys settings game core a b x y = record { same_reply = x.refused ∙ sym y.refused; same_core = x.unchanged ∙ sym y.unchanged }

-- an entry of a player's number is that of the number as calls have it
narrowed_alike : (settings : Settings) (game : Game) (core : Core) (entry : ℕ → Entry) → length core.players ≤ PLAYER_LIMIT
    → ((p : ℕ) → player_at core.players p ≡ None → IsNobodys settings game core (entry p)) → (p : ℕ) → AreAlike settings game core (entry (narrowed p)) (entry p)
narrowed_alike settings game core entry few nobodys p = elim (narrowed_cases p) [
  | inl same ↦ alike settings game core (entry (narrowed p)) (entry p) (ap entry same)
  | inr past ↦
      both_nobodys settings game core (entry (narrowed p)) (entry p)
      (nobodys (narrowed p) (subst (λ n. player_at core.players n ≡ None) (sym past.0) refl))
      (nobodys p (nobody_at core.players p few past.1))
]

same_call : (a b : Call) → Some a ≡ Some b → a ≡ b
same_call a b e = cc

-- what a command makes of a script, writes and is answered is what its event does
abbrev pub IsEvents : Texts → Settings → Game → Playing → Command → CoreEvent → Type 0
IsEvents texts settings game playing command event =
    (record playing { core = after settings game playing.core event } ≡ after_command settings game playing command)
    × (event_text texts settings game playing.core event ≡ written_by texts settings game playing command)
    × (refusal_in (reply settings game playing.core event) ≡ refusal_by settings game playing command)

alike_events : (texts : Texts) (settings : Settings) (game : Game) (playing : Playing) (a b : Entry) → AreAlike settings game playing.core a b
    → (record playing { core = after settings game playing.core (plain a) } ≡ record playing { core = after settings game playing.core (plain b) })
    × (event_text texts settings game playing.core (plain a) ≡ event_text texts settings game playing.core (plain b))
    × (refusal_in (reply settings game playing.core (plain a)) ≡ refusal_in (reply settings game playing.core (plain b)))
alike_events texts settings game playing a b alike =
    (λ i. record playing { core = alike.same_core i }, λ i. ended (reply_line texts game (alike.same_core i) (alike.same_reply i)), ap refusal_in alike.same_reply)

module _ (texts : Texts) (settings : Settings) (game : Game) (playing : Playing) (few : length playing.core.players ≤ PLAYER_LIMIT) where
  narrowed_events : (entry : ℕ → Entry) → ((p : ℕ) → player_at playing.core.players p ≡ None → IsNobodys settings game playing.core (entry p)) → (p : ℕ) → AreAlike settings game playing.core (entry (narrowed p)) (entry p)
  narrowed_events entry nobodys p = narrowed_alike settings game playing.core entry few nobodys p

  -- the event of a command's call is the command's
  pub asked_events : (command : Command) (call : Call) → call_of command ≡ Some call → IsEvents texts settings game playing command (event_of call)
  asked_events (Gives p word) call e =
      subst (λ c. IsEvents texts settings game playing (Gives p word) (event_of c)) (same_call _ call e)
      (alike_events texts settings game playing (Local (narrowed p) word) (Local p word) (narrowed_events (λ n. Local n word) (λ n. nobodys_local settings game playing.core n word) p))
  asked_events (Tells p frame word) call e =
      subst (λ c. IsEvents texts settings game playing (Tells p frame word) (event_of c)) (same_call _ call e)
      (alike_events texts settings game playing (Remote (narrowed p) frame word) (Remote p frame word) (narrowed_events (λ n. Remote n frame word) (λ n. nobodys_remote settings game playing.core n frame word) p))
  asked_events (Leaves p) call e =
      subst (λ c. IsEvents texts settings game playing (Leaves p) (event_of c)) (same_call _ call e)
      (alike_events texts settings game playing (Disconnect (narrowed p)) (Disconnect p) (narrowed_events (λ n. Disconnect n) (λ n. nobodys_leaving settings game playing.core n) p))
  asked_events Syncs call e = subst (λ c. IsEvents texts settings game playing Syncs (event_of c)) (same_call _ call e) (refl, refl, refl)
  asked_events Advances call e = subst (λ c. IsEvents texts settings game playing Advances (event_of c)) (same_call _ call e) (refl, refl, refl)
  asked_events (Guess player until words) call e = absurd (cc)
  asked_events (Extend job) call e = absurd (cc)
  asked_events Claim call e = absurd (cc)

  -- a guess for a number past all players' is nobody's
  guessed_narrowed : (p : ℕ) (words : List ℕ) (until : ℕ) → guessed settings game playing.core (narrowed p) words until ≡ guessed settings game playing.core p words until
  guessed_narrowed p words until = elim (narrowed_cases p) [
    | inl same ↦ ap (λ n. guessed settings game playing.core n words until) same
    | inr past ↦
        nobodys_guess (narrowed p) (subst (λ n. player_at playing.core.players n ≡ None) (sym past.0) refl)
        ∙ sym (nobodys_guess p (nobody_at playing.core.players p few past.1))
  ]
    where
      nobodys_guess : (n : ℕ) → player_at playing.core.players n ≡ None → guessed settings game playing.core n words until ≡ Err InvalidPlayer
      nobodys_guess n none = rw none refl

  pub asked_guess : (n p : ℕ) (given words : List ℕ) (until : ℕ) → n ≡ narrowed p → given ≡ words → guessed settings game playing.core n given until ≡ guessed settings game playing.core p words until
  asked_guess n p given words until number same = (λ i. guessed settings game playing.core (number i) (same i) until) ∙ guessed_narrowed p words until
