-- What is settled stays, whatever event comes.
use Rattle.std.proofs.Common.{◌≡◌, ℕ, ◌≤◌, [], ◌∷◌, ◌++◌, take, refl, ap, sym, subst, ◌∙◌, arith, inl, inr}
use Rattle.std.specs.Prelude.{true}
use Rattle.std.proofs.lemmas.List.Sums.{fold-append}
use Rattle.roll_frame.specs.Core.{Core, settled}
use Rattle.roll_frame.specs.Events.{CoreEvent, after, applied, is_accepted, played}
use Rattle.roll_frame.specs.Games.{Game}
use Rattle.roll_frame.specs.Timeline.{timeline}
use Rattle.roll_frame.specs.declared.reply.Reply.{Reply}
use Rattle.roll_frame.specs.declared.settings.Settings.{Settings}
use Rattle.roll_inputs.specs.Boards.{Inputs}
use Rattle.roll_session.specs.Held.{inputs_of}
use Rattle.roll_laws.proofs.Accepted.{after_accepted}
use Rattle.roll_laws.proofs.Glue.{log_played}
use Rattle.roll_laws.proofs.KeptPaths.{settled_never_falls, settled_rows_stay}
use Rattle.roll_laws.proofs.Saved.{take_timeline}
use Rattle.roll_session.specs.Answered.{IsAnswered, IsReplied, IsShort}
use Rattle.roll_session.specs.Calls.{event_of, IsInput}
use Rattle.roll_session.specs.Seen.{FollowsLog, Seen, Step, game_of}
use Rattle.roll_session.specs.declared.event.Call.{Call}
use Rattle.roll_session.specs.declared.event.Call.TheVariants.{Sync as SyncCall, Advance as AdvanceCall}

-- the settled frame didn't fall, and the rows before it are the same
pub record Stays (old new : Core) : Type 0 where
  pub rises : settled old ≤ settled new
  pub rows : timeline new.players (settled old) ≡ timeline old.players (settled old)

pub stays_same : (core : Core) → Stays core core
stays_same core = record { rises = omega arith; rows = refl }

pub stays_after : (step : Step) (s : Seen) → FollowsLog step s → (event : CoreEvent) → Stays s.core (after s.settings (game_of step s) s.core event)
stays_after step s f event =
    let game : Game = game_of step s in
    let l = f.log in
    let is_core : s.core ≡ played s.settings game l.events = f.core ∙ log_played s.settings game s.log l in
    let next : played s.settings game (l.events ++ event ∷ []) ≡ after s.settings game (played s.settings game l.events) event = fold-append (after s.settings game) _ l.events (event ∷ []) in
    subst (λ (core : Core). Stays core (after s.settings game core event)) (sym is_core)
    (subst (Stays (played s.settings game l.events)) next
    (record { rises = settled_never_falls s.settings game l.events (event ∷ []) l.starts; rows = settled_rows_stay s.settings game l.events (event ∷ []) l.starts }))

pub stays_applied : (step : Step) (s : Seen) → FollowsLog step s → (event : CoreEvent) → is_accepted s.settings (game_of step s) s.core event ≡ true → Stays s.core (applied s.core event.entry)
stays_applied step s f event a = subst (Stays s.core) (after_accepted s.settings (game_of step s) s.core event a) (stays_after step s f event)

stays_answered_by : (step : Step) (old new : Seen) (event : CoreEvent) (said : Reply) → FollowsLog step old → IsReplied step old new event said → Stays old.core new.core
stays_answered_by step old new event said f r = subst (Stays old.core) (sym r.played.core) (stays_after step old f event)

stays_short : (step : Step) (old new : Seen) (call : Call) → IsInput call → IsShort step old new (event_of call) → Stays old.core new.core
stays_short step old new SyncCall i h = absurd i
stays_short step old new AdvanceCall i h = absurd i
stays_short step old new call i h =
    elim h.left [
      | inl same ↦ subst (λ (s : Seen). Stays old.core s.core) (sym same.0) (stays_same old.core)
      | inr cut ↦ absurd cut
    ]

-- after a player's input, or where it is refused
pub stays_answered : (step : Step) (old new : Seen) (call : Call) (said : Reply) → IsInput call → FollowsLog step old → IsAnswered step old new (event_of call) said → Stays old.core new.core
stays_answered step old new call said i f (inl r) = stays_answered_by step old new (event_of call) said f r
stays_answered step old new call said i f (inr h) = stays_short step old new call i h.1

-- so are the rows up to any frame before it
pub stays_before : (old new : Core) (base : ℕ) → base ≤ settled old → Stays old new → timeline new.players base ≡ timeline old.players base
stays_before old new base low s =
    sym (take_timeline new.players base (settled old) low) ∙ ap (take base) s.rows ∙ take_timeline old.players base (settled old) low

-- the same of inputs
pub record StaysIn (old new : Inputs) : Type 0 where
  pub rises : old.settled ≤ new.settled
  pub before : (base : ℕ) → base ≤ old.settled → timeline new.players base ≡ timeline old.players base

pub stays_in : (settings later : Settings) (core next : Core) (old new : Inputs) → old ≡ inputs_of settings core → new ≡ inputs_of later next → Stays core next → StaysIn old new
stays_in settings later core next old new is_old is_new s =
    rw (is_old, is_new) (record { rises = s.rises; before = λ base low. stays_before core next base low s })
