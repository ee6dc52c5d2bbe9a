-- A session but for some of its game's counts, of which no event changes any, and for what is reserved.
use Rattle.std.proofs.Common.{◌≡◌, ◌∙◌, ℕ, zero, suc, ◌+◌, ◌-◌, List, [], ◌∷◌, ◌++◌, length, Bool, true, false, cond, refl, ap, sym, arith}
use Rattle.std.specs.Prelude.{fold}
use Rattle.roll_frame.specs.Core.{Core, cost}
use Rattle.roll_frame.specs.Events.{CoreEvent, after, applied, is_accepted, log_from}
use Rattle.roll_frame.specs.Games.{Game}
use Rattle.roll_frame.specs.declared.entry.Entry.{Entry}
use Rattle.roll_frame.specs.declared.entry.Entry.TheVariants.{Local, Remote, Disconnect, Sync, Advance, Graft, Partial}
use Rattle.roll_frame.specs.declared.settings.Settings.{Settings}
use Rattle.roll_game.specs.Counts.{counted, rolled, stepped}
use Rattle.roll_game.specs.declared.counts.Call.TheVariants.{Save, Advance as Turn, Load}
use Rattle.roll_game.specs.declared.counts.Counts.{Counts}
use Rattle.roll_session.specs.Answered.{counts_by, counts_from, IsPlayed}
use Rattle.roll_session.specs.Seen.{Seen, Step, game_of}
use Rattle.roll_session.specs.Others.{bare}

-- what changes none of the counts that a rollback changes
pub record IsAside (f : Counts → Counts) : Type 0 where
  pub load : (c : Counts) → counted Load true (f c) ≡ f (counted Load true c)
  pub step : (c : Counts) → counted Save true (counted Turn true (f c)) ≡ f (counted Save true (counted Turn true c))

-- a session with such counts, in which nothing is reserved
abbrev pub aside : (Counts → Counts) → Seen → Seen
aside f s = record s { counts = f s.counts; reserved = 0 }

module _ (f : Counts → Counts) (is : IsAside f) where
  stepped_aside : (n : ℕ) (c : Counts) → stepped n (f c) ≡ f (stepped n c)
  stepped_aside zero c = refl
  stepped_aside (suc n) c = ap (λ (x : Counts). counted Save true (counted Turn true x)) (stepped_aside n c) ∙ is.step (stepped n c)

  rolled_aside : (n : ℕ) (c : Counts) → rolled n (f c) ≡ f (rolled n c)
  rolled_aside n c = ap (stepped n) (is.load c) ∙ stepped_aside n (counted Load true c)

  by_aside : (core : Core) (entry : Entry) (c : Counts) → counts_by core entry (f c) ≡ f (counts_by core entry c)
  by_aside core Sync c = rolled_aside (cost core core.frame) c
  by_aside core Advance c = rolled_aside (cost core (core.frame + 1)) c
  by_aside core (Local p word) c = refl
  by_aside core (Remote p frame word) c = refl
  by_aside core (Disconnect p) c = refl
  by_aside core (Graft ticket route) c = refl
  by_aside core (Partial to made) c = refl

  from_aside : (settings : Settings) (game : Game) (core : Core) (events : List CoreEvent) (c : Counts) → counts_from settings game core events (f c) ≡ f (counts_from settings game core events c)
  from_aside settings game core [] c = refl
  from_aside settings game core (event ∷ events) c =
      ap (counts_from settings game (after settings game core event) events) (go (is_accepted settings game core event)) ∙ from_aside settings game (after settings game core event) events (cond (is_accepted settings game core event) (counts_by core event.entry c) c)
    where
      go : (b : Bool) → cond b (counts_by core event.entry (f c)) (f c) ≡ f (cond b (counts_by core event.entry c) c)
      go true = by_aside core event.entry c
      go false = refl

  -- so events make of it what they make of the session itself
  pub played_aside : (step : Step) (old new : Seen) (events : List CoreEvent) → IsPlayed step old new events → IsPlayed step (aside f old) (aside f new) events
  played_aside step old new events p =
      let log : List Entry = log_from old.settings (game_of step old) old.core events in
      let none : 0 ≡ 0 - length log = omega arith in
      record {
        seen = ap (aside f) p.seen ∙ (λ i. record old { core = fold applied old.core log; log = old.log ++ log; counts = sym (from_aside old.settings (game_of step old) old.core events old.counts) i; reserved = none i });
        core = p.core;
      }

-- copies are such a count
pub played_bare : (step : Step) (old new : Seen) (events : List CoreEvent) → IsPlayed step old new events → IsPlayed step (bare old) (bare new) events
played_bare step old new events p = played_aside (λ (c : Counts). record c { copies = 0 }) (record { load = λ c. refl; step = λ c. refl }) step old new events p
