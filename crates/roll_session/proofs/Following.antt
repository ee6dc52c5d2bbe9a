-- A session that follows its log: laws of it, and its next entry.
use Rattle.std.proofs.Common.{◌≡◌, ◌∙◌, List, [], ◌∷◌, ◌++◌, ap, sym, subst, true}
use Rattle.std.specs.Prelude.{fold}
use Rattle.std.proofs.lemmas.List.Sums.{fold-append}
use Rattle.roll_frame.specs.Core.{Core, first_core}
use Rattle.roll_frame.specs.Events.{CoreEvent, applied, is_accepted, played_from, replay}
use Rattle.roll_frame.specs.declared.entry.Entry.{Entry}
use Rattle.roll_frame.specs.declared.settings.Settings.{Settings}
use Rattle.roll_game.specs.declared.counts.Counts.{Counts}
use Rattle.roll_laws.specs.Laws.{Always, EverAfter}
use Rattle.roll_laws.proofs.Glue.{always_holds, ever_holds, log_more, replay-push}
use Rattle.roll_session.specs.Answered.{with_entries}
use Rattle.roll_session.specs.Held.{IsSmall}
use Rattle.roll_session.proofs.Holding.{is_small}
use Rattle.roll_session.specs.Seen.{FollowsLog, Seen, Step, game_of}

-- more entries than a log has
pub replay-append : (settings : Settings) (log more : List Entry)
    → fold applied (replay settings log) more ≡ replay settings (log ++ more)
unfolding replay
replay-append settings log more = sym (fold-append applied (first_core settings) log more)

module _ (step : Step) (s : Seen) (f : FollowsLog step s) where
  -- a law of all cores
  pub law_of : (P : Settings → Core → Type 0) → Always P → P s.settings s.core
  law_of P law =
      subst (P s.settings) (sym f.core)
      (always_holds P law s.settings (game_of step s) s.log f.log)

  -- an event is accepted
  pub follows_more : (event : CoreEvent) (counts : Counts)
      → is_accepted s.settings (game_of step s) s.core event ≡ true
      → FollowsLog step (with_entries s (event.entry ∷ []) counts)
  follows_more event counts e = record {
    log =
        log_more s.settings (game_of step s) s.log event f.log
        (subst (λ (c : Core). is_accepted s.settings (game_of step s) c event ≡ true) f.core e);
    core =
        ap (λ (c : Core). applied c event.entry) f.core
        ∙ sym (replay-push s.settings s.log event.entry);
  }

  -- a law of a core and of any later one
  pub ever_of : (P : Core → Core → Type 0) → EverAfter P → (events : List CoreEvent) (later : Core)
      → later ≡ played_from s.settings (game_of step s) s.core events → P s.core later
  ever_of P law events later e =
      subst (λ (c : Core). P c later) (sym f.core)
      (ever_holds P law f.log events later
      (e ∙ ap (λ (c : Core). played_from s.settings (game_of step s) c events) f.core))

  pub small_of : IsSmall s.settings s.log s.core
  small_of = subst (IsSmall s.settings s.log) (sym f.core) (is_small s.settings (game_of step s) s.log f.log)
