-- A session that is watched after each command.
use Rattle.std.proofs.Common.{◌≡◌, ◌∙◌, List, [], ◌∷◌, ◌++◌, Bool, false, refl, sym, ap}
use Rattle.std.specs.Prelude.{Err, Ok, OnOk, Result}
use Rattle.std.specs.Result.{is_err}
use Rattle.std.proofs.lemmas.List.Sums.{fold_push}
use Rattle.prog_observer.specs.Observing.{Observed, after_watch}
use Rattle.prog_scripts.specs.Output.{Playing, after_command}
use Rattle.prog_scripts.specs.declared.command.Command.{Command}
use Rattle.roll_frame.specs.Core.{Core}
use Rattle.roll_frame.specs.Games.{Game}
use Rattle.roll_frame.specs.declared.settings.Settings.{Settings}
use Rattle.roll_session.specs.Seen.{Seen}
use Rattle.prog_explain.proofs.Noting.{after_commands}
use Rattle.prog_explain.specs.Pictured.{seen_after, seen_by, session_at}

-- of a call that went well
pub on_ok : {X E P : Type 0} (r : Result X E) → is_err r ≡ false → OnOk r P → P
on_ok (Ok x) fine p = p
on_ok (Err e) fine p = cc

module _ (settings : Settings) (game : Game) where
  -- what is seen of a session hangs on its settings and on what has become of it alone
  pub watch_at : (seen : Observed) (s : Seen) (core : Core) (rolled : Bool) → s.settings ≡ settings → s.core ≡ core
      → after_watch seen s rolled ≡ after_watch seen (session_at settings game core) rolled
  watch_at seen s core rolled same_settings same_core =
      ap (λ (v : Settings). after_watch seen (session_at v game s.core) rolled) same_settings
      ∙ ap (λ (c : Core). after_watch seen (session_at settings game c) rolled) same_core

  -- a command more
  seen_push : (playing : Playing) (commands : List Command) (command : Command) (seen : Observed)
      → seen_by settings game playing (commands ++ command ∷ []) seen
      ≡ seen_after settings game (after_commands settings game playing commands) command (seen_by settings game playing commands seen)
  seen_push playing [] command seen = refl
  seen_push playing (first ∷ commands) command seen =
      seen_push (after_command settings game playing first) commands command (seen_after settings game playing first seen)

  -- what was seen of so many commands
  pub record IsSeenOf (playing now : Playing) (done : List Command) (before after : Observed) : Type 0 where
    pub is_now : now ≡ after_commands settings game playing done
    pub is_seen : after ≡ seen_by settings game playing done before

  pub seen_none : (playing : Playing) (before : Observed) → IsSeenOf playing playing [] before before
  seen_none playing before = record { is_now = refl; is_seen = refl }

  pub seen_more : (playing now new : Playing) (done : List Command) (command : Command) (before mid after : Observed) → IsSeenOf playing now done before mid
      → new ≡ after_command settings game now command → after ≡ seen_after settings game now command mid → IsSeenOf playing new (done ++ command ∷ []) before after
  seen_more playing now new done command before mid after so_far next seen =
      record {
        is_now = next ∙ ap (λ (p : Playing). after_command settings game p command) so_far.is_now ∙ sym (fold_push (after_command settings game) playing done command);
        is_seen =
            seen ∙ ap (λ (p : Playing). seen_after settings game p command mid) so_far.is_now
            ∙ ap (λ (o : Observed). seen_after settings game (after_commands settings game playing done) command o) so_far.is_seen
            ∙ sym (seen_push playing done command before);
      }
