-- Commands that were played live, one after another.
use Rattle.std.proofs.Common.{◌≡◌, ◌∙◌, ℕ, ◌+◌, List, [], ◌∷◌, ◌++◌, length, Bool, false, cond, refl, ap, sym, subst, arith, append-nil, Option}
use Rattle.std.specs.List.{flat_map}
use Rattle.std.specs.Prelude.{is_err, OnOk, Result, Ok, Err}
use Rattle.std.proofs.lemmas.Grind.{flat_map-append}
use Rattle.std.proofs.lemmas.List.{map-append}
use Rattle.std.proofs.lemmas.List.Sums.{sum_by-append}
use Rattle.roll_frame.specs.declared.refusal.Refusal.{Refusal}
use Rattle.roll_host.specs.Heard.{AreHeard}
use Rattle.roll_link.specs.declared.remote.Remote.{Remote}
use Rattle.roll_session.proofs.Runs.{played_none}
use Rattle.roll_session.specs.Seen.{Seen, Step}
use Rattle.prog_scripts.specs.Output.{Texts}
use Rattle.prog_scripts.specs.declared.command.Command.{Command}
use Rattle.roll_live.specs.Told.{Line, IsTold}
use Rattle.roll_live.specs.Tellings.{AreTold, IsLive, Telling}

-- what holds of a call that succeeds
pub succeeded : {X Y : Type 0} (r : Result X Y) (P : Type 0) → is_err r ≡ false → OnOk r P → P
succeeded (Ok x) P e h = h
succeeded (Err y) P e h = absurd (cc e)

module _ (step : Step) where
  -- items that were heard from the same session
  pub heard_since : (old mid new : Seen) (items : List Remote) (refused : ℕ) (why : Option Refusal) → mid ≡ old → AreHeard step mid new items refused why → AreHeard step old new items refused why
  heard_since old mid new items refused why same h = subst (λ (s : Seen). AreHeard step s new items refused why) same h

  -- no items leave the session as it was
  pub nothing_heard : (old new : Seen) (items : List Remote) (refused : ℕ) (why : Option Refusal) → AreHeard step old new items refused why → length items ≡ 0 → new ≡ old
  nothing_heard old new [] refused why h e = h.played.seen ∙ sym (played_none step old).seen
  nothing_heard old new (item ∷ items) refused why h e = absurd (omega (arith, e))

module _ (step : Step) (texts : Texts) where
  told_push : (old mid new : Seen) (tellings : List Telling) (command : Command) (line : Line) → AreTold step texts old tellings mid → IsTold step texts mid new command line
      → AreTold step texts old (tellings ++ record { command = command; line = line; after = new } ∷ []) new
  told_push old mid new [] command line a t = (subst (λ (s : Seen). IsTold step texts s new command line) a t, refl)
  told_push old mid new (first ∷ more) command line a t = (a.0, told_push first.after mid new more command line a.1 t)

  -- no command was played yet
  pub live_none : (s : Seen) → IsLive step texts s s [] [] 0
  live_none s = record { tellings = []; commands_are = refl; are_told = refl; written_is = refl; refused_is = refl }

  -- one more was
  pub live_more : (old mid new : Seen) (commands : List Command) (written : List ℕ) (refused : ℕ) (command : Command) (text : List ℕ) (is : Bool) → IsLive step texts old mid commands written refused
      → IsTold step texts mid new command (record { text = text; refused = is }) → IsLive step texts old new (commands ++ command ∷ []) (written ++ text) (refused + cond is 1 0)
  live_more old mid new commands written refused command text is a t =
      let line : Line = record { text = text; refused = is } in
      let last : Telling = record { command = command; line = line; after = new } in
      record {
        tellings = a.tellings ++ last ∷ [];
        commands_are = rw a.commands_are (sym (map-append (λ (x : Telling). x.command) a.tellings (last ∷ [])));
        are_told = told_push old mid new a.tellings command line a.are_told t;
        written_is = ap (λ w. w ++ text) a.written_is ∙ ap (λ w. flat_map (λ (x : Telling). x.line.text) a.tellings ++ w) (sym (append-nil text)) ∙ sym (flat_map-append (λ (x : Telling). x.line.text) a.tellings (last ∷ []));
        refused_is = let all = sum_by-append (λ (x : Telling). cond x.line.refused 1 0) a.tellings (last ∷ []) in omega (arith, a.refused_is, all);
      }
