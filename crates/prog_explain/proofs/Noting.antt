-- Notes on commands that are refused, one after another.
use Rattle.std.proofs.Common.{◌≡◌, ◌∙◌, ◌+◌, ℕ, List, [], ◌∷◌, ◌++◌, length, refl, ap, sym, subst, arith, append-nil, append_assoc, Option, Some, None, Result, Ok, Err}
use Rattle.std.specs.Prelude.{◌≢◌, OnOk, fold, unwrap_or}
use Rattle.std.proofs.lemmas.List.Sums.{fold_push}
use Rattle.prog_scripts.specs.Output.{Playing, after_command, refusal_by}
use Rattle.prog_scripts.specs.declared.command.Command.{Command}
use Rattle.roll_frame.specs.Games.{Game}
use Rattle.roll_frame.specs.declared.refusal.Refusal.{Refusal}
use Rattle.roll_frame.specs.declared.refusal.Refusal.TheVariants.{NoMemory}
use Rattle.roll_frame.specs.declared.settings.Settings.{Settings}
use Rattle.prog_explain.specs.Noted.{AreNoted, IsNoted, refusals_by}

-- a note more
noted_push : (line place : ℕ) (whys : List (Option Refusal)) (why : Option Refusal) (notes note : List ℕ) → line + length whys ≡ place → AreNoted line whys notes → IsNoted place why note → AreNoted line (whys ++ why ∷ []) (notes ++ note)
noted_push line place [] why notes note at before one =
    (note, [], subst (λ (n : ℕ). IsNoted n why note) (omega (arith, at)) one, refl, ap (λ (ns : List ℕ). ns ++ note) before ∙ sym (append-nil note))
noted_push line place (first ∷ whys) why notes note at before one = (
  before.0,
  before.1 ++ note,
  before.2,
  noted_push (line + 1) place whys why before.1 note (omega (arith, at)) before.3 one,
  ap (λ (ns : List ℕ). ns ++ note) before.4 ∙ append_assoc before.0 before.1 note,
)

module _ (settings : Settings) (game : Game) where
  -- what commands make of a script
  abbrev pub after_commands : Playing → List Command → Playing
  after_commands playing commands = fold (after_command settings game) playing commands

  -- a command more
  refusals_push : (playing : Playing) (commands : List Command) (command : Command)
      → refusals_by settings game playing (commands ++ command ∷ []) ≡ refusals_by settings game playing commands ++ refusal_by settings game (after_commands playing commands) command ∷ []
  refusals_push playing [] command = refl
  refusals_push playing (first ∷ commands) command = ap (λ (whys : List (Option Refusal)). refusal_by settings game playing first ∷ whys) (refusals_push (after_command settings game playing first) commands command)

  length_refusals : (playing : Playing) (commands : List Command) → length (refusals_by settings game playing commands) ≡ length commands
  length_refusals playing [] = refl
  length_refusals playing (first ∷ commands) = omega (arith, length_refusals (after_command settings game playing first) commands)

  -- notes on so many commands
  pub record AreNotedOf (playing now : Playing) (done : List Command) (before after : List ℕ) : Type 0 where
    pub is_now : now ≡ after_commands playing done
    pub notes : List ℕ
    pub are : AreNoted 2 (refusals_by settings game playing done) notes
    pub after_is : after ≡ before ++ notes

  pub noted_none : (playing : Playing) (before : List ℕ) → AreNotedOf playing playing [] before before
  noted_none playing before = record { is_now = refl; notes = []; are = refl; after_is = sym (append-nil before) }

  pub noted_more : (playing now new : Playing) (done : List Command) (command : Command) (why : Option Refusal) (before mid after note : List ℕ) (line : ℕ) → AreNotedOf playing now done before mid
      → new ≡ after_command settings game now command → why ≡ refusal_by settings game now command → line ≡ length done + 2 → IsNoted line why note → after ≡ mid ++ note
      → AreNotedOf playing new (done ++ command ∷ []) before after
  noted_more playing now new done command why before mid after note line so_far next refused at one grown =
      record {
        is_now = next ∙ ap (λ (p : Playing). after_command settings game p command) so_far.is_now ∙ sym (fold_push (after_command settings game) playing done command);
        notes = so_far.notes ++ note;
        are =
            subst (λ (whys : List (Option Refusal)). AreNoted 2 whys (so_far.notes ++ note)) (sym (refusals_push playing done command))
            (noted_push 2 line (refusals_by settings game playing done) (refusal_by settings game (after_commands playing done) command) so_far.notes note (omega (arith, at, length_refusals playing done)) so_far.are
            (subst (λ (w : Option Refusal). IsNoted line w note) (refused ∙ ap (λ (p : Playing). refusal_by settings game p command) so_far.is_now) one));
        after_is = grown ∙ ap (λ (ns : List ℕ). ns ++ note) so_far.after_is ∙ append_assoc before so_far.notes note;
      }

  -- notes on all of them
  pub noted_all : (playing now : Playing) (done commands : List Command) (before after : List ℕ) → done ≡ commands → AreNotedOf playing now done before after
      → (notes : List ℕ) × AreNoted 2 (refusals_by settings game playing commands) notes × (after ≡ before ++ notes)
  noted_all playing now done commands before after all so_far =
      (so_far.notes, subst (λ (cs : List Command). AreNoted 2 (refusals_by settings game playing cs) so_far.notes) all so_far.are, so_far.after_is)

-- a note on a start that was refused, other than for want of memory
noted_why : (refusal : Option Refusal) (why : Refusal) (note : List ℕ) → why ≡ unwrap_or refusal NoMemory → why ≢ NoMemory → IsNoted 1 (Some why) note → IsNoted 1 refusal note
noted_why None why note is other noted = absurd (other is)
noted_why (Some known) why note is other noted = subst (λ (w : Refusal). IsNoted 1 (Some w) note) is noted

pub noted_start : {E : Type 0} (told : Result (Unit {0}) E) (refusal : Option Refusal) (why : Refusal) (before after : List ℕ) → why ≡ unwrap_or refusal NoMemory → OnOk told (why ≢ NoMemory)
    → OnOk told ((note : List ℕ) × IsNoted 1 (Some why) note × (after ≡ before ++ note)) → OnOk told ((note : List ℕ) × IsNoted 1 refusal note × (after ≡ before ++ note))
noted_start (Ok done) refusal why before after is other noted = (noted.0, noted_why refusal why noted.0 is other noted.1, noted.2)
noted_start (Err fault) refusal why before after is other noted = tt
