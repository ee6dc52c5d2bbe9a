-- Commands that are played live, one after another.
use Rattle.std.specs.Prelude.{◌≡◌, ℕ, List, [], ◌∷◌, count_by, map}
use Rattle.std.specs.List.{flat_map}
use Rattle.roll_session.specs.Seen.{Seen, Step}
use Rattle.prog_scripts.specs.Output.{Texts}
use Rattle.prog_scripts.specs.declared.command.Command.{Command}
use Rattle.roll_live.specs.Told.{Line, IsTold}

-- a command, what it wrote, and the session after it
pub record Telling : Type 0 where
  pub command : Command
  pub line : Line
  pub after : Seen

module _ (step : Step) (texts : Texts) where
  -- commands one after another
  abbrev pub AreTold : Seen → List Telling → Seen → Type 0
  AreTold old [] new = new ≡ old
  AreTold old (first ∷ more) new =
      IsTold step texts old first.after first.command first.line × AreTold first.after more new

  -- these commands were played, which wrote this, with so many refusals
  pub record IsLive (old new : Seen) (commands : List Command) (written : List ℕ) (refused : ℕ)
      : Type 0 where
    pub tellings : List Telling
    pub commands_are : commands ≡ map (λ telling. telling.command) tellings
    pub are_told : AreTold old tellings new
    pub written_is : written ≡ flat_map (λ telling. telling.line.text) tellings
    pub refused_is : refused ≡ count_by (λ telling. telling.line.refused) tellings
