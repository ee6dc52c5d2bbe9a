use Rattle.std.proofs.Common.{◌≡◌, ℕ, ◌==◌, List, map, Option}
use Rattle.std.specs.Prelude.{Result, Ok, Err, IfOk}
use Rattle.std.specs.List.{slice_split}
use Rattle.roll_text.specs.Text.{Reads}
use Rattle.prog_scripts.specs.declared.command.Command.{Command}
use Rattle.prog_scripts.specs.Commands.{IsCommand, fields_of, line_of}
use Rattle.prog_scripts.proofs.Spelled.{no-line, reads-line}
use Rattle.prog_scripts.proofs.command.Command.read.Goals as goal

pub returns-in_default : goal.returns-in_default
returns-in_default c = no-line c.args.line.now (λ few. let yes = c.in_default.ensures.variant.1 few in cc)

pub returns : goal.returns
returns c = go c.from_fields.result c.from_fields.ensures
  where
    fields : List (List ℕ)
    fields = map (λ field. field.now) c.deref.result.now

    cut : fields ≡ slice_split (λ b. b == 32) c.args.line.now
    cut = rw c.deref.ensures.0 c.in-Some.ensures.value

    go : {E : Type 0} (r : Result (Option Command) E) → IfOk r (λ command. Reads IsCommand fields_of fields command) → IfOk r (λ command. Reads IsCommand line_of c.args.line.now command)
    go (Ok command) h = reads-line c.args.line.now command (rw (← cut) h)
    go (Err e) h = tt
