use Rattle.std.proofs.Common.{◌∙◌, sym}
use Rattle.roll_text.proofs.LineTexts.{first_line-unique}
use Rattle.prog_scripts.specs.Commands.{line_of}
use Rattle.prog_scripts.proofs.Spelled.{line-lacks}
use Rattle.prog_scripts.proofs.command.any_command.Goals as goal

pub returns-in_default-2 : goal.returns-in_default-2
returns-in_default-2 c = λ command after fits whole.
    let cut = c.in-Some.ensures in
    let none = rw c.in_default-2.is at c.in_ok-command.ensures in
    none command fits (first_line-unique c.in-Some.line.now (line_of command) c.in-Some.after.now after cut.0 (line-lacks command fits) (sym cut.1 ∙ whole)).0
