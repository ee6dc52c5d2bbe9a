use Rattle.std.proofs.Common.{ap, ◌∙◌}
use Rattle.prog_command_line.proofs.NumberLemmas.{number_read}
use Rattle.prog_command_line.specs.Requests.{number_named}
use Rattle.prog_command_line.proofs.reading.byte_of.Goals as goal

pub returns-in-Some : goal.returns-in-Some
returns-in-Some c = c.unwrap_or.ensures ∙ (number_read 8 c.in-Some.value.now c.parse.result c.parse.ensures.value.0 ∙ ap (number_named 8) c.in-Some.ensures)
