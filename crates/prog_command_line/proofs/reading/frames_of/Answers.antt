use Rattle.std.proofs.Common.{ap, ◌∙◌}
use Rattle.clap.proofs.WalkLemmas.{byte_read}
use Rattle.prog_command_line.specs.Requests.{frames_named}
use Rattle.prog_command_line.proofs.reading.frames_of.Goals as goal

pub returns-in-Some : goal.returns-in-Some
returns-in-Some c = c.from.ensures ∙ (c.unwrap_or.ensures ∙ (byte_read c.in-Some.value.now c.parse.result c.parse.ensures.value.0 ∙ ap frames_named c.in-Some.ensures))
