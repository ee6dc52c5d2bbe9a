use Rattle.prog_scripts.specs.Plays.{play_of}
use Rattle.prog_scripts.proofs.Few.{few_commands}
use Rattle.prog_scripts.proofs.reading.read_script.Goals as goal

pub returns-clause-few : goal.returns-clause-few
returns-clause-few g c = few_commands (play_of c.in_ok-script.script) c.deref.result.now c.in_ok-script.ensures.spelled (rw c.deref.ensures.value c.in_ok-text.ensures.short)
