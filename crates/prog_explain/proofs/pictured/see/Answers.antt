use Rattle.prog_scripts.specs.Plays.{play_of}
use Rattle.prog_scripts.proofs.Few.{few_commands}
use Rattle.prog_explain.proofs.pictured.see.Goals as goal

pub picture-requires-clause-few : goal.picture-requires-clause-few
picture-requires-clause-few c = few_commands (play_of c.in-Ok.script) c.args.text.now c.in-Ok.ensures.spelled c.requires
