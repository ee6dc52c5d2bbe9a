use Rattle.prog_scripts.specs.Plays.{play_of}
use Rattle.prog_scripts.proofs.Few.{few_commands}
use Rattle.prog_explain.proofs.explained.note_refusals.Goals as goal

pub note_played-requires-clause-few : goal.note_played-requires-clause-few
note_played-requires-clause-few c = few_commands (play_of c.in_ok-script-in-Play.script) c.args.text.now c.in_ok-script-in-Play.ensures.spelled c.requires
