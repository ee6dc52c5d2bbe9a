use Rattle.std.proofs.Common.{[], ◌∷◌, codes, List}
use Rattle.clap.specs.Walk.{Rule}
use Rattle.prog_command_line.specs.Commands.{explain_rule, file_rule, frame_rule, game_rule, picture_rule}
use Rattle.prog_command_line.proofs.RuleLemmas.{has_rules}
use Rattle.prog_command_line.proofs.commands.play_command.Goals as goal

pub returns-clause-app : goal.returns-clause-app
returns-clause-app c =
    let rules : List Rule = file_rule ∷ game_rule c.args.games ∷ explain_rule ∷ picture_rule ∷ frame_rule (codes "from") ∷ frame_rule (codes "to") ∷ frame_rule (codes "tree") ∷ [] in
    has_rules c.with_arguments.result _ _ rules c.with_arguments.ensures.app c.new_command-command.ensures.app
