use Rattle.std.proofs.Common.{[], ◌∷◌, codes}
use Rattle.prog_command_line.specs.Commands.{explain_rule, file_rule, game_rule, number_rule}
use Rattle.prog_command_line.proofs.RuleLemmas.{has_rules}
use Rattle.prog_command_line.proofs.commands.synctest_command.Goals as goal

pub returns-clause-app : goal.returns-clause-app
returns-clause-app c =
    has_rules c.with_arguments.result _ _ (file_rule ∷ game_rule c.args.games ∷ number_rule (codes "frames") (codes "1") 1 8 ∷ explain_rule ∷ []) c.with_arguments.ensures.app c.new_command-command.ensures.app
