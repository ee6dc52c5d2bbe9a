use Rattle.std.proofs.Common.{[], ◌∷◌}
use Rattle.prog_command_line.specs.Commands.{explain_rule, file_rule}
use Rattle.prog_command_line.proofs.RuleLemmas.{has_rules}
use Rattle.prog_command_line.proofs.commands.certify_command.Goals as goal

pub returns-clause-app : goal.returns-clause-app
returns-clause-app c =
    has_rules c.with_arguments.result _ _ (file_rule ∷ explain_rule ∷ []) c.with_arguments.ensures.app c.new_command-command.ensures.app
