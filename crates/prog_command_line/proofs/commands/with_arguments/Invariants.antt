use Rattle.std.proofs.Common.{◌≡◌, map, take}
use Rattle.clap.specs.Simple.{app_of}
use Rattle.clap.specs.declared.builder.command.Command.TheViews.{out-Command}
use Rattle.prog_command_line.specs.Commands.{rule_for, with_rules}
use Rattle.prog_command_line.proofs.commands.with_arguments.Given as goal

abbrev pub invariant-loop-argument : goal.invariant-loop-argument
invariant-loop-argument l = record {
  app : app_of l.command ≡ with_rules (app_of l.fn.command) (map rule_for (take l.argument-index l.arguments));
  local : (out-Command l.command).has_globals ≡ (out-Command l.fn.command).has_globals;
}
