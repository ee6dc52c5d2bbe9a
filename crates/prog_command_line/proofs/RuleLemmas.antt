-- Commands with more arguments, and programs with more commands.
use Rattle.std.proofs.Common.{◌≡◌, ◌∙◌, ◌++◌, ◌∷◌, [], List, ap, ap₂, map, refl, false, Result, Ok, Err}
use Rattle.std.specs.Prelude.{IfOk, IsOkAnd}
use Rattle.clap.specs.Simple.{App, app_of, with_rule, with_subcommand}
use Rattle.clap.specs.Walk.{Rule}
use Rattle.clap.specs.declared.builder.command.Command.{Command}
use Rattle.clap.specs.declared.builder.command.Command.TheViews.{out-Command}
use Rattle.prog_command_line.specs.Commands.{rule_for, with_rules}
use Rattle.prog_command_line.specs.declared.commands.Argument.{Argument}

pub with_one_more : (app : App) (arguments : List Argument) (last : Argument)
    → with_rules app (map rule_for (arguments ++ last ∷ [])) ≡ with_rule (with_rules app (map rule_for arguments)) (rule_for last)
with_one_more app [] last = refl
with_one_more app (first ∷ arguments) last = with_one_more (with_rule app (rule_for first)) arguments last

-- a command that was made has these arguments besides
pub has_rules : {E : Type 0} (made : Result Command E) (old app : App) (rules : List Rule)
    → IfOk made (λ more. app_of more ≡ with_rules old rules) → old ≡ app → IfOk made (λ more. app_of more ≡ with_rules app rules)
has_rules (Ok more) old app rules is same = is ∙ ap (λ (a : App). with_rules a rules) same
has_rules (Err e) old app rules is same = tt

-- a program with a command that was made
pub has_command : {E : Type 0} (made : Result Command E) (old program more command : App)
    → IsOkAnd made (λ sub. (out-Command sub).has_globals ≡ false → more ≡ with_subcommand old (app_of sub).top)
    → IfOk made (λ sub. app_of sub ≡ command) → IfOk made (λ sub. (out-Command sub).has_globals ≡ false) → old ≡ program
    → more ≡ with_subcommand program command.top
has_command (Ok sub) old program more command added app local same =
    added local ∙ ap₂ (λ (above below : App). with_subcommand above below.top) same app
has_command (Err e) old program more command added app local same = absurd added
