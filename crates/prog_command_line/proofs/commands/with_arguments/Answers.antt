use Rattle.std.proofs.Common.{◌∙◌, [], List, ap, ap₂, get_or, map, refl, sym, take}
use Rattle.std.proofs.lemmas.List.{take_all, take_more}
use Rattle.clap.specs.Simple.{App, app_of, with_rule}
use Rattle.prog_command_line.specs.Commands.{rule_for, with_rules}
use Rattle.prog_command_line.specs.declared.commands.Argument.{Argument}
use Rattle.prog_command_line.specs.declared.commands.Argument.TheVariants.{File}
use Rattle.prog_command_line.proofs.LocalFlags.{still}
use Rattle.prog_command_line.proofs.RuleLemmas.{with_one_more}
use Rattle.prog_command_line.proofs.commands.with_arguments.Goals as goal

abbrev none : Argument
none = File (record { ref_ptr = (0, 0); now = [] })

pub loop-argument-init : goal.loop-argument-init
loop-argument-init c = record { app = refl; local = refl }

pub loop-argument-preserved : goal.loop-argument-preserved
loop-argument-preserved c =
    let now = c.loop-argument.invariant in
    let old : App = app_of c.args.command in
    let place = c.loop-argument.argument-index in
    let arguments : List Argument = c.args.arguments.now in
    let more = take_more arguments place none c.loop-argument-test.true in
    record {
      app = c.in_ok-command.ensures.shape c.arg_of.ensures.local ∙ ap₂ with_rule now.app c.arg_of.ensures.rule
          ∙ sym (with_one_more old (take place arguments) (get_or arguments place none)) ∙ ap (λ (xs : List Argument). with_rules old (map rule_for xs)) (sym more);
      local = c.in_ok-command.ensures.globals ∙ still _ c.arg_of.ensures.local ∙ now.local;
    }

pub returns-clause-app : goal.returns-clause-app
returns-clause-app c =
    let arguments : List Argument = c.args.arguments.now in
    c.loop-argument.invariant.app
    ∙ ap (λ (xs : List Argument). with_rules (app_of c.args.command) (map rule_for xs)) (take_all c.loop-argument.argument-index arguments c.loop-argument-test.false)
