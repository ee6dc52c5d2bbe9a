use Rattle.std.proofs.Common.{rules, codes, ◌≡◌}
use Rattle.std.proofs.lemmas.Result.{IfOk-weaker}
use Rattle.clap.specs.Simple.{app_of, new_app}
use Rattle.prog_command_line.specs.Commands.{with_version}
use Rattle.prog_command_line.proofs.RuleLemmas.{has_command}
use Rattle.prog_command_line.proofs.commands.program_command.Goals as goal

pub returns : goal.returns
returns c =
    let new_is : app_of c.after_help-program.result ≡ with_version (new_app (codes "rollduel")) = search rules in
    let play = c.play_command.ensures in
    let with_play = has_command c.play_command.result _ _ _ _ c.in_ok-program.ensures play.app play.local new_is in
    let live = c.live_command.ensures in
    let with_live = has_command c.live_command.result _ _ _ _ c.in_ok-program-2.ensures live.app live.local with_play in
    let test = c.synctest_command.ensures in
    let with_test = has_command c.synctest_command.result _ _ _ _ c.in_ok-program-3.ensures test.app test.local with_live in
    let certify = c.certify_command.ensures in
    IfOk-weaker c.with_command-4.result _ _ (λ command added.
    has_command c.certify_command.result _ _ _ _ added certify.app certify.local with_test) c.with_command-4.ensures
