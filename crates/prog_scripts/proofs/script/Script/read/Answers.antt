use Rattle.std.proofs.Common.{◌≡◌, ◌∙◌, arith, sym}
use Rattle.std.proofs.lemmas.Grind.{common_steps}
use Rattle.roll_text.proofs.Headed.{no_item_next}
use Rattle.prog_scripts.specs.Headers.{setup_of}
use Rattle.prog_scripts.proofs.Unplayed.{scripts}
use Rattle.prog_scripts.proofs.script.Script.read.Goals as goal

pub returns-in_default-clause-unreadable : goal.returns-in_default-clause-unreadable
returns-in_default-clause-unreadable c = λ line e.
    let none = rw c.in_default.is at c.in_ok-command.ensures in
    let now = c.loop-rest.invariant in
    let at : c.loop-rest.line ≡ line = cc in
    no_item_next scripts (setup_of c.in_ok-header.header) c.loop-rest.commands.items c.args.text.now c.loop-rest.rest.now line c.in_ok-header.ensures.header.0 now.each now.whole (sym at ∙ now.count) (grind (arith, common_steps)) none
