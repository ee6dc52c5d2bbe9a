use Rattle.std.proofs.Common.{◌≡◌, subst, arith}
use Rattle.std.proofs.lemmas.Grind.{common_steps}
use Rattle.roll_text.specs.Text.{IsUnreadableAt}
use Rattle.roll_text.specs.Lines.{ended}
use Rattle.prog_scripts.specs.Headers.{header_of, setup_of}
use Rattle.prog_scripts.specs.Plays.{IsScript}
use Rattle.prog_scripts.proofs.Outlined.{read_more, shorter, unreadable_next}
use Rattle.prog_scripts.proofs.script.outline.Goals as goal

pub returns-in_default-clause-unreadable : goal.returns-in_default-clause-unreadable
returns-in_default-clause-unreadable c = λ line e.
    let header = c.in_ok-header.ensures.header in
    let none = rw c.in_default.is at c.in_ok-after.ensures in
    let at : c.loop-rest.line ≡ line = cc in
    subst (λ n. IsUnreadableAt n IsScript c.args.text.now) at
    (unreadable_next (setup_of c.in_ok-header.header) c.args.text.now c.in_ok-header.commands.now c.loop-rest.rest.now c.loop-rest.line header.0 header.1 c.loop-rest.invariant (grind (arith, common_steps)) none)

pub overflow_add-line : goal.overflow_add-line
overflow_add-line c =
    let header = c.in_ok-header.ensures.header in
    omega (arith, c.requires, c.loop-rest.invariant.count, c.loop-rest.invariant.short, shorter (ended (header_of (setup_of c.in_ok-header.header))) c.in_ok-header.commands.now c.args.text.now header.1)

pub loop-rest-preserved : goal.loop-rest-preserved
loop-rest-preserved c =
    let cut = rw c.in-Some.is at c.in_ok-after.ensures in
    read_more (setup_of c.in_ok-header.header) c.in_ok-header.commands.now c.loop-rest.rest.now c.in-Some.after.now c.loop-rest.line c.in-Some.field-0-0 c.loop-rest.invariant cut.0 cut.1
