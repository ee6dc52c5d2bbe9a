use Rattle.std.proofs.Common.{◌≡◌, ℕ, ◌+◌, ◌-◌, ◌∙◌, ap, drop, arith}
use Rattle.roll_text.specs.Lines.{lines_of}
use Rattle.prog_scripts.proofs.LinesOf.{next_rest, no_rest}
use Rattle.prog_scripts.proofs.forms.from_line.Goals as goal

pub returns-in_default : goal.returns-in_default
returns-in_default c = no_rest c.args.text.now c.loop.rest.now (c.loop.counter - 1) (c.args.number - 1) c.loop.invariant.left c.in_default.ensures (omega arith)

pub loop-preserved : goal.loop-preserved
loop-preserved c =
    let count : c.loop.counter - 1 + 1 ≡ c.loop.counter + 1 - 1 = omega arith in
    record {
      left = next_rest c.args.text.now c.loop.rest.now c.in-Some.field-0-0.now c.in-Some.after.now (c.loop.counter - 1) c.loop.invariant.left c.in-Some.ensures.0 c.in-Some.ensures.1
          ∙ ap (λ (n : ℕ). drop n (lines_of c.args.text.now)) count;
      within = omega arith;
    }

pub returns : goal.returns
returns c =
    let count : c.loop.counter - 1 ≡ c.args.number - 1 = omega arith in
    c.loop.invariant.left ∙ ap (λ (n : ℕ). drop n (lines_of c.args.text.now)) count
