use Rattle.std.proofs.Common.{◌<◌, ◌-◌, length, arith}
use Rattle.std.proofs.lemmas.Bool.Decides.{nat_tests}
use Rattle.prog_scripts.proofs.LinesOf.{none_left, stands_ended, stands_unended}
use Rattle.prog_scripts.proofs.Said.{line_said}
use Rattle.prog_scripts.proofs.forms.diagnose.Goals as goal

pub returns-then-is_empty-clause-said : goal.returns-then-is_empty-clause-said
returns-then-is_empty-clause-said c = none_left c.args.text.now c.from_line-rest.result.now (c.args.number - 1) c.from_line-rest.ensures (grind (arith, nat_tests))

pub returns-in-None-clause-said : goal.returns-in-None-clause-said
returns-in-None-clause-said c =
    let some : 0 < length c.from_line-rest.result.now = grind (arith, nat_tests) in
    (c.from_line-rest.result.now, c.in-None.ensures, stands_unended c.args.text.now c.from_line-rest.result.now (c.args.number - 1) c.from_line-rest.ensures c.in-None.ensures some)

pub returns-in-Some-clause-said : goal.returns-in-Some-clause-said
returns-in-Some-clause-said c =
    line_said c.args.text.now c.args.number c.in-Some.line.now c.line_diagnosis.result c.in-Some.ensures.0
    (stands_ended c.args.text.now c.from_line-rest.result.now c.in-Some.line.now c.in-Some.field-0-1.now (c.args.number - 1) c.from_line-rest.ensures c.in-Some.ensures.0 c.in-Some.ensures.1)
    c.line_diagnosis.ensures.said

pub returns-in-Some-clause-form : goal.returns-in-Some-clause-form
returns-in-Some-clause-form c = λ game plays later other. (
  c.in-Some.line.now,
  stands_ended c.args.text.now c.from_line-rest.result.now c.in-Some.line.now c.in-Some.field-0-1.now (c.args.number - 1) c.from_line-rest.ensures c.in-Some.ensures.0 c.in-Some.ensures.1,
  c.line_diagnosis.ensures.form game plays later other,
)
