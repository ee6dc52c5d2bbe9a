use Rattle.std.proofs.Common.{◌≡◌, ◌++◌, ◌∙◌, sym, ap, arith}
use Rattle.std.specs.Fmt.{decimal}
use Rattle.std.specs.Prelude.{None, Some}
use Rattle.std.proofs.lemmas.Bool.Decides.{Decides-eqb}
use Rattle.std.proofs.lemmas.Fmt.{decimal_injective}
use Rattle.std.proofs.lemmas.List.{append_cancel_left}
use Rattle.std.proofs.lemmas.Slice.Eq.{strip_prefix_is}
use Rattle.roll_cert.proofs.lines.named_number.Goals as goal
use Rattle.roll_cert.proofs.lines.named_number.Goals.{else-least-n-via-then-least-n+else-n-most, else-least-n-via-else-least-n}

pub returns-in_default : goal.returns-in_default
returns-in_default c = λ n fits e. strip_prefix_is Decides-eqb c.args.line.now c.args.name.now None c.in_default.ensures.cases (decimal n) e

pub returns-then-n-most : goal.returns-then-n-most
returns-then-n-most c = (
  (c.if-least-n.true, c.if-n-most.true),
  strip_prefix_is Decides-eqb c.args.line.now c.args.name.now (Some c.in-Some.text) c.in-Some.ensures.cases ∙ ap (λ t. c.args.name.now ++ t) c.in-Some-number.ensures.1,
)

pub returns-else-least-n : goal.returns-else-least-n
returns-else-least-n c = λ n fits e.
    let cut : c.args.line.now ≡ c.args.name.now ++ decimal c.in-Some-number.n = strip_prefix_is Decides-eqb c.args.line.now c.args.name.now (Some c.in-Some.text) c.in-Some.ensures.cases ∙ ap (λ t. c.args.name.now ++ t) c.in-Some-number.ensures.1 in
    let digits : decimal c.in-Some-number.n ≡ decimal n = append_cancel_left c.args.name.now (decimal c.in-Some-number.n) (decimal n) (sym cut ∙ e) in
    let same : c.in-Some-number.n ≡ n = decimal_injective c.in-Some-number.n n (omega (arith, c.in-Some-number.ensures.0)) (omega (arith, fits, c.ranges.most.fits)) digits in
    elim c.else-least-n.branch [
      | else-least-n-via-then-least-n+else-n-most w ↦ omega (arith, same, fits, w.if-n-most.false)
      | else-least-n-via-else-least-n w ↦ omega (arith, same, fits, w.if-least-n.false)
    ]
