use Rattle.std.proofs.Common.{◌≡◌, ◌∙◌, Result, Err, sym, ap, refl}
use Rattle.std.proofs.lemmas.Bool.{false≢true}
use Rattle.roll_frame.specs.declared.claim.Claim.{Claim}
use Rattle.roll_cert.specs.declared.checking.Flaw.{Flaw}
use Rattle.roll_cert.specs.declared.checking.Flaw.TheVariants.{Missing, Shape, FromNotKept}
use Rattle.roll_cert.specs.Flaws.{IsFirst}
use Rattle.roll_cert.proofs.Rights.{right, wrong, first_shape, first_start, first_entry, first_missing, only_first}
use Rattle.roll_cert.proofs.checking.check.Goals as goal

abbrev answer : Flaw → Result (Unit {0}) Flaw
answer flaw = Err flaw

only : (claim : Claim) (flaw : Flaw) → IsFirst claim flaw → (other : Flaw) → IsFirst claim other → answer flaw ≡ answer other
only claim flaw first other second = ap answer (only_first claim flaw other first second)

pub returns-then-not-is_shaped-clause-only : goal.returns-then-not-is_shaped-clause-only
returns-then-not-is_shaped-clause-only c =
    only c.args.claim.now Shape (first_shape c.args.claim.now (λ shaped. false≢true (sym c.if-not-is_shaped.true ∙ c.is_shaped.ensures.1 shaped)))

pub returns-then-not-has_start-clause-only : goal.returns-then-not-has_start-clause-only
returns-then-not-has_start-clause-only c =
    only c.args.claim.now FromNotKept (first_start c.args.claim.now (c.is_shaped.ensures.0 c.if-not-is_shaped.false) (sym c.has_start.ensures ∙ c.if-not-has_start.true))

pub returns-in-Err-clause-wrong : goal.returns-in-Err-clause-wrong
returns-in-Err-clause-wrong c = wrong c.args.claim.now c.in-Err.flaw c.in-Err.ensures.flaw.2.has

pub returns-in-Err-clause-first : goal.returns-in-Err-clause-first
returns-in-Err-clause-first c =
    let found = c.in-Err.ensures.flaw in
    first_entry c.args.claim.now found.0 c.in-Err.flaw (c.is_shaped.ensures.0 c.if-not-is_shaped.false) (sym c.has_start.ensures ∙ c.if-not-has_start.false) found.1 found.2

pub returns-in-Err-clause-only : goal.returns-in-Err-clause-only
returns-in-Err-clause-only c = only c.args.claim.now c.in-Err.flaw (returns-in-Err-clause-first c)

pub returns-in-Some-clause-wrong : goal.returns-in-Some-clause-wrong
returns-in-Some-clause-wrong c = wrong c.args.claim.now (Missing c.in-Some.i) c.in-Some.ensures.first.1

pub returns-in-Some-clause-first : goal.returns-in-Some-clause-first
returns-in-Some-clause-first c =
    first_missing c.args.claim.now c.in-Some.i (c.is_shaped.ensures.0 c.if-not-is_shaped.false) (sym c.has_start.ensures ∙ c.if-not-has_start.false)
    c.in-Ok.ensures.good c.in-Some.ensures.first.0 c.in-Some.ensures.first.1

pub returns-in-Some-clause-only : goal.returns-in-Some-clause-only
returns-in-Some-clause-only c = only c.args.claim.now (Missing c.in-Some.i) (returns-in-Some-clause-first c)

pub returns-in-None-clause-right : goal.returns-in-None-clause-right
returns-in-None-clause-right c =
    right c.args.claim.now (c.is_shaped.ensures.0 c.if-not-is_shaped.false) (sym c.has_start.ensures ∙ c.if-not-has_start.false)
    c.in-Ok.ensures.good (c.in-None.ensures.none refl)

pub returns-in-None-clause-only : goal.returns-in-None-clause-only
returns-in-None-clause-only c = λ flaw first. absurd (wrong c.args.claim.now flaw first.has (returns-in-None-clause-right c))
