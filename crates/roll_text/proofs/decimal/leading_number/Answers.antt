use Rattle.std.proofs.Common.{◌≡◌, ◌<◌, ◌++◌, ◌∙◌, arith, sym, subst, get_or, take}
use Rattle.std.specs.Fmt.{decimal}
use Rattle.std.proofs.lemmas.List.{take-append-drop}
use Rattle.roll_text.specs.Numbers.{LacksDigit}
use Rattle.roll_text.proofs.Digits.{not_none, not_padded, not_too_many, same_value, spelled}
use Rattle.roll_text.proofs.decimal.leading_number.Goals as goal
use Rattle.roll_text.proofs.decimal.leading_number.Goals.{else-count-gt1-via-then-count-gt1+else-text-eq48, else-count-gt1-via-else-count-gt1}

pub returns-in_default : goal.returns-in_default
returns-in_default c = λ n rest word ends whole. not_too_many n rest c.args.text.now word ends whole c.in_default.ensures

pub returns-then-count-eq0 : goal.returns-then-count-eq0
returns-then-count-eq0 c = λ n rest word ends whole.
    let found = c.in-Some.ensures in not_none n rest c.args.text.now word ends whole c.in-Some.count found.1 found.2 c.if-count-eq0.true

pub returns-then-text-eq48 : goal.returns-then-text-eq48
returns-then-text-eq48 c = λ n rest word ends whole.
    let found = c.in-Some.ensures in not_padded n rest c.args.text.now word ends whole c.in-Some.count found.1 found.2 c.if-count-gt1.true c.if-text-eq48.true

pub returns-in_default-try_from : goal.returns-in_default-try_from
returns-in_default-try_from c = λ n rest word ends whole.
    let found = c.in-Some.ensures in
    c.in_default-try_from.ensures (omega (arith, word, found.3, same_value n rest c.args.text.now word ends whole c.in-Some.count found.1 found.2))

pub returns : goal.returns
returns c =
    let found = c.in-Some.ensures in
    let unpadded : 1 < c.in-Some.count → get_or c.args.text.now 0 0 ≡ 48 → ⊥ = λ several padded. elim c.else-count-gt1.branch [
      | else-count-gt1-via-then-count-gt1+else-text-eq48 w ↦ w.if-text-eq48.false padded
      | else-count-gt1-via-else-count-gt1 w ↦ omega (arith, several, w.if-count-gt1.false)
    ] in
    let some : 0 < c.in-Some.count = omega (arith, c.if-count-eq0.false) in
    let same = c.in-Ok.ensures.1 in
    let digits : decimal c.in-Ok.n ≡ take c.in-Some.count c.args.text.now = spelled c.in-Some.count c.in-Ok.n c.args.text.now found.1 some unpadded (same ∙ found.3) (omega (arith, same, c.in-Ok.ensures.0)) in
    let rest = c.split_at.ensures.back in
    (omega (arith, same, c.in-Ok.ensures.0), subst LacksDigit (sym rest) found.2, sym (take-append-drop c.in-Some.count c.args.text.now) ∙ (λ i. sym digits i ++ sym rest i))
