use Rattle.std.proofs.Common.{◌≡◌, ◌∙◌, sym, arith}
use Rattle.std.proofs.lemmas.Fmt.{decimal_injective}
use Rattle.roll_text.proofs.Joined.{text_at}
use Rattle.roll_cert.specs.Texts.{entry_fields}
use Rattle.roll_cert.proofs.parts.entry_from.Goals as goal

pub returns-in_default-try_from : goal.returns-in_default-try_from
returns-in_default-try_from c = λ entry fits e.
    let same : c.in-Some-number-2.player ≡ entry.player = decimal_injective c.in-Some-number-2.player entry.player (omega (arith, c.in-Some-number-2.ensures.0)) (omega (arith, fits.2))
    (sym c.in-Some-number-2.ensures.1 ∙ text_at c.args.fields.now (entry_fields entry) 2 _ e (omega (arith, c.in-len3.len_at_least))) in
    c.in_default-try_from.ensures (omega (arith, same, fits.2))
