use Rattle.std.proofs.Common.{◌≡◌, ◌∙◌, ℕ, List, sym, ap, arith, length, Bor}
use Rattle.std.proofs.lemmas.List.{length-map}
use Rattle.roll_text.specs.Numbers.{list_of}
use Rattle.roll_text.proofs.Joined.{text_at}
use Rattle.prog_scripts.specs.Headers.{header_fields}
use Rattle.prog_scripts.proofs.Headings.{fields_with, version_read, with_masks, without_masks}
use Rattle.prog_scripts.proofs.header.Header.from_fields.Goals as goal

pub returns-in-len10-clause-complete : goal.returns-in-len10-clause-complete
returns-in-len10-clause-complete c = λ setup fits e.
    let count : length (header_fields setup) ≡ 10 = omega (arith, ap length e, length-map c.args.fields.now (λ (field : Bor (List ℕ)). field.now), c.in-len10.len_at_least, c.in-len10.len_below) in
    let none = without_masks setup fits count in
    let texts = e ∙ ap (fields_with setup) none.1 in
    c.from_values.ensures.complete setup fits (sym none.0)
    (text_at c.args.fields.now _ 3 _ texts (omega arith))
    (text_at c.args.fields.now _ 5 _ texts (omega arith))
    (text_at c.args.fields.now _ 7 _ texts (omega arith))
    (ap list_of (sym none.1))
    (text_at c.args.fields.now _ 9 _ texts (omega arith))

pub returns-in-len12-clause-complete : goal.returns-in-len12-clause-complete
returns-in-len12-clause-complete c = λ setup fits e.
    let count : length (header_fields setup) ≡ 12 = omega (arith, ap length e, length-map c.args.fields.now (λ (field : Bor (List ℕ)). field.now), c.in-len12.len_at_least, c.in-len12.len_below) in
    let some = with_masks setup fits count in
    let texts = e ∙ ap (fields_with setup) some.3 in
    let v = c.masked_version-version.ensures in
    c.from_values-in-len12.ensures.complete setup fits
    (version_read setup.version c.masked_version-version.result _ some.0 v.masked v.wide (text_at c.args.fields.now _ 1 _ texts (omega arith)))
    (text_at c.args.fields.now _ 3 _ texts (omega arith))
    (text_at c.args.fields.now _ 5 _ texts (omega arith))
    (text_at c.args.fields.now _ 7 _ texts (omega arith))
    (text_at c.args.fields.now _ 9 _ texts (omega arith) ∙ ap list_of (sym some.3))
    (text_at c.args.fields.now _ 11 _ texts (omega arith))
