use Rattle.std.proofs.Common.{◌≡◌, ℕ, length, ap, ◌∙◌, rules}
use Rattle.std.specs.Int.{w64, from_be_bytes}
use Rattle.std.specs.Prelude.{nat_eq}
use Rattle.roll_contact.proofs.Seals.{compares, IsBytes}
use Rattle.roll_contact.proofs.seal.are_same.Goals as goal

pub returns : goal.returns
returns c =
    let one = c.args.one in
    let other = c.args.other in
    let len_one : length one ≡ 8 = search rules in
    let len_other : length other ≡ 8 = search rules in
    let fits_one : IsBytes one = λ i. search rules in
    let fits_other : IsBytes other = λ i. search rules in
    ap (nat_eq c.from_be_bytes.result) c.from_be_bytes-2.ensures
    ∙ ap (λ (n : ℕ). nat_eq n (from_be_bytes w64 other)) c.from_be_bytes.ensures
    ∙ compares one other len_one len_other fits_one fits_other
