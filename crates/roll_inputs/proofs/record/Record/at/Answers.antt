use Rattle.std.proofs.Common.{◌≡◌, ◌/◌, ◌%◌, ◌^◌, ◌∙◌, ap, arith, eqb, false, refl, sym, true, Some}
use Rattle.std.proofs.lemmas.Bool.Decides.{nat_tests}
use Rattle.std.proofs.lemmas.Nat.Bits.{shr_and_one}
use Rattle.roll_frame.specs.declared.row.Cell.TheVariants.{Word}
use Rattle.roll_inputs.proofs.Recorded.{cell_seen, length_seen, word_within}
use Rattle.roll_inputs.proofs.record.Record.at.Goals as goal

pub index-requires : goal.index-requires
index-requires c = omega (arith, length_seen c.self.inside c.args.self.now c.self.view_is, c.requires.frame)

pub overflow_mul-frame : goal.overflow_mul-frame
overflow_mul-frame c =
    let there = word_within c.self.inside c.args.self.now c.args.frame c.args.place c.self.invariant c.self.view_is c.requires.frame c.requires.place in
    rw c.from.ensures (omega (arith, there, c.self.inside.words.ok, c.self.inside.words.small))

pub overflow_add-frame : goal.overflow_add-frame
overflow_add-frame c =
    let there = word_within c.self.inside c.args.self.now c.args.frame c.args.place c.self.invariant c.self.view_is c.requires.frame c.requires.place in
    rw c.from.ensures (omega (arith, there, c.self.inside.words.ok, c.self.inside.words.small))

pub index-requires-else-index-place-eq1 : goal.index-requires-else-index-place-eq1
index-requires-else-index-place-eq1 c =
    let there = word_within c.self.inside c.args.self.now c.args.frame c.args.place c.self.invariant c.self.view_is c.requires.frame c.requires.place in
    rw c.from.ensures (omega (arith, there, c.self.inside.words.ok))

pub returns-then-index-place-eq1 : goal.returns-then-index-place-eq1
returns-then-index-place-eq1 c =
    let gone = c.index.result.now in
    let bit : eqb (gone / 2 ^ c.args.place % 2) 1 ≡ true = grind (arith, nat_tests, shr_and_one gone c.args.place) in
    cell_seen c.self.inside c.args.self.now c.args.frame c.args.place gone 0 c.self.invariant c.self.view_is c.requires.frame c.requires.place c.index.ensures ∙ rw bit refl

pub returns-else-index-place-eq1 : goal.returns-else-index-place-eq1
returns-else-index-place-eq1 c =
    let gone = c.index.result.now in
    let word = c.index-else-index-place-eq1.result.now in
    let bit : eqb (gone / 2 ^ c.args.place % 2) 1 ≡ false = grind (arith, nat_tests, shr_and_one gone c.args.place) in
    let at = rw c.from.ensures at c.index-else-index-place-eq1.ensures in
    cell_seen c.self.inside c.args.self.now c.args.frame c.args.place gone word c.self.invariant c.self.view_is c.requires.frame c.requires.place c.index.ensures
    ∙ rw bit (ap (λ w. Some (Word w)) (sym at))
