use Rattle.std.proofs.Common.{◌≡◌, ◌==◌, ℕ, List, Bor, ap, arith, length, map}
use Rattle.std.specs.List.{slice_split}
use Rattle.std.proofs.lemmas.Grind.{common_steps}
use Rattle.std.proofs.lemmas.List.{length-map}
use Rattle.roll_cert.specs.Texts.{IsCell, cell_text}
use Rattle.roll_cert.proofs.Spelled.{cell-lacks}
use Rattle.roll_cert.proofs.Values.{count_of, joined_from, no_values}
use Rattle.roll_cert.proofs.parts.read_row.Goals as goal

pub returns-then-len-from : goal.returns-then-len-from
returns-then-len-from c = λ row fits e.
    let count = count_of 44 IsCell cell_text (cell-lacks 44 (omega arith)) c.args.text.now (map (λ part. part.now) c.in_ok-parts.parts.items) row c.in_ok-parts.ensures (omega (arith, fits.0, c.requires.some)) fits.1 e in
    c.if-len-from.true (omega (arith, c.len.ensures, c.in_ok-parts.parts.ok.0, c.from.ensures, count, fits.0, length-map c.in_ok-parts.parts.items (λ part. part.now)))

pub returns-in_default : goal.returns-in_default
returns-in_default c = λ row fits e.
    no_values 44 IsCell cell_text (cell-lacks 44 (omega arith)) c.args.text.now (map (λ part. part.now) c.deref-part-items.result.now) c.loop-part.part-index
    (rw c.deref-part-items.ensures.value c.in_ok-parts.ensures) (grind (arith, common_steps))
    (λ cell small same. c.in_default.ensures cell small (grind (arith, common_steps, same))) row (omega (arith, fits.0, c.requires.some)) fits.1 e

pub returns : goal.returns
returns c =
    let cut : map (λ part. part.now) c.deref-part-items.result.now ≡ slice_split (λ b. b == 44) c.args.text.now = rw c.deref-part-items.ensures.value c.in_ok-parts.ensures in
    let all : map cell_text c.loop-part.cells.items ≡ map (λ part. part.now) c.deref-part-items.result.now = grind (arith, common_steps) in
    let text = joined_from 44 c.args.text.now (map (λ part. part.now) c.deref-part-items.result.now) (map cell_text c.loop-part.cells.items) cut all in
    let many : length c.loop-part.cells.items ≡ c.args.players = omega (arith, c.len.ensures, c.in_ok-parts.parts.ok.0, c.from.ensures, c.if-len-from.false, ap length all, ap (λ (parts : List (Bor (List ℕ))). length parts) c.deref-part-items.ensures.value, length-map c.loop-part.cells.items cell_text, length-map c.deref-part-items.result.now (λ (part : Bor (List ℕ)). part.now)) in
    rw (c.from_cells.ensures, c.deref.ensures.value) ((many, c.loop-part.invariant.fit), text)
