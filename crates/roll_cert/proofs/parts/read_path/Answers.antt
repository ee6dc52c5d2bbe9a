use Rattle.std.proofs.Common.{◌≡◌, ◌∙◌, ◌==◌, ℕ, List, Bor, rules, codes, ap, sym, arith, length, map}
use Rattle.std.specs.List.{slice_split}
use Rattle.std.proofs.lemmas.Grind.{common_steps}
use Rattle.std.proofs.lemmas.List.{length-map}
use Rattle.std.proofs.lemmas.List.Splits.{length-slice_split}
use Rattle.roll_cert.specs.Texts.{IsRowOf, row_line}
use Rattle.roll_cert.proofs.Spelled.{row-lacks, rows_joined, some_rows}
use Rattle.roll_cert.proofs.Values.{count_of, joined_from, no_values}
use Rattle.roll_cert.proofs.parts.read_path.Goals as goal

pub returns-then-len-gt-PATH_LIMIT : goal.returns-then-len-gt-PATH_LIMIT
returns-then-len-gt-PATH_LIMIT c = λ path fits e.
    let apart : c.args.text.now ≡ codes "-" → ⊥ = λ dash. let same : c.args.text.now ≡ c.as_slice.result.now = dash ∙ sym c.as_slice.ensures in search rules in
    let some = some_rows c.args.text.now path.rows.items apart e in
    let count = count_of 32 (IsRowOf c.args.players) row_line (row-lacks 32 c.args.players (omega arith)) c.args.text.now (map (λ part. part.now) c.in_ok-parts.parts.items) path.rows.items c.in_ok-parts.ensures some.0 fits.2 some.1 in
    omega (arith, c.if-len-gt-PATH_LIMIT.true, c.len.ensures, c.in_ok-parts.parts.ok.0, count, fits.1, length-map c.in_ok-parts.parts.items (λ part. part.now))

pub returns-in_default : goal.returns-in_default
returns-in_default c = λ path fits e.
    let apart : c.args.text.now ≡ codes "-" → ⊥ = λ dash. let same : c.args.text.now ≡ c.as_slice.result.now = dash ∙ sym c.as_slice.ensures in search rules in
    let some = some_rows c.args.text.now path.rows.items apart e in
    let none = rw c.in_default.is at c.in_ok-row.ensures in
    no_values 32 (IsRowOf c.args.players) row_line (row-lacks 32 c.args.players (omega arith)) c.args.text.now (map (λ part. part.now) c.deref-part-items.result.now) c.loop-part.part-index
    (rw c.deref-part-items.ensures.value c.in_ok-parts.ensures) (grind (arith, common_steps))
    (λ row small same. none row small (grind (arith, common_steps, same))) path.rows.items some.0 fits.2 some.1

pub returns : goal.returns
returns c =
    let cut : map (λ part. part.now) c.deref-part-items.result.now ≡ slice_split (λ b. b == 32) c.args.text.now = rw c.deref-part-items.ensures.value c.in_ok-parts.ensures in
    let all : map row_line c.loop-part.path.rows.items ≡ map (λ part. part.now) c.deref-part-items.result.now = grind (arith, common_steps) in
    let text = joined_from 32 c.args.text.now (map (λ part. part.now) c.deref-part-items.result.now) (map row_line c.loop-part.path.rows.items) cut all in
    let many : length c.loop-part.path.rows.items ≡ length c.deref-part-items.result.now = sym (length-map c.loop-part.path.rows.items row_line) ∙ ap length all ∙ length-map c.deref-part-items.result.now (λ part. part.now) in
    let parts : length c.in_ok-parts.parts.items ≡ length c.deref-part-items.result.now = ap (λ (parts : List (Bor (List ℕ))). length parts) (sym c.deref-part-items.ensures.value) in
    let some = length-slice_split (λ b. b == 32) c.args.text.now in (
      (c.loop-part.invariant.base, omega (arith, many, parts, c.if-len-gt-PATH_LIMIT.false, c.len.ensures, c.in_ok-parts.parts.ok.0), c.loop-part.invariant.fit),
      text ∙ rows_joined c.loop-part.path.rows.items (omega (arith, many, ap length cut, some, length-map c.deref-part-items.result.now (λ part. part.now))),
    )
