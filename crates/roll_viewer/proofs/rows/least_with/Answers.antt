use Rattle.std.proofs.Common.{◌≡◌, ◌+◌, ℕ, List, [], ◌∷◌, drop, get_or, min, arith, ap, sym, ◌∙◌}
use Rattle.std.proofs.lemmas.List.{at_drop_all, at_drop_more}
use Rattle.roll_viewer.specs.Rows.{least_with}
use Rattle.roll_viewer.proofs.rows.least_with.Goals as goal

-- whichever is taken first
first_or_last : (m n : ℕ) (ns : List ℕ) → least_with (min m n) ns ≡ min n (least_with m ns)
first_or_last m n [] = omega arith
first_or_last m n (x ∷ ns) = omega (arith, first_or_last m n ns)

pub loop-count-preserved : goal.loop-count-preserved
loop-count-preserved c =
    let least = c.loop-count.least in
    let counts = c.args.counts.now in
    let i = c.loop-count.count-index in
    let next = at_drop_more (least_with least) counts i 0 c.loop-count-test.true in
    let moved = first_or_last least (get_or counts i 0) (drop (i + 1) counts) in
    ap (λ n. least_with n (drop (i + 1) counts)) c.min-least.ensures ∙ moved ∙ sym next ∙ c.loop-count.invariant

pub returns : goal.returns
returns c =
    omega (arith, at_drop_all (least_with c.loop-count.least) c.args.counts.now c.loop-count.count-index c.loop-count-test.false, c.loop-count.invariant)
