use Rattle.std.specs.Prelude.{All}
use Rattle.std.proofs.Common.{◌≡◌, ◌+◌, ◌++◌, length, ap, sym, ◌∙◌, subst, length-append}
use Rattle.roll_branch.specs.Changes.{rows_from, AreFilled, IsPlaced}
use Rattle.roll_branch.proofs.Rows.{length-rows_from, rows_parted}
use Rattle.roll_branch.proofs.packed.PackedRoute.new.Goals as goal

-- the changes that were gathered are of the path's rows, and of those that are run
gathered : (c : goal.In_ok-new-2) → rows_from c.packing.inside.changes.items 0 c.packing.inside.count ≡ c.args.route.now.path.rows.items ++ c.args.route.now.rows.items
gathered c =
    c.packing.view_is
    ∙ c.add_rows-2.ensures
    ∙ (λ i. (c.add_rows.ensures ∙ (λ j. c.new-packing.ensures j ++ c.as_slice.ensures.value j)) i ++ c.as_slice-2.ensures.value i)

counted : (c : goal.In_ok-new-2) → c.packing.inside.count ≡ length c.args.route.now.path.rows.items + length c.args.route.now.rows.items
counted c =
    sym (length-rows_from c.packing.inside.changes.items 0 c.packing.inside.count)
    ∙ ap length (gathered c)
    ∙ length-append c.args.route.now.path.rows.items c.args.route.now.rows.items

pub invariant_of-result : goal.invariant_of-result
invariant_of-result c =
    let s = c.packing.invariant in
    let changes = c.in_ok-new.ensures ∙ c.as_slice-3.ensures.value in
    let count = counted c ∙ (λ i. sym c.len.ensures.value i + sym c.len-2.ensures.value i) in
    rw c.in_ok-new-2.ensures.ok (record {
      path = c.len.ensures.fits;
      run = c.len-2.ensures.fits;
      filled = subst (λ all. AreFilled all (c.len.result + c.len-2.result)) (sym changes) (subst (AreFilled c.packing.inside.changes.items) count s.filled);
      placed = subst (All IsPlaced) (sym changes) s.placed;
    })

pub returns : goal.returns
returns c =
    let changes = c.in_ok-new.ensures ∙ c.as_slice-3.ensures.value in
    let path = c.args.route.now.path.rows.items in
    let run = c.args.route.now.rows.items in
    let parts = rows_parted c.packing.inside.changes.items path run (ap (rows_from c.packing.inside.changes.items 0) (sym (counted c)) ∙ gathered c) in
    rw (c.in_ok-new-2.ensures.ok, changes, c.len.ensures.value, c.len-2.ensures.value) (λ i. record { path = record { base = c.args.route.now.path.base; rows = record { items = parts.0 i } }; rows = record { items = parts.1 i } })
