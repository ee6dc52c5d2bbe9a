use Rattle.std.proofs.Common.{◌≡◌, ℕ, ◌+◌, ◌++◌, length, take, drop, arith, ap, ◌∙◌}
use Rattle.roll_frame.specs.Cells.{Rows}
use Rattle.roll_branch.specs.Changes.{rows_from}
use Rattle.roll_branch.specs.Packed.{changes_of}
use Rattle.roll_branch.specs.declared.packed.Packed.{Packed}
use Rattle.roll_branch.proofs.Rows.{first_part, last_part, length-rows_from}
use Rattle.roll_branch.proofs.packed.PackedRoute.get.Goals as goal

-- all rows, and which of them are the path's
record Parted (packed : Packed) (rows : Rows) (end : ℕ) : Type 0 where
  long : length rows ≡ packed.path + packed.run
  path : take end rows ≡ rows_from (changes_of packed.changes) 0 packed.path
  run : drop end rows ≡ rows_from (changes_of packed.changes) packed.path packed.run

parted : (packed : Packed) (rows : Rows) (end : ℕ) → rows ≡ rows_from (changes_of packed.changes) 0 (packed.path + packed.run) → end ≡ packed.path → Parted packed rows end
parted packed rows end are at = record {
  long = ap length are ∙ length-rows_from (changes_of packed.changes) 0 (packed.path + packed.run);
  path = (λ i. take (at i) (are i)) ∙ first_part (changes_of packed.changes) packed.path packed.run;
  run = (λ i. drop (at i) (are i)) ∙ last_part (changes_of packed.changes) packed.path packed.run;
}

pub split_at-requires : goal.split_at-requires
split_at-requires c =
    let p = parted c.self.inside.packed.value c.as_slice-2.result.now c.from.result (c.as_slice-2.ensures.value ∙ c.first_rows-rows.ensures ∙ (λ i. rows_from ((c.as_slice.ensures ∙ ap (λ q. changes_of q.changes) c.deref-packed.ensures) i) 0 ((c.deref-packed.ensures i).path + (c.deref-packed.ensures i).run))) (c.from.ensures ∙ ap (λ q. q.path) c.deref-packed.ensures) in
    omega (arith, p.long, c.from.ensures, ap (λ q. q.path) c.deref-packed.ensures)

pub unwrap-requires-2 : goal.unwrap-requires-2
unwrap-requires-2 c =
    let p = parted c.self.inside.packed.value c.as_slice-2.result.now c.from.result (c.as_slice-2.ensures.value ∙ c.first_rows-rows.ensures ∙ (λ i. rows_from ((c.as_slice.ensures ∙ ap (λ q. changes_of q.changes) c.deref-packed.ensures) i) 0 ((c.deref-packed.ensures i).path + (c.deref-packed.ensures i).run))) (c.from.ensures ∙ ap (λ q. q.path) c.deref-packed.ensures) in
    let none : length c.new-2.result.items ≡ 0 = ap length c.new-2.ensures in
    c.try_extend_from_slice-2.ensures.variant.1 (omega (arith, none, p.long, c.split_at.ensures.back_len, c.from.ensures, ap (λ q. q.path) c.deref-packed.ensures, c.self.invariant.run))

pub returns : goal.returns
returns c =
    let p = parted c.self.inside.packed.value c.as_slice-2.result.now c.from.result (c.as_slice-2.ensures.value ∙ c.first_rows-rows.ensures ∙ (λ i. rows_from ((c.as_slice.ensures ∙ ap (λ q. changes_of q.changes) c.deref-packed.ensures) i) 0 ((c.deref-packed.ensures i).path + (c.deref-packed.ensures i).run))) (c.from.ensures ∙ ap (λ q. q.path) c.deref-packed.ensures) in
    let path = (rw c.unwrap.ensures at c.try_extend_from_slice.ensures.ok) ∙ (λ i. c.new.ensures.rows i ++ (c.split_at.ensures.front ∙ p.path) i) in
    let run = (rw c.unwrap-2.ensures at c.try_extend_from_slice-2.ensures.ok) ∙ (λ i. c.new-2.ensures i ++ (c.split_at.ensures.back ∙ p.run) i) in
    let base = c.new.ensures.base ∙ ap (λ q. q.base) c.deref-packed.ensures in
    rw (← c.self.view_is) (λ i. record { path = record { base = base i; rows = record { items = path i } }; rows = record { items = run i } })
