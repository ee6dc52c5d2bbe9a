-- The orders of cells, rows and paths are total.
use Rattle.std.specs.Cmp.{IsTotalOrder}
use Rattle.std.proofs.lemmas.Cmp.{on_total, then_total, lists_total, nat_cmp_total}
use Rattle.roll_frame.specs.declared.path.Path.{Path}
use Rattle.roll_frame.specs.Words.{word_of, bit_of}
use Rattle.roll_frame.specs.Order.{cell_cmp, row_cmp, frames_of, path_cmp}

pub cell_cmp_total : IsTotalOrder cell_cmp
cell_cmp_total = then_total (on_total word_of nat_cmp_total) (on_total bit_of nat_cmp_total)

pub row_cmp_total : IsTotalOrder row_cmp
row_cmp_total = lists_total cell_cmp_total

pub path_cmp_total : IsTotalOrder path_cmp
path_cmp_total = then_total (then_total (on_total frames_of nat_cmp_total) (on_total (λ (p : Path). p.base) nat_cmp_total)) (on_total (λ (p : Path). p.rows.items) (lists_total row_cmp_total))
