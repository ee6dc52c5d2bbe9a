-- Rows that may be the timeline's, cell by cell.
use Rattle.std.proofs.Common.{◌≡◌, ℕ, suc, List, [], ◌∷◌, length, refl, ap, Bool, true, false}
use Rattle.std.specs.Prelude.{◌&&◌}
use Rattle.roll_frame.specs.declared.row.Cell.{Cell}
use Rattle.roll_frame.specs.Core.{cell_possible, row_possible}
use Rattle.roll_frame.specs.Timeline.{Player}

-- no row of another number of players
pub other_width : (t : ℕ) (ps : List Player) (cells : List Cell) → (length cells ≡ length ps → ⊥) → row_possible t ps cells ≡ false
other_width t [] [] h = absurd (h refl)
other_width t [] (c ∷ cs) h = refl
other_width t (p ∷ ps) [] h = refl
other_width t (p ∷ ps) (c ∷ cs) h = go (cell_possible t p c) (other_width t ps cs (λ e. h (ap suc e)))
  where
    go : (b : Bool) → row_possible t ps cs ≡ false → (b && row_possible t ps cs) ≡ false
    go true e = e
    go false e = refl
