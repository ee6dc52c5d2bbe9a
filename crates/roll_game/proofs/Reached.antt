-- What rows lead to.
use Rattle.std.proofs.Common.{◌≡◌, List, [], ◌∷◌, sym, ap, ◌∙◌}
use Rattle.std.specs.Prelude.{◌↔◌}
use Rattle.roll_frame.specs.declared.row.Cell.{Cell}
use Rattle.roll_frame.specs.Cells.{Rows}
use Rattle.roll_frame.specs.Games.{Value}
use Rattle.roll_frame.specs.Paths.{run}
use Rattle.roll_game.specs.Divergence.{Ran, IsReached, Diverges}

-- where each value has one successor, the rows lead to their run alone
pub run_is : (ran : Ran) (step : Value → List Cell → Value) → ((x : Value) (row : List Cell) (y : Value) → ran x row y ↔ (y ≡ step x row)) → (x : Value) (rows : Rows) (y : Value) → IsReached ran x rows y → y ≡ run step x rows
run_is ran step one x [] y e = e
run_is ran step one x (row ∷ rows) y (z, r, rest) =
    run_is ran step one z rows y rest ∙ ap (λ v. run step v rows) ((one x row z).0 r)

pub never_diverges : (ran : Ran) (step : Value → List Cell → Value) → ((x : Value) (row : List Cell) (y : Value) → ran x row y ↔ (y ≡ step x row)) → (x : Value) (rows : Rows) → ¬ Diverges ran x rows
never_diverges ran step one x rows d =
    d.different (run_is ran step one x rows d.one d.one_reached ∙ sym (run_is ran step one x rows d.other d.other_reached))
