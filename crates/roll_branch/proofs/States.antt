-- The states of a branch.
use Rattle.std.proofs.Common.{◌≡◌, ℕ, ◌+◌, ◌-◌, ◌<◌, ◌≤◌, List, [], ◌∷◌, ◌++◌, length, take, get_or, ap, sym, ◌∙◌, subst, arith, inl, inr, length-append}
use Rattle.std.specs.Prelude.{◌⊎◌}
use Rattle.std.proofs.lemmas.Bool.{cases_lt}
use Rattle.std.proofs.lemmas.List.{get_or_append_left, take_more}
use Rattle.std.proofs.Math.Seq.{get_or-append_seam}
use Rattle.std.proofs.lemmas.List.Sums.{fold_push}
use Rattle.roll_frame.specs.declared.row.Cell.{Cell}
use Rattle.roll_frame.specs.Cells.{Rows}
use Rattle.roll_frame.specs.Games.{Value}
use Rattle.roll_frame.specs.Paths.{run}
use Rattle.roll_branch.specs.Routed.{AreStates, AreWorth}

module _ {S : Type 0} (value : S → Value) (step : Value → List Cell → Value) (from : Value) (rows : Rows) where
  pub state_at : (states : List S) → AreStates value step from rows states → (count : ℕ) (s : S) → 0 < count → count ≤ length rows → s ≡ get_or states (count - 1) s → value s ≡ run step from (take count rows)
  state_at states a count s some few at =
      let place : count - 1 + 1 ≡ count = omega arith in
      ap value at ∙ a.worth (count - 1) s (omega (arith, a.many)) ∙ ap (λ n. run step from (take n rows)) place

  pub worth_more : (states : List S) (s : S) → AreWorth value step from rows states → value s ≡ run step from (take (length states + 1) rows) → AreWorth value step from rows (states ++ s ∷ [])
  worth_more states s h e k d below = go (cases_lt k (length states))
    where
      go : (k < length states) ⊎ (length states ≤ k) → value (get_or (states ++ s ∷ []) k d) ≡ run step from (take (k + 1) rows)
      go (inl l) = ap value (get_or_append_left states (s ∷ []) d k l) ∙ h k d l
      go (inr l) =
          let here : length states ≡ k = omega (arith, length-append states (s ∷ []), below) in
          subst (λ n. value (get_or (states ++ s ∷ []) n d) ≡ run step from (take (n + 1) rows)) here (ap value (get_or-append_seam states s [] d) ∙ e)

-- the run of one row more
pub ran_more : (step : Value → List Cell → Value) (from : Value) (rows : Rows) (k : ℕ) (row : List Cell) → k < length rows → row ≡ get_or rows k row → run step from (take (k + 1) rows) ≡ step (run step from (take k rows)) row
ran_more step from rows k row below at =
    ap (run step from) (take_more rows k row below) ∙ fold_push step from (take k rows) (get_or rows k row) ∙ ap (step (run step from (take k rows))) (sym at)
