-- One cut after another: what is left where a player leaves.
use Rattle.std.proofs.Common.{◌≡◌, ℕ, ◌+◌, ◌-◌, ◌≤◌, List, [], ◌∷◌, length, take, drop, refl, ap, sym, subst, ◌∙◌, arith, cond}
use Rattle.std.specs.Prelude.{◌&&◌, filter, not, All}
use Rattle.std.specs.List.{AllByRecursion, list_all}
use Rattle.std.proofs.lemmas.List.Elements.{recursion_from_All}
use Rattle.roll_frame.specs.Cells.{Rows}
use Rattle.roll_frame.specs.declared.limits.TheConstants.{PATH_LIMIT}
use Rattle.roll_frame.specs.declared.row.Cell.TheVariants.{Gone}
use Rattle.roll_laws.specs.Laws.{has_no_other}
use Rattle.roll_tree.specs.SavedStates.{Saved, has_other}
use Rattle.roll_session.proofs.Cuts.{gone_all, gone_step}
use Rattle.roll_session.proofs.Filters.{filter_both}

module _ {S : Type 0} where
  -- the states whose paths have the player gone in so many frames from this place on
  abbrev pub gone_in : ℕ → ℕ → ℕ → List (Saved S) → List (Saved S)
  gone_in place n from states = filter (λ s. list_all (has_no_other place Gone) (take n (drop from s.path))) states

  pub gone_none : (place from : ℕ) (states : List (Saved S)) → gone_in place 0 from states ≡ states
  gone_none place from [] = refl
  gone_none place from (s ∷ states) = ap (λ (l : List (Saved S)). s ∷ l) (gone_none place from states)

  pub gone_next : (player base from frame : ℕ) (states : List (Saved S)) → 1 ≤ player → base ≤ from → from ≤ frame
      → filter (λ s. not (has_other player (frame - base) Gone s.path)) (gone_in (player - 1) (frame - from) (from - base) states) ≡ gone_in (player - 1) (frame + 1 - from) (from - base) states
  gone_next player base from frame states some low here =
      filter_both (λ s. not (has_other player (frame - base) Gone s.path)) (λ s. list_all (has_no_other (player - 1) Gone) (take (frame - from) (drop (from - base) s.path))) states
      ∙ (λ i. filter (λ s. each s.path i) states)
    where
      each : (q : Rows) → (list_all (has_no_other (player - 1) Gone) (take (frame - from) (drop (from - base) q)) && not (has_other player (frame - base) Gone q)) ≡ list_all (has_no_other (player - 1) Gone) (take (frame + 1 - from) (drop (from - base) q))
      each q =
          let number : player - 1 + 1 ≡ player = omega arith in
          let at : from - base + (frame - from) ≡ frame - base = omega arith in
          let next : frame - from + 1 ≡ frame + 1 - from = omega arith in
          sym (subst (λ n. list_all (has_no_other (player - 1) Gone) (take n (drop (from - base) q)) ≡ (list_all (has_no_other (player - 1) Gone) (take (frame - from) (drop (from - base) q)) && not (has_other player (frame - base) Gone q))) next
          (rw (number, at) at (gone_step (player - 1) (frame - from) (from - base) q)))

  all_gone : (place n from : ℕ) (states : List (Saved S)) → AllByRecursion (λ (s : Saved S). length s.path ≤ from + n) states
      → gone_in place n from states ≡ filter (λ s. list_all (has_no_other place Gone) (drop from s.path)) states
  all_gone place n from [] short = refl
  all_gone place n from (s ∷ states) short =
      ap (λ b. cond b (s ∷ gone_in place n from states) (gone_in place n from states)) (gone_all place n from s.path short.0)
      ∙ ap (λ (l : List (Saved S)). cond (list_all (has_no_other place Gone) (drop from s.path)) (s ∷ l) l) (all_gone place n from states short.1)

  pub gone_far : (place n from : ℕ) (states : List (Saved S)) → PATH_LIMIT ≤ from + n → All (λ (s : Saved S). length s.path ≤ PATH_LIMIT) states
      → gone_in place n from states ≡ filter (λ s. list_all (has_no_other place Gone) (drop from s.path)) states
  gone_far place n from states far short =
      all_gone place n from states (recursion_from_All (λ (s : Saved S). length s.path ≤ from + n) states (λ k d h. omega (arith, far, short k d h)))
