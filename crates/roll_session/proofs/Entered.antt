-- The states of a roll, taken in one at a time.
use Rattle.std.proofs.Common.{◌≡◌, ℕ, ◌+◌, ◌-◌, ◌≤◌, List, get_or, ap, sym, ◌∙◌, arith, refl}
use Rattle.std.proofs.lemmas.List.Elements.{All-push}
use Rattle.roll_tree.specs.SavedStates.{Saved, with_state}
use Rattle.roll_session.specs.Gameless.{KeepsRolled}
use Rattle.roll_session.specs.Saves.{Standing}
use Rattle.roll_session.specs.Standing.{rows_from}
use Rattle.roll_session.specs.Ways.{next_state}

module _ {S : Type 0} (old now new : Standing S) (states : List S) (from frame name : ℕ) (snapshot : S) (low : from ≤ frame) where
  -- whatever holds of each holds of one more
  pub kept_more : KeepsRolled old now from states (frame - from) → old.inputs.settled ≤ from → now.inputs ≡ old.inputs → get_or states (frame - from) snapshot ≡ snapshot → new.tree ≡ with_state now.tree (next_state now frame name snapshot) → KeepsRolled old new from states (frame + 1 - from)
  kept_more k past now_is here tree = λ value want all given.
      let u : Saved S = next_state now frame name snapshot in
      let at : from + (frame - from) + 1 ≡ frame + 1 = omega (arith, low) in
      let path : rows_from old.inputs.players old.inputs.settled (from + (frame - from) + 1 - old.inputs.settled) ≡ u.path = rw (at, now_is) refl in
      let this : value snapshot ≡ want u.path = ap value (sym here) ∙ given (frame - from) snapshot (omega (arith, low)) ∙ ap want path in
      rw tree (All-push (λ v. value v.snapshot ≡ want v.path) now.tree.states u (k value want all (λ j d h. given j d (omega (arith, h)))) this)

-- none of a roll's states
pub kept_none : {S : Type 0} (old : Standing S) (from : ℕ) (states : List S) → KeepsRolled old old from states 0
kept_none old from states = λ value want all given. all
