-- No path of a tree that begins the rows is longer than the longest.
use Rattle.std.proofs.Common.{◌≡◌, ℕ, ◌+◌, ◌≤◌, List, [], ◌∷◌, length, map, max, Bool, cond, true, false, arith}
use Rattle.std.specs.Prelude.{All}
use Rattle.std.specs.List.{AllByRecursion}
use Rattle.std.proofs.lemmas.Bool.{false≢true}
use Rattle.std.proofs.lemmas.List.Elements.{All-from_recursion}
use Rattle.roll_frame.specs.Cells.{Rows}
use Rattle.roll_frame.specs.Paths.{begins_with, longest}
use Rattle.roll_tree.specs.SavedStates.{paths_of, Saved, SavedStates}

-- the first of some paths, and the rest of them
one_more : (base n : ℕ) (path : Rows) (b : Bool) (rest : ℕ) → base + cond b (max (length path) rest) rest ≤ n → (b ≡ true → base + length path ≤ n) × (base + rest ≤ n)
one_more base n path true rest h = (λ _. omega arith, omega arith)
one_more base n path false rest h = ((λ e. absurd (false≢true e)), h)

module _ {S : Type 0} (base : ℕ) (rows : Rows) (n : ℕ) where
  abbrev IsNoLonger : Saved S → Type 0
  IsNoLonger s = begins_with rows s.path ≡ true → base + length s.path ≤ n

  each : (states : List (Saved S)) → base + longest (map (λ (s : Saved S). s.path) states) rows ≤ n → AllByRecursion IsNoLonger states
  each [] h = tt
  each (s ∷ states) h =
      let both = one_more base n s.path (begins_with rows s.path) (longest (map (λ (u : Saved S). u.path) states) rows) h in
      (both.0, each states both.1)

-- of the states of a tree
pub none_longer : {S : Type 0} (t : SavedStates S) (rows : Rows) (n : ℕ) → n ≡ t.base + longest (paths_of t) rows → All (λ (s : Saved S). begins_with rows s.path ≡ true → t.base + length s.path ≤ n) t.states
none_longer {S = S} t rows n e = All-from_recursion (λ (s : Saved S). begins_with rows s.path ≡ true → t.base + length s.path ≤ n) t.states (each t.base rows n t.states (omega (arith, e)))
