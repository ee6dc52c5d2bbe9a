-- Lists of paths: which are among them, and the longest that some rows begin with.
use Rattle.std.proofs.Common.{◌≡◌, ◌⊎◌, ℕ, ◌≤◌, List, [], ◌∷◌, length, take, map, Bool, true, false, cond, Option, Some, None, refl, sym, ap, subst, ◌∙◌, inl, inr, arith, eqb}
use Rattle.std.specs.Prelude.{IsSomeAnd}
use Rattle.std.specs.List.{find}
use Rattle.std.proofs.lemmas.List.{take_all}
use Rattle.std.proofs.lemmas.Option.{none-some, same_Some}
use Rattle.std.proofs.lemmas.Bool.{cases_Bool, false≢true, or_cases, or_left, or_right}
use Rattle.roll_frame.specs.Cells.{Rows, rows_eq}
use Rattle.roll_frame.specs.Impls.Equal.{rows_eq-Decides}
use Rattle.roll_frame.specs.Paths.{begins_with, contains, longest}
use Rattle.roll_frame.proofs.Beginnings.{longest_within, begins}
use Rattle.roll_tree.specs.SavedStates.{Saved, SavedStates, state_named, paths_of}

-- a path that is one of them is no longer than the longest
pub longest_has : (paths : List Rows) (path : Rows) → contains paths path ≡ true → length path ≤ longest paths path
longest_has [] path h = absurd (false≢true h)
longest_has (p ∷ paths) path h = go (or_cases (rows_eq path p) (contains paths path) h) (longest_has paths path) (begins_with path p) refl
  where
    go : (rows_eq path p ≡ true) ⊎ (contains paths path ≡ true) → (contains paths path ≡ true → length path ≤ longest paths path) → (b : Bool) → begins_with path p ≡ b → length path ≤ longest (p ∷ paths) path
    go (inl same) ih true e = let is = ap (λ (l : Rows). length l) ((rows_eq-Decides path p).0 same) in rw e (omega (arith, is))
    go (inl same) ih false e =
        let is = (rows_eq-Decides path p).0 same in
        absurd (false≢true (sym e ∙ begins path p (sym is ∙ sym (take_all (length p) path (omega (arith, ap (λ (l : Rows). length l) is))))))
    go (inr there) ih true e = let least = ih there in rw e (omega (arith, least))
    go (inr there) ih false e = rw e (ih there)

module _ {S : Type 0} where
  found_path : (states : List (Saved S)) (name : ℕ) (s : Saved S) → find (λ u. eqb u.name name) states ≡ Some s → contains (map (λ u. u.path) states) s.path ≡ true
  found_path [] name s e = absurd (none-some s e)
  found_path (u ∷ states) name s e = go (eqb u.name name) refl (found_path states name s)
    where
      go : (b : Bool) → eqb u.name name ≡ b → (find (λ x. eqb x.name name) states ≡ Some s → contains (map (λ x. x.path) states) s.path ≡ true) → contains (map (λ x. x.path) (u ∷ states)) s.path ≡ true
      go true is ih =
          let same : u ≡ s = same_Some _ _ (sym (ap (λ (b : Bool). cond b (Some u) (find (λ x. eqb x.name name) states)) is) ∙ e) in
          or_left (rows_eq s.path u.path) (contains (map (λ x. x.path) states) s.path) ((rows_eq-Decides s.path u.path).1 (ap (λ (x : Saved S). x.path) (sym same)))
      go false is ih =
          or_right (rows_eq s.path u.path) (contains (map (λ x. x.path) states) s.path) (ih (sym (ap (λ (b : Bool). cond b (Some u) (find (λ x. eqb x.name name) states)) is) ∙ e))

  -- the path of a state that is held is one of the paths
  pub held_path : (t : SavedStates S) (name : ℕ) (s : Saved S) → state_named t name ≡ Some s → contains (paths_of t) s.path ≡ true
  held_path t name s e = found_path t.states name s e

  -- the state on the way of some rows is that of the rows where it is as long
  pub reached : (t : SavedStates S) (name : ℕ) (rows : Rows) → IsSomeAnd (state_named t name) (λ s. s.path ≡ take (longest (paths_of t) rows) rows) → longest (paths_of t) rows ≡ length rows → contains (paths_of t) rows ≡ true
  reached t name rows here whole = go (state_named t name) refl here
    where
      go : (o : Option (Saved S)) → state_named t name ≡ o → IsSomeAnd o (λ s. s.path ≡ take (longest (paths_of t) rows) rows) → contains (paths_of t) rows ≡ true
      go None e h = absurd (some_and_none h)
        where
          some_and_none : IsSomeAnd None (λ (s : Saved S). s.path ≡ take (longest (paths_of t) rows) rows) → ⊥
          some_and_none k = elim k [ ]
      go (Some s) e h =
          subst (λ (p : Rows). contains (paths_of t) p ≡ true) (h ∙ ap (λ (n : ℕ). take n rows) whole ∙ take_all (length rows) rows (omega arith)) (held_path t name s e)

  pub not_reached : (t : SavedStates S) (rows : Rows) → (longest (paths_of t) rows ≡ length rows → ⊥) → contains (paths_of t) rows ≡ false
  not_reached t rows short = go (cases_Bool (contains (paths_of t) rows))
    where
      go : (contains (paths_of t) rows ≡ true) ⊎ (contains (paths_of t) rows ≡ false) → contains (paths_of t) rows ≡ false
      go (inl there) = absurd (short (omega (arith, longest_has (paths_of t) rows there, longest_within (paths_of t) rows)))
      go (inr out) = out
