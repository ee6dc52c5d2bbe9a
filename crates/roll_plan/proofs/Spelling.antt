-- The paths that taken states spell.
use Rattle.std.proofs.Common.{◌≡◌, ℕ, ◌+◌, List, [], ◌∷◌, ◌++◌, length, length-append, append-nil, append_assoc, map, refl, sym, ap, subst, ◌∙◌, arith, Some}
use Rattle.std.specs.Prelude.{All}
use Rattle.std.proofs.lemmas.List.Elements.{All-pop}
use Rattle.roll_frame.specs.declared.path.Path.{Path}
use Rattle.roll_frame.specs.Cells.{Rows}
use Rattle.roll_tree.specs.SavedStates.{path_of}
use Rattle.roll_plan.specs.Spelled.{path_in, spelled_on, spelled}
use Rattle.roll_plan.specs.declared.planner.Taken.{Taken}

module _ (way : Rows) where
  spelled_on-append : (before : List Taken) (paths : List Rows) (ks rest : List Taken) → spelled_on way before paths (ks ++ rest) ≡ spelled_on way (before ++ ks) (spelled_on way before paths ks) rest
  spelled_on-append before paths [] rest = ap (λ (b : List Taken). spelled_on way b paths rest) (sym (append-nil before))
  spelled_on-append before paths (k ∷ ks) rest =
      spelled_on-append (before ++ k ∷ []) (paths ++ path_in way before paths k ∷ []) ks rest
      ∙ ap (λ (b : List Taken). spelled_on way b (spelled_on way before paths (k ∷ ks)) rest) (append_assoc before (k ∷ []) ks)

  -- one more
  pub spelled-push : (ks : List Taken) (k : Taken) → spelled way (ks ++ k ∷ []) ≡ spelled way ks ++ path_in way ks (spelled way ks) k ∷ []
  spelled-push ks k = spelled_on-append [] [] ks (k ∷ [])

  length-spelled_on : (before : List Taken) (paths : List Rows) (ks : List Taken) → length (spelled_on way before paths ks) ≡ length paths + length ks
  length-spelled_on before paths [] = omega arith
  length-spelled_on before paths (k ∷ ks) =
      let more = length-spelled_on (before ++ k ∷ []) (paths ++ path_in way before paths k ∷ []) ks in
      omega (arith, more, length-append paths (path_in way before paths k ∷ []))

  pub length-spelled : (ks : List Taken) → length (spelled way ks) ≡ length ks
  length-spelled ks = omega (arith, length-spelled_on [] [] ks)

  module _ (P : Rows → Type 0) where
    spelled_first : (before : List Taken) (paths : List Rows) (ks : List Taken) → All P (spelled_on way before paths ks) → All P paths
    spelled_first before paths [] all = all
    spelled_first before paths (k ∷ ks) all =
        let next = path_in way before paths k in
        (All-pop P (paths ++ next ∷ []) paths (Some next) refl (spelled_first (before ++ k ∷ []) (paths ++ next ∷ []) ks all)).0

    -- what holds of all the paths holds of the next one
    pub spelled_next : (ks rest : List Taken) (k : Taken) → All P (spelled way (ks ++ k ∷ rest)) → P (path_in way ks (spelled way ks) k)
    spelled_next ks rest k all =
        let next = path_in way ks (spelled way ks) k in
        let both = spelled_first (ks ++ k ∷ []) (spelled way ks ++ next ∷ []) rest (subst (All P) (spelled_on-append [] [] ks (k ∷ rest)) all) in
        (All-pop P (spelled way ks ++ next ∷ []) (spelled way ks) (Some next) refl both).1

-- the rows of paths of one base
pub rows_again : (base : ℕ) (ps : List Rows) → map (λ (p : Path). p.rows.items) (map (path_of base) ps) ≡ ps
rows_again base [] = refl
rows_again base (p ∷ ps) = ap (λ (l : List Rows). p ∷ l) (rows_again base ps)
