-- Lists with what fails a test left out.
use Rattle.std.proofs.Common.{◌≡◌, List, [], ◌∷◌, ◌++◌, map, Bool, true, false, cond, refl, ap, ◌∙◌, inl, inr}
use Rattle.std.specs.Prelude.{◌&&◌, filter}
use Rattle.roll_frame.specs.Cells.{Rows}
use Rattle.roll_laws.proofs.Saved.{In}
use Rattle.roll_tree.specs.SavedStates.{Saved}
use Rattle.roll_session.specs.Standing.{from_start}

-- a test of paths on the settled rows
pub filter_on : (settled : Rows) (f : Rows → Bool) (ps : List Rows) → filter f (from_start settled ps) ≡ from_start settled (filter (λ q. f (settled ++ q)) ps)
filter_on settled f [] = refl
filter_on settled f (p ∷ ps) = go (f (settled ++ p)) (filter_on settled f ps)
  where
    go : (b : Bool) → filter f (from_start settled ps) ≡ from_start settled (filter (λ q. f (settled ++ q)) ps)
        → cond b ((settled ++ p) ∷ filter f (from_start settled ps)) (filter f (from_start settled ps)) ≡ from_start settled (cond b (p ∷ filter (λ q. f (settled ++ q)) ps) (filter (λ q. f (settled ++ q)) ps))
    go true e = ap (λ (l : List Rows). (settled ++ p) ∷ l) e
    go false e = e

-- one test after another is both
pub filter_both : {A : Type 0} (f g : A → Bool) (xs : List A) → filter f (filter g xs) ≡ filter (λ x. g x && f x) xs
filter_both f g [] = refl
filter_both {A} f g (x ∷ xs) = go (g x) (filter_both f g xs)
  where
    go : (b : Bool) → filter f (filter g xs) ≡ filter (λ y. g y && f y) xs
        → filter f (cond b (x ∷ filter g xs) (filter g xs)) ≡ cond (b && f x) (x ∷ filter (λ y. g y && f y) xs) (filter (λ y. g y && f y) xs)
    go true e = ap (λ (l : List A). cond (f x) (x ∷ l) l) e
    go false e = e

-- tests that agree on all of these paths leave the same
pub filter_same : (f g : Rows → Bool) (ps : List Rows) → ((q : Rows) → In q ps → f q ≡ g q) → filter f ps ≡ filter g ps
filter_same f g [] h = refl
filter_same f g (p ∷ ps) h =
    let first : f p ≡ g p = h p (inl refl) in
    ap (λ (b : Bool). cond b (p ∷ filter f ps) (filter f ps)) first
    ∙ ap (λ (l : List Rows). cond (g p) (p ∷ l) l) (filter_same f g ps (λ q i. h q (inr i)))

-- a test of the paths of states
pub filter_states : {S : Type 0} (f : Rows → Bool) (xs : List (Saved S)) → map (λ s. s.path) (filter (λ s. f s.path) xs) ≡ filter f (map (λ s. s.path) xs)
filter_states f [] = refl
filter_states {S} f (x ∷ xs) = go (f x.path) (filter_states f xs)
  where
    go : (b : Bool) → map (λ (s : Saved S). s.path) (filter (λ (s : Saved S). f s.path) xs) ≡ filter f (map (λ (s : Saved S). s.path) xs)
        → map (λ (s : Saved S). s.path) (cond b (x ∷ filter (λ (s : Saved S). f s.path) xs) (filter (λ (s : Saved S). f s.path) xs)) ≡ cond b (x.path ∷ filter f (map (λ (s : Saved S). s.path) xs)) (filter f (map (λ (s : Saved S). s.path) xs))
    go true e = ap (λ (l : List Rows). x.path ∷ l) e
    go false e = e
