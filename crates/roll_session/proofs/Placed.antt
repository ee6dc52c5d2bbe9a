-- Rows beside the timeline.
use Rattle.std.proofs.Common.{◌≡◌, ◌⊎◌, ℕ, ◌<◌, ◌≤◌, List, [], ◌∷◌, length, length-take, take, refl, ap, sym, ◌∙◌, Bool, true, false, arith, inl, inr, map, subst, Some}
use Rattle.std.specs.Prelude.{All, IsTrue}
use Rattle.std.specs.Bool.{Decides}
use Rattle.std.specs.List.{AllByRecursion}
use Rattle.std.proofs.lemmas.List.Elements.{recursion_from_All}
use Rattle.std.proofs.lemmas.Bool.{false≢true}
use Rattle.std.proofs.lemmas.Bool.Decides.{Decides-eqb}
use Rattle.std.proofs.lemmas.List.{take-take, take_all}
use Rattle.std.proofs.lemmas.Slice.Eq.{slice_eq-Decides}
use Rattle.roll_frame.specs.declared.row.Cell.{Cell}
use Rattle.roll_frame.specs.Cells.{Rows, row_eq}
use Rattle.roll_frame.specs.Core.{is_known, row_possible}
use Rattle.roll_frame.specs.Games.{Value}
use Rattle.roll_frame.specs.Grafts.{same_value}
use Rattle.roll_frame.specs.Paths.{contains, longest}
use Rattle.roll_frame.specs.Timeline.{Player, row_at}
use Rattle.roll_frame.proofs.Beginnings.{begins, longest_within}
use Rattle.roll_laws.proofs.Known.{known_confirmed, known_gone}
use Rattle.roll_laws.proofs.Saved.{In, has_in, longest_at_least, longest_is}
use Rattle.roll_tree.specs.SavedStates.{IsClosed, Saved, SavedStates, paths_of, state_named}

-- a player's cell below the settled frame is known
known_early : (settled t : ℕ) (p : Player) → (p.gone ≡ false → settled ≤ length p.words) → t < settled → is_known t p ≡ true
known_early settled t p ahead below = go p.gone refl
  where
    go : (b : Bool) → p.gone ≡ b → is_known t p ≡ true
    go true e = known_gone t p e
    go false e = known_confirmed t p (let far = ahead e in omega arith)

-- a row below the settled frame is possible where it is the settled one
pub row_known : (settled t : ℕ) (ps : List Player) (row : List Cell) → AllByRecursion (λ (p : Player). p.gone ≡ false → settled ≤ length p.words) ps → t < settled → row_eq row (row_at ps t) ≡ row_possible t ps row
row_known settled t [] [] a h = refl
row_known settled t [] (c ∷ cs) a h = refl
row_known settled t (p ∷ ps) [] a h = refl
row_known settled t (p ∷ ps) (c ∷ cs) a h = rw (known_early settled t p a.0 h, row_known settled t ps cs a.1 h) refl

-- a beginning of rows that is one of the paths is the longest of them in it
pub found_at : (ps : List Rows) (R : Rows) (k : ℕ) → k ≤ length R → contains ps (take k R) ≡ true → take (longest ps (take k R)) (take k R) ≡ take k R
found_at ps R k l h =
    let long : length (take k R) ≡ k = omega (arith, l, length-take k R) in
    let whole : take (length (take k R)) (take k R) ≡ take k R = take_all (length (take k R)) (take k R) (omega arith) in
    let most : longest ps (take k R) ≡ length (take k R) = omega (arith, longest_at_least ps (take k R) (take k R) (has_in ps (take k R) h) (begins (take k R) (take k R) (sym whole)), longest_within ps (take k R)) in
    ap (λ n. take n (take k R)) most ∙ whole

-- a test of two values
pub same_is : (b : Bool) (x y : Value) → (IsTrue b → x ≡ y) → (x ≡ y → IsTrue b) → b ≡ same_value x y
same_is b x y f h = go b (same_value x y) f h (slice_eq-Decides Decides-eqb x y (same_value x y) refl)
  where
    go : (b d : Bool) → (IsTrue b → x ≡ y) → (x ≡ y → IsTrue b) → Decides d (x ≡ y) → b ≡ d
    go true true f h d = refl
    go true false f h d = absurd (false≢true (d.1 (f refl)))
    go false true f h d = absurd (false≢true (h (d.0 refl)))
    go false false f h d = refl

-- a beginning of rows that is no longer than the longest saved one is saved
pub kept_front : {S : Type 0} (t : SavedStates S) (R : Rows) (k : ℕ) → contains (paths_of t) [] ≡ true → IsClosed t → All (λ s. state_named t s.name ≡ Some s) t.states → k ≤ longest (paths_of t) R → contains (paths_of t) (take k R) ≡ true
kept_front {S = S} t R k rooted closed named low = go (longest_is (paths_of t) R)
  where
    at_path : (states : List (Saved S)) → AllByRecursion (λ s. state_named t s.name ≡ Some s) states → In (take (longest (paths_of t) R) R) (map (λ s. s.path) states) → contains (paths_of t) (take k R) ≡ true
    at_path [] all i = absurd i
    at_path (u ∷ states) all (inl e) = subst (λ (q : Rows). contains (paths_of t) q ≡ true) (ap (take k) (sym e) ∙ take-take k (longest (paths_of t) R) R low) (closed u.name u k all.0)
    at_path (u ∷ states) all (inr i) = at_path states all.1 i

    go : (longest (paths_of t) R ≡ 0) ⊎ (In (take (longest (paths_of t) R) R) (paths_of t) × (longest (paths_of t) R ≤ length R)) → contains (paths_of t) (take k R) ≡ true
    go (inl e) = let none : k ≡ 0 = omega arith in rw none rooted
    go (inr h) = at_path t.states (recursion_from_All (λ (s : Saved S). state_named t s.name ≡ Some s) t.states named) h.0
