-- In a right claim no deeper kept path agrees with the time.
use Rattle.std.proofs.Common.{◌≡◌, ℕ, zero, suc, ◌+◌, ◌-◌, ◌<◌, ◌≤◌, List, [], ◌∷◌, length, get_or, take, refl, ap, sym, ◌∙◌, Bool, true, false, arith, inl, inr, Some, None, subst}
use Rattle.std.specs.Prelude.{◌⊎◌, slice_get, All, IsSomeAnd, Option, count_by}
use Rattle.std.proofs.lemmas.Bool.{cases_Bool, false_from_ne_true, eqb-true}
use Rattle.std.proofs.lemmas.Option.{slice_get_cases, get_or_from_slice_get}
use Rattle.std.proofs.lemmas.List.Elements.{recursion_from_All}
use Rattle.std.specs.List.{AllByRecursion}
use Rattle.std.proofs.Props.{props}
use Rattle.roll_frame.specs.Cells.{Rows}
use Rattle.roll_frame.specs.declared.claim.Differ.{Differ}
use Rattle.roll_frame.specs.declared.claim.Claim.{Claim}
use Rattle.roll_frame.specs.Claims.{IsRight, IsTrueEntry, AreRowsOf, is_for, cell_of_row}
use Rattle.roll_frame.specs.Paths.{begins_with}
use Rattle.roll_frame.specs.declared.path.Path.{Path}
use Rattle.roll_frame.proofs.Beginnings.{begins_is}
use Rattle.roll_laws.specs.Laws.{DeeperDiffer}

pub count_skips : (p : Differ → Bool) (x : Differ) (xs : List Differ) → p x ≡ false → count_by p (x ∷ xs) ≡ count_by p xs
count_skips p x xs e = rw e (omega arith)

-- where a test passes some, one passes, with what holds of all
found : (p : Differ → Bool) (P : Differ → Type 0) (xs : List Differ) → AllByRecursion P xs → 1 ≤ count_by p xs → (x : Differ) × (p x ≡ true) × P x
found p P [] h n = absurd (omega arith)
found p P (x ∷ xs) h n = go (cases_Bool (p x)) (found p P xs h.1)
  where
    go : (p x ≡ true) ⊎ (p x ≡ false) → (1 ≤ count_by p xs → (y : Differ) × (p y ≡ true) × P y) → (y : Differ) × (p y ≡ true) × P y
    go (inl e) r = (x, e, h.0)
    go (inr e) r = r (omega (arith, count_skips p x xs e))

at_place : (P : Path → Type 0) (xs : List Path) (i : ℕ) (x : Path) → All P xs → slice_get xs i ≡ Some x → P x
at_place P xs i x h e = go (slice_get_cases xs i).1
  where
    clash : (y : Path) → Some y ≡ None → ⊥
    clash y f = cc

    go : ((y : Path) × (i < length xs) × (slice_get xs i ≡ Some y) × (get_or xs i y ≡ y)) ⊎ ((length xs ≤ i) × (slice_get xs i ≡ None)) → P x
    go (inl f) = subst P (get_or_from_slice_get xs i x x e) (h i x f.1)
    go (inr f) = absurd (clash x (sym e ∙ f.1))

pub get_take : (rows : Rows) (n k : ℕ) → k < n → slice_get (take n rows) k ≡ slice_get rows k
get_take rows zero k h = absurd (omega arith)
get_take [] (suc n) k h = refl
get_take (row ∷ rows) (suc n) zero h = refl
get_take (row ∷ rows) (suc n) (suc k) h = get_take rows n k (omega arith)

agrees_nowhere : (claim : Claim) (entry : Differ) (path : Path) → IsTrueEntry claim entry path → path.base ≡ claim.base → begins_with claim.time path.rows.items ≡ true → ⊥
agrees_nowhere claim entry path t b begins =
    let below : entry.frame < path.base + length path.rows.items = t.on_path.below in
    let from : claim.base ≤ entry.frame = t.on_path.from in
    let k : ℕ = entry.frame - claim.base in
    let short : k < length path.rows.items = omega arith in
    let rows : path.rows.items ≡ take (length path.rows.items) claim.time = begins_is claim.time path.rows.items begins in
    let same : slice_get path.rows.items k ≡ slice_get claim.time k = ap (λ (q : Rows). slice_get q k) rows ∙ get_take claim.time (length path.rows.items) k short in
    t.differs (ap (λ o. cell_of_row o (entry.player - 1)) same)

pub deeper_differ : DeeperDiffer
deeper_differ claim right place path s deeper =
    let named : Differ → Type 0 = λ entry. IsSomeAnd (slice_get claim.kept entry.state) (IsTrueEntry claim entry) in
    let f = found (is_for place) named claim.differs (recursion_from_All named claim.differs right.entries) (omega (arith, right.once place path s deeper)) in
    let is : slice_get claim.kept f.0.state ≡ Some path = ap (slice_get claim.kept) (eqb-true f.0.state place f.1) ∙ s in
    let entry : IsTrueEntry claim f.0 path = subst (λ (o : Option Path). IsSomeAnd o (IsTrueEntry claim f.0)) is f.2 in
    let shape = at_place (λ q. (q.base ≡ claim.base) × AreRowsOf claim.players q.rows.items) claim.kept place path right.shape.kept s in
    false_from_ne_true (begins_with claim.time path.rows.items) (λ b. agrees_nowhere claim f.0 path entry shape.0 b)

-- a claim is right in one way, so what is kept of it behind a truncation can be used
pub IsRight-prop : (claim : Claim) → IsProp (IsRight claim)
IsRight-prop claim = hlevel props
