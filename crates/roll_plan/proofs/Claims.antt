-- The claim of a plan: whatever the settled rows, it is the same, and it is right.
use Rattle.std.proofs.Common.{◌≡◌, ℕ, zero, suc, ◌+◌, ◌≤◌, ◌<◌, List, [], ◌∷◌, length, length-append, map, take, drop, true, false, refl, sym, ap, subst, ◌∙◌, arith, inl, inr}
use Rattle.std.specs.Prelude.{◌⊎◌}
use Rattle.std.specs.List.{AllByRecursion}
use Rattle.std.proofs.lemmas.Bool.{cases_Bool}
use Rattle.std.proofs.lemmas.List.Elements.{recursion_from_All}
use Rattle.std.proofs.Math.Seq.{drop-append_seam, take-append-add, take-append_seam}
use Rattle.roll_frame.specs.declared.row.Cell.{Cell}
use Rattle.roll_frame.specs.declared.row.Cell.TheVariants.{Word}
use Rattle.roll_frame.specs.Cells.{Rows}
use Rattle.roll_frame.specs.declared.claim.Claim.{Claim}
use Rattle.roll_frame.specs.Claims.{AreRowsOf, IsRight, claim_of, path_from}
use Rattle.roll_frame.specs.Order.{in_order}
use Rattle.roll_frame.specs.Paths.{begins_with, longest}
use Rattle.roll_laws.proofs.Fair.{Wide, IsFair, fair_is_right}
use Rattle.roll_laws.proofs.Saved.{In, has_in, longest_at_least, longest_is, IsLength, in_map, map_in}
use Rattle.roll_tree.specs.SavedStates.{path_of}
use Rattle.roll_frame.proofs.Beginnings.{begins-behind}
use Rattle.roll_plan.specs.Plans.{PlannedRoll, IsClaimOf, roll_of}
use Rattle.roll_plan.specs.Fields.{IsFit}
use Rattle.roll_plan.proofs.Settled.{on, order_on}

-- so many settled rows, of so many players
abbrev blank_row : ℕ → List Cell
blank_row zero = []
blank_row (suc n) = Word 0 ∷ blank_row n

abbrev blank : ℕ → ℕ → Rows
blank players zero = []
blank players (suc n) = blank_row players ∷ blank players n

length-blank_row : (n : ℕ) → length (blank_row n) ≡ n
length-blank_row zero = refl
length-blank_row (suc n) = ap suc (length-blank_row n)

length-blank : (players n : ℕ) → length (blank players n) ≡ n
length-blank players zero = refl
length-blank players (suc n) = ap suc (length-blank players n)

wide_blank : (players n : ℕ) → Wide players (blank players n)
wide_blank players zero = tt
wide_blank players (suc n) = (length-blank_row players, wide_blank players n)

wide_on : (n : ℕ) (settled path : Rows) → Wide n settled → Wide n path → Wide n (on settled path)
wide_on n [] path v w = w
wide_on n (row ∷ settled) path v w = (v.0, wide_on n settled path v.1 w)

module _ (players : ℕ) (made : PlannedRoll) (fit : IsFit players made) where
  wide_of : (rows : Rows) → AreRowsOf players rows → Wide players rows
  wide_of rows all = recursion_from_All (λ row. length row ≡ players) rows all

  kept_wide : (ps : List Rows) → AllByRecursion (AreRowsOf players) ps → (q : Rows) → In q ps → Wide players q
  kept_wide [] all q i = absurd i
  kept_wide (p ∷ ps) all q (inl e) = subst (λ (r : Rows). Wide players r) (sym e) (wide_of p all.0)
  kept_wide (p ∷ ps) all q (inr i) = kept_wide ps all.1 q i

  start_in : (n : ℕ) → n ≡ longest made.kept made.time → IsLength made.kept made.time n → In (take n made.time) made.kept × (n ≤ length made.time)
  start_in n is (inl zero_is) = (subst (λ (k : ℕ). In (take k made.time) made.kept) (sym zero_is) (subst (λ (q : Rows). In q made.kept) (none made.time) (has_in made.kept [] fit.root)), omega arith)
    where
      none : (rows : Rows) → [] ≡ take 0 rows
      none [] = refl
      none (row ∷ rows) = refl
  start_in n is (inr found) = found

  fair_on : (settled : Rows) → length settled ≡ made.settled → Wide players settled → IsFair players (roll_of settled made)
  fair_on settled e w =
      let start = start_in (longest made.kept made.time) refl (longest_is made.kept made.time) in
      record {
        some = fit.some;
        few = fit.few;
        low = omega (arith, fit.from_is);
        top = omega (arith, fit.from_is, start.1, length-append settled made.time, e);
        lag = omega (arith, fit.short, length-append settled made.time, e);
        base = fit.base;
        rows = wide_on players settled made.time w (wide_of made.time fit.time);
        start = subst (λ (q : Rows). In q (map (on settled) made.kept)) (sym (ap (λ n. take n (on settled made.time)) (fit.from_is ∙ ap (λ n. n + longest made.kept made.time) (sym e)) ∙ take-append-add settled made.time (longest made.kept made.time))) (in_map (on settled) (take (longest made.kept made.time) made.time) made.kept start.0);
        kept_rows = λ q i. let r = map_in (on settled) q made.kept i in subst (λ (p : Rows). Wide players p) (sym r.2) (wide_on players settled r.0 w (kept_wide made.kept (recursion_from_All (AreRowsOf players) made.kept fit.paths) r.0 r.1));
        kept_low = λ q i. let r = map_in (on settled) q made.kept i in omega (arith, ap length r.2, length-append settled r.0, e);
        kept_settled = λ q i.
            let r = map_in (on settled) q made.kept i in
            ap (take made.settled) r.2 ∙ ap (λ n. take n (on settled r.0)) (sym e) ∙ take-append_seam settled r.0 ∙ sym (ap (λ n. take n (on settled made.time)) (sym e) ∙ take-append_seam settled made.time);
        kept_off = λ q i deep within.
            let r = map_in (on settled) q made.kept i in
            off r.0 r.1 (omega (arith, deep, ap length r.2, length-append settled r.0, e, fit.from_is)) q r.2;
      }
    where
      off : (p : Rows) → In p made.kept → longest made.kept made.time < length p → (q : Rows) → q ≡ on settled p → begins_with (on settled made.time) q ≡ false
      off p i deep q same = go (cases_Bool (begins_with (on settled made.time) q))
        where
          go : (begins_with (on settled made.time) q ≡ true) ⊎ (begins_with (on settled made.time) q ≡ false) → begins_with (on settled made.time) q ≡ false
          go (inr b) = b
          go (inl b) = absurd (let l : length p ≤ longest made.kept made.time = longest_at_least made.kept made.time p i (sym (begins-behind settled made.time p) ∙ subst (λ (x : Rows). begins_with (on settled made.time) x ≡ true) same b) in omega arith)

  -- the claim of a plan is right
  pub planned_is_right : (claim : Claim) → IsClaimOf players made claim → IsRight claim
  planned_is_right claim is =
      let settled : Rows = blank players made.settled in
      let e : length settled ≡ made.settled = length-blank players made.settled in
      subst IsRight (sym (is settled e)) (fair_is_right players (roll_of settled made) (fair_on settled e (wide_blank players made.settled)))

-- the claim that is made of a plan's parts
pub claim_on : (players : ℕ) (made : PlannedRoll) (settled : Rows) (claim : Claim) → length settled ≡ made.settled → in_order made.kept ≡ made.kept
    → claim.players ≡ players → claim.base ≡ made.settled → claim.time ≡ made.time → claim.kept ≡ map (path_of made.settled) made.kept → claim.from ≡ made.from → claim.differs ≡ (claim_of players (roll_of settled made)).differs
    → claim ≡ claim_of players (roll_of settled made)
claim_on players made settled claim e ordered p b t k f d =
    λ i. record { players = p i; base = b i; time = (t ∙ sym (own made.time)) i; kept = (k ∙ sym paths) i; from = f i; differs = d i }
  where
    own : (path : Rows) → drop made.settled (on settled path) ≡ path
    own path = ap (λ n. drop n (on settled path)) (sym e) ∙ drop-append_seam settled path

    each : (ps : List Rows) → map (path_from made.settled) (map (on settled) ps) ≡ map (path_of made.settled) ps
    each [] = refl
    each (q ∷ qs) = λ i. path_of made.settled (own q i) ∷ each qs i

    paths : map (path_from made.settled) (in_order (map (on settled) made.kept)) ≡ map (path_of made.settled) made.kept
    paths = ap (map (path_from made.settled)) (order_on settled made.kept ∙ ap (map (on settled)) ordered) ∙ each made.kept
