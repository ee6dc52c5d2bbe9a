-- The entries of a plan, one path at a time.
use Rattle.std.proofs.Common.{◌≡◌, ℕ, suc, ◌+◌, ◌<◌, take, get_or, length-take, List, [], ◌∷◌, ◌++◌, length, length-append, map, Bool, cond, refl, sym, ap, ◌∙◌, arith, Option, Some, None}
use Rattle.std.specs.Prelude.{option_map, nat_lt, nat_le, ◌&&◌}
use Rattle.std.specs.List.{cons_option}
use Rattle.roll_frame.specs.Cells.{Rows}
use Rattle.roll_frame.specs.declared.claim.Differ.{Differ}
use Rattle.roll_frame.specs.Claims.{least_place, differ_of, differs_from}
use Rattle.roll_frame.proofs.Places.{least_place-behind}
use Rattle.std.proofs.lemmas.List.{take_more}
use Rattle.roll_plan.specs.Plans.{PlannedRoll, roll_of}
use Rattle.roll_plan.specs.Ranks.{entries_by}
use Rattle.roll_plan.proofs.Settled.{on}

-- whether a plan passes over a path
abbrev pub passes : PlannedRoll → Rows → Bool
passes made path = nat_lt made.from (made.settled + length path) && nat_le (made.settled + length path) (made.settled + length made.time)

-- the entry of a kept path at this place, where it is passed over
abbrev pub entry_for : PlannedRoll → ℕ → Rows → Option Differ
entry_for made state path =
    cond (passes made path) (option_map (λ place. record { state = state; frame = place.0; player = place.1 }) (least_place made.settled path made.time)) None

entry_on : (made : PlannedRoll) (settled : Rows) (state : ℕ) (path : Rows) → length settled ≡ made.settled → differ_of (roll_of settled made) state (on settled path) ≡ entry_for made state path
entry_on made settled state path e =
    let long : (rows : Rows) → length (on settled rows) ≡ made.settled + length rows = λ rows. length-append settled rows ∙ ap (λ n. n + length rows) e in
    let base : 0 + length settled ≡ made.settled = omega (arith, e) in
    let places : least_place 0 (on settled path) (on settled made.time) ≡ least_place made.settled path made.time = least_place-behind settled path made.time 0 ∙ ap (λ n. least_place n path made.time) base in
    (λ i. cond (nat_lt made.from (long path i) && nat_le (long path i) (long made.time i)) (option_map (λ place. record { state = state; frame = place.0; player = place.1 }) (least_place 0 (on settled path) (on settled made.time))) None)
    ∙ ap (λ o. cond (passes made path) (option_map (λ place. record { state = state; frame = place.0; player = place.1 }) o) None) places

-- they are those of the plan's roll, whatever the settled rows
pub entries_on : (made : PlannedRoll) (settled : Rows) (state : ℕ) (paths : List Rows) → length settled ≡ made.settled → differs_from (roll_of settled made) state (map (on settled) paths) ≡ entries_by (entry_for made) state paths
entries_on made settled state [] e = refl
entries_on made settled state (path ∷ paths) e =
    ap (λ o. cons_option o (differs_from (roll_of settled made) (suc state) (map (on settled) paths))) (entry_on made settled state path e)
    ∙ ap (cons_option (entry_for made state path)) (entries_on made settled (suc state) paths e)

cons_append : (o : Option Differ) (xs ys : List Differ) → cons_option o (xs ++ ys) ≡ cons_option o xs ++ ys
cons_append None xs ys = refl
cons_append (Some x) xs ys = refl

module _ {X : Type 0} (entry : ℕ → X → Option Differ) where
  -- one more
  pub entries_more : (place : ℕ) (xs : List X) (x : X) → entries_by entry place (xs ++ x ∷ []) ≡ entries_by entry place xs ++ cons_option (entry (place + length xs) x) []
  entries_more place [] x = let z : place ≡ place + 0 = omega arith in ap (λ n. cons_option (entry n x) []) z
  entries_more place (y ∷ xs) x =
      let next : suc place + length xs ≡ place + suc (length xs) = omega arith in
      ap (cons_option (entry place y)) (entries_more (suc place) xs x)
      ∙ cons_append (entry place y) (entries_by entry (suc place) xs) (cons_option (entry (suc place + length xs) x) [])
      ∙ ap (λ n. cons_option (entry place y) (entries_by entry (suc place) xs) ++ cons_option (entry n x) []) next

  -- what was made of so many, with the entry of one more where there is one
  pub with_entry : (first : ℕ) (xs : List X) (k : ℕ) (x : X) (made : List Differ) → k < length xs → x ≡ get_or xs k x → made ≡ entries_by entry first (take k xs) → made ++ cons_option (entry (first + k) x) [] ≡ entries_by entry first (take (k + 1) xs)
  with_entry first xs k x made within at so_far =
      let place : first + length (take k xs) ≡ first + k = omega (arith, length-take k xs, within) in
      ap (λ (l : List Differ). l ++ cons_option (entry (first + k) x) []) so_far
      ∙ ap (λ n. entries_by entry first (take k xs) ++ cons_option (entry n x) []) (sym place)
      ∙ sym (ap (entries_by entry first) (take_more xs k x within ∙ ap (λ y. take k xs ++ y ∷ []) (sym at)) ∙ entries_more first (take k xs) x)
