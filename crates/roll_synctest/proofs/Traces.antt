-- Runs of rows, value by value.
use Rattle.std.proofs.Common.{◌≡◌, ◌⊎◌, ℕ, zero, suc, ◌+◌, ◌<◌, ◌≤◌, List, [], ◌∷◌, ◌++◌, length, take, get_or, map, ap, sym, refl, ◌∙◌, subst, add-one, arith, inl, inr, length-append}
use Rattle.std.proofs.Math.Seq.{take-suc}
use Rattle.std.proofs.lemmas.Bool.{cases_lt}
use Rattle.std.proofs.lemmas.List.{get_or-map, get_or_append_left, get_or_push, take_all}
use Rattle.roll_frame.specs.declared.row.Cell.{Cell}
use Rattle.roll_frame.specs.Cells.{Rows}
use Rattle.roll_frame.specs.Games.{Value}
use Rattle.roll_game.specs.Divergence.{Ran, IsReached}
use Rattle.roll_synctest.specs.Runs.{IsTrace, value_before}

-- the value before the next row is the one at this place
next_before : (x : Value) (values : List Value) (place : ℕ) → value_before x values (place + 1) ≡ get_or values place []
next_before x values place = ap (λ n. get_or (x ∷ values) n []) (add-one place)

-- a second result that is worth the same as the one at a place is worth the value before the next row
pub again_before : {N : Type 0} (value : N → Value) (x : Value) (results : List N) (place : ℕ) (result again : N) → place < length results → result ≡ get_or results place result → value result ≡ value again → value again ≡ value_before x (map value results) (place + 1)
again_before value x results place result again below at same =
    sym same ∙ ap value at ∙ sym (get_or-map value results place result [] below) ∙ sym (next_before x (map value results) place)

-- one row more
pub reached_more : (ran : Ran) (x : Value) (rows : Rows) (z : Value) (row : List Cell) (y : Value) → IsReached ran x rows z → ran z row y → IsReached ran x (rows ++ row ∷ []) y
reached_more ran x [] z row y e r = (y, subst (λ v. ran v row y) e r, refl)
reached_more ran x (first ∷ rows) z row y (w, led, rest) r = (w, led, reached_more ran w rows z row y rest r)

module _ (ran : Ran) (x : Value) (rows : Rows) (values : List Value) where
  -- each value of a run is reached
  pub value_reached : IsTrace ran x rows values → (place : ℕ) → place ≤ length rows → IsReached ran x (take place rows) (value_before x values place)
  value_reached t zero few = refl
  value_reached t (suc place) few =
      let below : place < length rows = omega (arith, few) in
      rw (take-suc rows place [] below) (reached_more ran x (take place rows) (value_before x values place) (get_or rows place []) (get_or values place []) (value_reached t place (omega arith)) (t.steps place below))

  pub all_reached : IsTrace ran x rows values → IsReached ran x rows (value_before x values (length rows))
  all_reached t =
      subst (λ q. IsReached ran x q (value_before x values (length rows))) (take_all (length rows) rows (omega arith)) (value_reached t (length rows) (omega arith))

  module _ (row : List Cell) (y : Value) where
    -- the value after one row more
    pub before_more : IsTrace ran x rows values → y ≡ value_before x (values ++ y ∷ []) (length (rows ++ row ∷ []))
    before_more t =
        let many : length (rows ++ row ∷ []) ≡ length rows + 1 = length-append rows (row ∷ []) in
        sym (rw many (next_before x (values ++ y ∷ []) (length rows) ∙ get_or_push values y [] (length rows) t.many))

    -- values that stand already
    same_before : (place : ℕ) → place ≤ length values → value_before x (values ++ y ∷ []) place ≡ value_before x values place
    same_before zero few = refl
    same_before (suc place) few = get_or_append_left values (y ∷ []) [] place (omega (arith, few))

    pub trace_more : IsTrace ran x rows values → ran (value_before x values (length rows)) row y → IsTrace ran x (rows ++ row ∷ []) (values ++ y ∷ [])
    trace_more t r =
        record {
          many = length-append values (y ∷ []) ∙ ap (λ n. n + 1) t.many ∙ sym (length-append rows (row ∷ []));
          steps = λ place below. go place (omega (arith, below, length-append rows (row ∷ []))) (cases_lt place (length rows));
        }
      where
        go : (place : ℕ) → place ≤ length rows → (place < length rows) ⊎ (length rows ≤ place) → ran (value_before x (values ++ y ∷ []) place) (get_or (rows ++ row ∷ []) place []) (get_or (values ++ y ∷ []) place [])
        go place few (inl l) =
            rw (same_before place (omega (arith, t.many)), get_or_append_left rows (row ∷ []) [] place l, get_or_append_left values (y ∷ []) [] place (omega (arith, t.many, l))) (t.steps place l)
        go place few (inr l) =
            let here : length rows ≡ place = omega arith in
            rw (same_before place (omega (arith, t.many)), get_or_push rows row [] place here, get_or_push values y [] place (t.many ∙ here)) (subst (λ n. ran (value_before x values n) row y) here r)
