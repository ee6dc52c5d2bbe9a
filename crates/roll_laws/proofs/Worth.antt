-- What the states of an accepted branch are worth.
use Rattle.std.proofs.Common.{◌≡◌, ℕ, ◌+◌, ◌-◌, ◌≤◌, ◌++◌, List, length, refl, ap, sym, ◌∙◌, true, arith, take, drop}
use Rattle.std.proofs.Math.Seq.{take-add, drop-append-add}
use Rattle.std.proofs.lemmas.Bool.{not-false}
use Rattle.std.proofs.lemmas.Bool.Decides.{Decides-eqb}
use Rattle.std.proofs.lemmas.List.Sums.{fold-append}
use Rattle.std.proofs.lemmas.Slice.Eq.{slice_eq-Decides}
use Rattle.roll_frame.specs.declared.row.Cell.{Cell}
use Rattle.roll_frame.specs.Cells.{Rows}
use Rattle.roll_frame.specs.Games.{Value}
use Rattle.roll_frame.specs.Grafts.{anchor_length, same_value, start_of}
use Rattle.roll_frame.specs.Paths.{run}
use Rattle.roll_laws.specs.Grafted.{AcceptedAreWorth, graft_of}
use Rattle.roll_laws.proofs.Accepted.{accepted_passes}

-- rows that lead to the same value lead to the same with more rows
run_on : (step : Value → List Cell → Value) (x y : Value) (p q more : Rows) → run step x p ≡ run step y q → run step x (p ++ more) ≡ run step y (q ++ more)
run_on step x y p q more e = fold-append step x p more ∙ ap (λ v. run step v more) e ∙ sym (fold-append step y q more)

-- from the anchor on a branch's states are worth what their paths lead to
pub worth_on : (step : Value → List Cell → Value) (from opening : Value) (first rows : Rows) (a n : ℕ) → length first ≤ a → a ≤ n
    → run step from (take (a - length first) rows) ≡ run step opening (take a (first ++ rows))
    → run step from (take (n - length first) rows) ≡ run step opening (take n (first ++ rows))
worth_on step from opening first rows a n low high e =
    let short : n - length first ≡ a - length first + (n - a) = omega arith in
    let long : n ≡ a + (n - a) = omega arith in
    let place : a ≡ length first + (a - length first) = omega arith in
    let rest : drop (a - length first) rows ≡ drop a (first ++ rows) = sym (ap (λ k. drop k (first ++ rows)) place ∙ drop-append-add first rows (a - length first)) in
    ap (λ k. run step from (take k rows)) short
    ∙ ap (run step from) (take-add (a - length first) (n - a) rows)
    ∙ run_on step from opening (take (a - length first) rows) (take a (first ++ rows)) (take (n - a) (drop (a - length first) rows)) e
    ∙ ap (λ (q : Rows). run step opening (take a (first ++ rows) ++ take (n - a) q)) rest
    ∙ ap (run step opening) (sym (take-add a (n - a) (first ++ rows)))
    ∙ ap (λ k. run step opening (take k (first ++ rows))) (sym long)

-- values that a test finds the same
pub same_are : (x y : Value) → same_value x y ≡ true → x ≡ y
same_are x y e = (slice_eq-Decides Decides-eqb x y (same_value x y) refl).0 e

pub accepted_are_worth : AcceptedAreWorth
accepted_are_worth settings game core ticket branch value h n high =
    let tests = (accepted_passes settings game core (graft_of ticket branch value) h).0 in
    worth_on game.step value game.opening (start_of core branch) branch.rows (anchor_length core branch) n (omega arith) high
    (same_are _ _ (not-false _ tests.1.1.1.1.1.1.0))
