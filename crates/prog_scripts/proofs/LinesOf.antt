-- The lines of a text, one after another.
use Rattle.std.proofs.Common.{◌≡◌, ℕ, ◌+◌, ◌<◌, ◌≤◌, ◌++◌, ◌∙◌, List, [], ◌∷◌, Some, sym, ap, arith, length, drop, zero, suc}
use Rattle.std.specs.List.{slice_get}
use Rattle.std.proofs.lemmas.List.{drop-drop, drop_all, length-drop}
use Rattle.roll_text.specs.Lines.{Lacks, ended, lines_of}
use Rattle.roll_text.proofs.LineTexts.{lines_of-ended, lines_of-last}

lines_of-cut : (rest line after : List ℕ) → Lacks 10 line → rest ≡ ended line ++ after → lines_of rest ≡ ended line ∷ lines_of after
lines_of-cut rest line after lacks cut = ap lines_of cut ∙ lines_of-ended line after lacks

-- what follows one line more
pub next_rest : (text rest line after : List ℕ) (k : ℕ) → lines_of rest ≡ drop k (lines_of text) → Lacks 10 line → rest ≡ ended line ++ after → lines_of after ≡ drop (k + 1) (lines_of text)
next_rest text rest line after k here lacks cut =
    ap (drop 1) (sym (lines_of-cut rest line after lacks cut) ∙ here) ∙ drop-drop 1 k (lines_of text)

few_lines : (rest : List ℕ) → Lacks 10 rest → length (lines_of rest) ≤ 1
few_lines [] lacks = omega arith
few_lines (b ∷ bs) lacks = let size : length (lines_of (b ∷ bs)) ≡ 1 = ap length (lines_of-last (b ∷ bs) lacks (omega arith)) in omega arith

-- no line is left
pub no_rest : (text rest : List ℕ) (k n : ℕ) → lines_of rest ≡ drop k (lines_of text) → Lacks 10 rest → k < n → [] ≡ drop n (lines_of text)
no_rest text rest k n here lacks more =
    sym (drop_all n (lines_of text) (omega (arith, few_lines rest lacks, ap length here, length-drop k (lines_of text))))

pub at_drop : {X : Type 0} (xs : List X) (n : ℕ) (y : X) (ys : List X) → y ∷ ys ≡ drop n xs → slice_get xs n ≡ Some y
at_drop [] zero y ys e = cc
at_drop [] (suc n) y ys e = cc
at_drop (x ∷ xs) zero y ys e = let same : x ≡ y = cc in ap (λ t. Some t) same
at_drop (x ∷ xs) (suc n) y ys e = at_drop xs n y ys e

pub stands_ended : (text rest line after : List ℕ) (k : ℕ) → lines_of rest ≡ drop k (lines_of text) → Lacks 10 line → rest ≡ ended line ++ after → slice_get (lines_of text) k ≡ Some (ended line)
stands_ended text rest line after k here lacks cut = at_drop (lines_of text) k (ended line) (lines_of after) (sym (lines_of-cut rest line after lacks cut) ∙ here)

pub stands_unended : (text rest : List ℕ) (k : ℕ) → lines_of rest ≡ drop k (lines_of text) → Lacks 10 rest → 0 < length rest → slice_get (lines_of text) k ≡ Some rest
stands_unended text rest k here lacks some = at_drop (lines_of text) k rest [] (sym (lines_of-last rest lacks some) ∙ here)

pub none_left : (text rest : List ℕ) (k : ℕ) → lines_of rest ≡ drop k (lines_of text) → length rest ≡ 0 → length (lines_of text) ≤ k
none_left text [] k here nothing = omega (arith, ap length here, length-drop k (lines_of text))
none_left text (b ∷ bs) k here nothing = absurd (omega arith)
