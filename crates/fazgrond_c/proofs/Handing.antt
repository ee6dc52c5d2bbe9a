-- Requests that are written to the front of a buffer.
use Rattle.std.proofs.Common.{◌≡◌, ◌≤◌, ◌<◌, ℕ, zero, suc, List, [], ◌∷◌, ◌++◌, drop, take, map, length, get_or, set, refl, ap, arith}

pub one_more : {A B : Type 0} (f : A → B) (xs : List A) (out : List B) (k : ℕ) (d : A) → k < length xs → length xs ≤ length out → set (map f (take k xs) ++ drop k out) k (f (get_or xs k d)) ≡ map f (take (suc k) xs) ++ drop (suc k) out
one_more f [] out k d h fits = absurd (omega (arith, h))
one_more f (x ∷ xs) [] k d h fits = absurd (omega (arith, fits))
one_more f (x ∷ xs) (o ∷ out) zero d h fits = refl
one_more f (x ∷ xs) (o ∷ out) (suc k) d h fits =
    ap (λ rest. f x ∷ rest) (one_more f xs out k d (omega (arith, h)) (omega (arith, fits)))
