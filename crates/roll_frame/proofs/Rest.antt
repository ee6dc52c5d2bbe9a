-- A walk over the items after the first.
use Rattle.std.proofs.Common.{◌≡◌, ℕ, suc, ◌+◌, ◌-◌, ◌<◌, List, [], ◌∷◌, ◌++◌, length, take, drop, get_or, ap, sym, arith}
use Rattle.std.proofs.lemmas.List.{get_or-take, length-take-le}
use Rattle.std.proofs.Math.Seq.{take-suc}

pub take-after_first : {X : Type 0} (xs : List X) (i : ℕ) (d : X) → i < length (take (length xs - 1) (drop 1 xs)) → take (1 + i) xs ++ get_or (take (length xs - 1) (drop 1 xs)) i d ∷ [] ≡ take (1 + (i + 1)) xs
take-after_first [] i d h = absurd (omega arith)
take-after_first {X} (x ∷ xs) i d h =
    let all : length (x ∷ xs) - 1 ≡ length xs = omega arith in
    let within : i < length xs = omega (arith, rw all at h, length-take-le (length xs) xs (omega arith)) in
    let next : 1 + (i + 1) ≡ suc (suc i) = omega arith in
    let first : 1 + i ≡ suc i = omega arith in
    rw (all, next, first, get_or-take (length xs) xs i d within) (ap (λ (ys : List X). x ∷ ys) (sym (take-suc xs i d within)))
