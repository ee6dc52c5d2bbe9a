use Rattle.std.proofs.Common.{◌≡◌, ◌<◌, ℕ, zero, suc, ◌+◌, List, [], ◌∷◌, length, take, take_all, get_or, set, ap, sym, ◌∙◌, arith}
use Rattle.std.proofs.Math.ListN.{length-set}
use Rattle.fazgrond_c.proofs.peer_kinds.narrow.Goals as goal

-- lists that are alike up to a place are so past it once that is written
one_more : (xs ys : List ℕ) (k v : ℕ) → k < length xs → k < length ys → take k xs ≡ take k ys
    → v ≡ get_or ys k 0 → take (suc k) (set xs k v) ≡ take (suc k) ys
one_more [] ys k v h g same is = absurd (omega (arith, h))
one_more (x ∷ xs) [] k v h g same is = absurd (omega (arith, g))
one_more (x ∷ xs) (y ∷ ys) zero v h g same is = ap (λ w. w ∷ []) is
one_more (x ∷ xs) (y ∷ ys) (suc k) v h g same is =
    let tails : take k xs ≡ take k ys = cc same in
    let rest = one_more xs ys k v (omega (arith, h)) (omega (arith, g)) tails is in
    cc (same, rest)

pub loop-place-preserved : goal.loop-place-preserved
loop-place-preserved c =
    let place = c.loop-place.place in
    let bytes = c.loop-place.bytes in
    let numbers = c.args.numbers.now in
    let next : suc place ≡ place + 1 = omega arith in
    record {
      sized = length-set bytes place c.in-Ok.byte ∙ c.loop-place.invariant.sized;
      same = ap (λ n. take n (set bytes place c.in-Ok.byte)) (sym next)
          ∙ (one_more bytes numbers place c.in-Ok.byte (omega arith) (omega arith) c.loop-place.invariant.same c.in-Ok.ensures.1
          ∙ ap (λ n. take n numbers) next);
    }

pub returns-clause-bytes : goal.returns-clause-bytes
returns-clause-bytes c =
    let place = c.loop-place.place in
    sym (take_all place c.loop-place.bytes (omega arith))
    ∙ (c.loop-place.invariant.same ∙ take_all place c.args.numbers.now (omega arith))
