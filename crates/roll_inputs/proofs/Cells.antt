-- Rows, cell by cell.
use Rattle.std.proofs.Common.{◌≡◌, ◌∙◌, ℕ, ◌+◌, ◌-◌, ◌<◌, List, [], ◌∷◌, ◌++◌, length, get_or, take, drop, map, ap, arith}
use Rattle.std.proofs.lemmas.Grind.{common_steps}
use Rattle.std.proofs.lemmas.List.{take_more, take_all, take-append-le, map-append}
use Rattle.std.specs.List.{refill}
use Rattle.roll_frame.specs.declared.row.Cell.{Cell}
use Rattle.roll_inputs.specs.Queues.{Known}

-- one more of the queues from the second on
pub cells_more : (f : Known → Cell) (qs : List Known) (k : ℕ) (x : Known) → k < length qs - 1 → x ≡ get_or (take (length qs - 1) (drop 1 qs)) k x → map f (take (k + 1 + 1) qs) ≡ map f (take (k + 1) qs) ++ f x ∷ []
cells_more f qs k x h e =
    let i : get_or qs (k + 1) x ≡ x = grind (arith, common_steps) in
    let l : k + 1 < length qs = omega arith in
    rw (take_more qs (k + 1) x l, map-append) (ap (λ y. map f (take (k + 1) qs) ++ f y ∷ []) i)

-- a row that takes the place of one as long is what is there then
pub refilled : (old new : List Cell) → length new ≡ length old → refill (length old) old new ≡ new
refilled old new same =
    take-append-le (length old) new (drop (length new) old) (omega (arith, same))
    ∙ take_all (length old) new (omega (arith, same))
