-- The pieces of a state.
use Rattle.std.proofs.Common.{◌≡◌, ℕ, ◌+◌, ◌-◌, ◌*◌, ◌<◌, min, true, List, length, take, drop, Some, refl, ap, ◌∙◌, arith}
use Rattle.std.specs.Prelude.{nat_lt}
use Rattle.std.proofs.lemmas.Bool.{lt-ltb}
use Rattle.std.proofs.lemmas.List.{length-drop, take_min}
use Rattle.roll_state.specs.Giving.{part_at, Giving}
use Rattle.roll_state.specs.States.{count_of, piece_of, size_of}
use Rattle.roll_state.specs.declared.limits.TheConstants.{PIECE_LIMIT}

-- as many bytes as the piece at a place has, from its first one on
pub taken_piece : (state : List ℕ) (place start size : ℕ) → start ≡ PIECE_LIMIT * place
    → size ≡ size_of (length state) place
    → take (start + size - start) (drop start state) ≡ piece_of state place
taken_piece state place start size at e =
    let rest : List ℕ = drop (PIECE_LIMIT * place) state in
    let many : start + size - start ≡ min PIECE_LIMIT (length rest) =
    omega (arith, length-drop (PIECE_LIMIT * place) state) in
    ap (λ (n : ℕ). take (start + size - start) (drop n state)) at
    ∙ ap (λ (n : ℕ). take n rest) many ∙ take_min PIECE_LIMIT rest

pub is_part : (giver : Giving) (place : ℕ) (bytes : List ℕ) → place < count_of giver.name.length
    → bytes ≡ piece_of giver.bytes place
    → Some (record { state = giver.name; place = place; bytes = bytes }) ≡ part_at giver place
is_part giver place bytes inside e =
    let there : nat_lt place (count_of giver.name.length) ≡ true =
    lt-ltb place (count_of giver.name.length) inside in
    rw (there, e) refl
