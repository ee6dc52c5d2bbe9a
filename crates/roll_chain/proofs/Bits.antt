-- Eight bits as a number.
use Rattle.std.proofs.Common.{◌≡◌, ℕ, ◌+◌, ◌*◌, List, [], ◌∷◌, length, arith}
use Rattle.std.specs.Int.{from_bool}
use Rattle.std.specs.Prelude.{◌==◌, slice_index}
use Rattle.roll_wire.specs.Spelling.{mask}
use Rattle.roll_chain.specs.Seams.{local_bits}

abbrev bit : List ℕ → ℕ → ℕ → ℕ
bit owners me k = from_bool (slice_index owners k == me)

pub eight : (owners : List ℕ) (me : ℕ) → length owners ≡ 8
    → (bit owners me 0 + 2 * (bit owners me 1 + 2 * (bit owners me 2 + 2 * bit owners me 3)))
    + 16 * (bit owners me 4 + 2 * (bit owners me 5 + 2 * (bit owners me 6 + 2 * bit owners me 7)))
    ≡ local_bits owners me
unfolding mask
eight [] me long = absurd (omega (arith, long))
eight (a ∷ []) me long = absurd (omega (arith, long))
eight (a ∷ b ∷ []) me long = absurd (omega (arith, long))
eight (a ∷ b ∷ c ∷ []) me long = absurd (omega (arith, long))
eight (a ∷ b ∷ c ∷ d ∷ []) me long = absurd (omega (arith, long))
eight (a ∷ b ∷ c ∷ d ∷ e ∷ []) me long = absurd (omega (arith, long))
eight (a ∷ b ∷ c ∷ d ∷ e ∷ f ∷ []) me long = absurd (omega (arith, long))
eight (a ∷ b ∷ c ∷ d ∷ e ∷ f ∷ g ∷ []) me long = absurd (omega (arith, long))
eight (a ∷ b ∷ c ∷ d ∷ e ∷ f ∷ g ∷ h ∷ []) me long = omega arith
eight (a ∷ b ∷ c ∷ d ∷ e ∷ f ∷ g ∷ h ∷ i ∷ more) me long = absurd (omega (arith, long))
