-- Short numbers, digit by digit.
use Rattle.std.proofs.Common.{◌≡◌, ℕ, zero, suc, ◌-◌, ◌*◌, ◌^◌, ◌≤◌, false, ltb, List, Ok, Err, refl, arith}
use Rattle.std.proofs.lemmas.Bool.{le-ltb}
use Rattle.roll_wire.specs.declared.fault.WireFault.{WireFault}
use Rattle.roll_wire.specs.Spelling.{digits_limit}
use Rattle.roll_wire.specs.Reading.{byte_at, digits_at}

pub some_limit : (more : ℕ) → 16 ≤ digits_limit more
unfolding digits_limit
some_limit zero = omega arith
some_limit (suc more) = omega (arith, some_limit more)

pub limit_next : (more : ℕ) → 1 ≤ more → digits_limit more ≡ 128 * digits_limit (more - 1)
unfolding digits_limit
limit_next zero h = absurd (omega arith)
limit_next (suc more) h =
    let k : suc more - 1 ≡ more = omega arith in
    rw k refl

pub limit_small : (more : ℕ) → more ≤ 4 → digits_limit more ≤ 2 ^ 32
unfolding digits_limit
limit_small zero h = omega arith
limit_small (suc zero) h = omega arith
limit_small (suc (suc zero)) h = omega arith
limit_small (suc (suc (suc zero))) h = omega arith
limit_small (suc (suc (suc (suc zero)))) h = omega arith
limit_small (suc (suc (suc (suc (suc more))))) h = absurd (omega arith)

pub limit_of_short : digits_limit 4 ≡ 2 ^ 32
unfolding digits_limit
limit_of_short = refl

-- a fault in the first byte
pub digits_short : (more : ℕ) (bytes : List ℕ) (fault : WireFault) → byte_at bytes ≡ Err fault
    → digits_at more bytes ≡ Err fault
unfolding digits_at
digits_short zero bytes fault e = rw e refl
digits_short (suc more) bytes fault e = rw e refl

-- a fault in a later byte
pub digits_end : (more : ℕ) (bytes : List ℕ) (byte : ℕ) (rest : List ℕ) (fault : WireFault)
    → 1 ≤ more → byte_at bytes ≡ Ok (byte, rest) → 128 ≤ byte
    → digits_at (more - 1) rest ≡ Err fault → digits_at more bytes ≡ Err fault
unfolding digits_at
digits_end zero bytes byte rest fault m r h e = absurd (omega arith)
digits_end (suc more) bytes byte rest fault m r h e =
    let k : suc more - 1 ≡ more = omega arith in
    let high : ltb byte 128 ≡ false = le-ltb byte 128 h in
    let after : digits_at more rest ≡ Err fault = rw k at e in
    rw (r, high, after) refl
