-- What each datagram begins with.
use Rattle.std.proofs.Common.{◌≡◌, ℕ, cond, eqb, List, ◌++◌, Ok, Err, refl, subst, arith}
use Rattle.std.specs.Int.{w32}
use Rattle.std.proofs.lemmas.Bool.{eqb-true}
use Rattle.roll_wire.specs.declared.fault.WireFault.TheVariants.{Magic}
use Rattle.roll_wire.specs.declared.limits.TheConstants.{MAGIC}
use Rattle.roll_wire.specs.Spelling.{number}
use Rattle.roll_wire.specs.Reading.{number_at, magic_at}
use Rattle.roll_wire.proofs.Fields.{IsBytes, Takes, bind_ok, passed_ok, number_field}

-- it is read where it stands
pub magic_takes : (bytes : List ℕ) (n : ℕ) (rest : List ℕ) → IsBytes bytes
    → magic_at bytes ≡ Ok (n, rest) → Takes bytes (number n) rest × (n ≡ MAGIC)
unfolding magic_at
magic_takes bytes n rest b e =
    let p = bind_ok (number_at w32 bytes) (λ magic. cond (eqb magic.0 MAGIC) (Ok magic) (Err Magic))
    (n, rest) e in
    let g = passed_ok (eqb p.0.0 MAGIC) Magic p.0 (n, rest) p.2 in
    let t = number_field.takes bytes p.0.0 p.0.1 b p.1 in
    subst (λ (x : ℕ × List ℕ). Takes bytes (number x.0) x.1 × (x.0 ≡ MAGIC)) g.1
    (t.0, eqb-true p.0.0 MAGIC g.0)

-- and what begins with it is read so
pub magic_again : (rest : List ℕ) → magic_at (number MAGIC ++ rest) ≡ Ok (MAGIC, rest)
unfolding magic_at
magic_again rest = rw (number_field.again MAGIC rest (omega arith)) refl
