use Rattle.std.proofs.Common.{ℕ, ◌++◌, ◌∙◌, ap, arith}
use Rattle.roll_wire.specs.Spelling.{number}
use Rattle.roll_wire.proofs.Heads.{magic_takes}
use Rattle.roll_carry.proofs.reading.tail_of.Goals as goal

pub returns-in-Ok-clause-whole : goal.returns-in-Ok-clause-whole
returns-in-Ok-clause-whole c =
    let t = magic_takes c.args.bytes.now c.in-Ok._magic c.in-Ok.tail.now
    (λ i. omega (arith, c.type_inv.bytes i)) c.in-Ok.ensures in
    t.0.parts ∙ ap (λ (n : ℕ). number n ++ c.in-Ok.tail.now) t.1
