use Rattle.std.proofs.Common.{false, arith, sym, ◌∙◌}
use Rattle.std.proofs.lemmas.List.{length-replicate}
use Rattle.std.specs.Prelude.{replicate}
use Rattle.roll_mesh.specs.declared.limits.TheConstants.{MACHINE_LIMIT}
use Rattle.roll_carry.specs.Carrying.{is_owed}
use Rattle.roll_mesh.proofs.Places.{filled}
use Rattle.roll_carry.proofs.carrier.Carrier.all_owed.Goals as goal

pub returns : goal.returns
returns c = filled (is_owed c.args.self.now.map c.args.self.now.turns) (replicate MACHINE_LIMIT false) c.loop-machine.owed false
    (c.loop-machine.invariant.0 ∙ sym (length-replicate MACHINE_LIMIT false)) (λ m h. c.loop-machine.invariant.1 m (omega (arith, h, length-replicate MACHINE_LIMIT false)))
