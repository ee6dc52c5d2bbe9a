use Rattle.std.proofs.Common.{◌∙◌, sym, arith}
use Rattle.roll_mesh.proofs.Places.{all_until, not_all_below}
use Rattle.roll_mesh.specs.declared.limits.TheConstants.{MACHINE_LIMIT}
use Rattle.roll_chain.specs.Chains.{is_seen}
use Rattle.roll_chain.proofs.Ranges.{each_next}
use Rattle.roll_chain.proofs.chain.Chain.is_past_over.Goals as goal

pub loop-machine-preserved : goal.loop-machine-preserved
loop-machine-preserved c =
    each_next (is_seen c.args.peer.now) c.loop-machine.machine c.loop-machine.invariant
    (sym c.is_seen.ensures ∙ c.if-not-is_seen.false)

pub returns-then-not-is_seen : goal.returns-then-not-is_seen
returns-then-not-is_seen c =
    sym (not_all_below (is_seen c.args.peer.now) MACHINE_LIMIT c.loop-machine.machine (omega arith)
    (sym c.is_seen.ensures ∙ c.if-not-is_seen.true))

pub returns : goal.returns
returns c =
    sym (all_until (is_seen c.args.peer.now) MACHINE_LIMIT c.loop-machine.machine (omega arith) c.loop-machine.invariant)
