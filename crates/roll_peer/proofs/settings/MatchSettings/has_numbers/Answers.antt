use Rattle.std.proofs.Common.{◌∙◌, sym, arith}
use Rattle.roll_mesh.proofs.Places.{all_until, not_all_below}
use Rattle.roll_mesh.specs.declared.limits.TheConstants.{MACHINE_LIMIT}
use Rattle.roll_peer.specs.Settings.{has_numbers, has_number_for}
use Rattle.roll_peer.proofs.settings.MatchSettings.has_numbers.Goals as goal

pub returns-then-not-has_number_for : goal.returns-then-not-has_number_for
unfolding has_numbers
returns-then-not-has_number_for c =
    sym (not_all_below (has_number_for c.args.self.now) MACHINE_LIMIT c.loop-machine.machine (omega (arith, c.loop-machine-test.true))
    (sym c.has_number_for.ensures ∙ c.if-not-has_number_for.true))

pub returns : goal.returns
unfolding has_numbers
returns c =
    sym (all_until (has_number_for c.args.self.now) MACHINE_LIMIT c.loop-machine.machine (omega (arith, c.loop-machine-test.false)) c.loop-machine.invariant)
