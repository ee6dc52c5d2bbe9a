use Rattle.std.proofs.Common.{arith, None}
use Rattle.std.proofs.lemmas.List.FromFn.{fill_by_all}
use Rattle.roll_mesh.specs.declared.limits.TheConstants.{PLAYER_LIMIT}
use Rattle.roll_peer.specs.Marks.{offered_at}
use Rattle.roll_peer.proofs.Marked.{offered_all_spelled}
use Rattle.roll_peer.proofs.marking.offered_marks.Goals as goal

pub returns-clause-marks : goal.returns-clause-marks
returns-clause-marks c =
    fill_by_all (offered_at c.args.offers.now c.args.marks.now) c.loop-player.offered PLAYER_LIMIT None c.loop-player.invariant.0
    (λ p l. c.loop-player.invariant.1 p (omega (arith, l)))

pub returns-clause-spelled : goal.returns-clause-spelled
returns-clause-spelled c = rw (returns-clause-marks c) (offered_all_spelled c.args.offers.now c.args.marks.now c.requires)
