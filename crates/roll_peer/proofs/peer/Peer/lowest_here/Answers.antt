use Rattle.std.proofs.Common.{◌<◌, sym, ◌∙◌, subst}
use Rattle.roll_peer.specs.CutOffs.{is_here}
use Rattle.roll_peer.specs.Peered.{Peered}
use Rattle.roll_peer.proofs.Counts.{first_passes}
use Rattle.roll_peer.proofs.peer.Peer.lowest_here.Goals as goal

pub returns-then-is_here-clause-lowest : goal.returns-then-is_here-clause-lowest
returns-then-is_here-clause-lowest c =
    sym (first_passes (is_here c.args.self.now) c.args.self.now.settings.machines c.loop-machine.machine
    (subst (λ (p : Peered). c.loop-machine.machine < p.settings.machines) c.self.view_is c.loop-machine-test.true) (sym c.is_here.ensures ∙ c.if-is_here.true) c.loop-machine.invariant)
