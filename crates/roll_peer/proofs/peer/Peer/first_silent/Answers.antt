use Rattle.std.proofs.Common.{ℕ, sym, ◌∙◌, ◌&&◌, ◌<◌, subst}
use Rattle.roll_contact.specs.Contacts.{is_silent}
use Rattle.roll_peer.specs.CutOffs.{is_here}
use Rattle.roll_peer.specs.Peered.{contact_at, Peered}
use Rattle.roll_peer.proofs.Counts.{first_passes}
use Rattle.roll_peer.proofs.peer.Peer.first_silent.Goals as goal

pub returns-then-is_long_silent : goal.returns-then-is_long_silent
returns-then-is_long_silent c =
    sym (first_passes (λ (m : ℕ). is_here c.args.self.now m
    && is_silent (contact_at c.args.self.now m) c.args.now c.args.self.now.settings.silent_after)
    c.args.self.now.settings.machines c.loop-machine.machine
    (subst (λ (p : Peered). c.loop-machine.machine < p.settings.machines) c.self.view_is c.loop-machine-test.true) (sym c.is_long_silent.ensures ∙ c.if-is_long_silent.true) c.loop-machine.invariant)
