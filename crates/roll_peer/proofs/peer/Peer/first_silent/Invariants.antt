use Rattle.std.proofs.Common.{◌≡◌, ℕ, ◌<◌, ◌&&◌, false}
use Rattle.roll_contact.specs.Contacts.{is_silent}
use Rattle.roll_peer.specs.CutOffs.{is_here}
use Rattle.roll_peer.specs.Peered.{contact_at}
use Rattle.roll_peer.proofs.peer.Peer.first_silent.Given as goal

abbrev pub invariant-loop-machine : goal.invariant-loop-machine
invariant-loop-machine l = (m : ℕ) → m < l.machine
    → (is_here l.self m && is_silent (contact_at l.self m) l.now l.self.settings.silent_after) ≡ false
