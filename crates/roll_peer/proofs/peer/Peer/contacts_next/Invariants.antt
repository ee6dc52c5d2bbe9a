use Rattle.std.proofs.Common.{◌≡◌, ℕ, ◌<◌, ◌≤◌, length, get_or}
use Rattle.roll_contact.specs.Contacts.{opened_contact}
use Rattle.roll_mesh.specs.declared.limits.TheConstants.{MACHINE_LIMIT}
use Rattle.roll_peer.specs.Following.{contact_next, seating_at}
use Rattle.roll_peer.specs.Peered.{contact_at}
use Rattle.roll_peer.proofs.peer.Peer.contacts_next.Given as goal

abbrev pub invariant-loop-machine : goal.invariant-loop-machine
invariant-loop-machine l =
    (length l.contacts ≡ MACHINE_LIMIT)
    × ((m : ℕ) → m < l.machine → get_or l.contacts m opened_contact ≡ contact_next (seating_at l.seating m) (contact_at l.self m))
    × ((m : ℕ) → l.machine ≤ m → get_or l.contacts m opened_contact ≡ opened_contact)
