use Rattle.std.proofs.Common.{arith}
use Rattle.roll_contact.specs.Contacts.{opened_contact}
use Rattle.roll_mesh.specs.declared.limits.TheConstants.{MACHINE_LIMIT}
use Rattle.roll_peer.specs.Following.{contact_next, seating_at}
use Rattle.roll_peer.specs.Peered.{contact_at}
use Rattle.std.proofs.lemmas.List.FromFn.{fill_by_all}
use Rattle.roll_peer.proofs.peer.Peer.contacts_next.Goals as goal

pub returns : goal.returns
returns c = fill_by_all (λ m. contact_next (seating_at c.args.seating.now m) (contact_at c.args.self.now m)) c.loop-machine.contacts
    MACHINE_LIMIT opened_contact c.loop-machine.invariant.0 (λ m l. c.loop-machine.invariant.1 m (omega (arith, l)))
