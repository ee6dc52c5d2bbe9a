-- What a peer tells its program, and when.
use Rattle.std.specs.Prelude.{ℕ, zero, suc, ◌+◌, ◌-◌, List, Bool, false, not, ◌&&◌, ◌==◌, nat_lt, Option, Some, None, if◌then◌else◌, slice_index_or}
use Rattle.roll_mesh.specs.Machines.{is_in}
use Rattle.roll_contact.specs.Contacts.{is_hushed, unanswered_for}
use Rattle.roll_peer.specs.Events.{pushed}
use Rattle.roll_peer.specs.Waiting.{Waiting}
use Rattle.roll_contact.specs.declared.contact.Contact.{Contact}
use Rattle.roll_contact.specs.declared.contact.Stage.{Stage}
use Rattle.roll_contact.specs.declared.contact.Stage.TheVariants.{Silent, Greeted, Playing, Mismatched}
use Rattle.roll_contact.specs.declared.terms.Field.{Field}
use Rattle.roll_contact.specs.declared.terms.Field.TheVariants.{Lasting, Machines, Opening as OpeningState, Owners, Settings, Words}
use Rattle.roll_peer.specs.declared.event.PeerEvent.{PeerEvent}
use Rattle.roll_peer.specs.declared.event.PeerEvent.TheVariants.{Synchronizing, Synchronized, DisconnectedFromPeer, Interrupted, Resumed, Mismatch, Restarted, Refused}
use Rattle.roll_peer.specs.declared.settings.MatchSettings.{MatchSettings}

-- an event is told, if there is one
abbrev pub told : Waiting → Option PeerEvent → Waiting
told waiting None = waiting
told waiting (Some event) = pushed waiting event

-- an event that is told only under a condition
abbrev pub only_if : Bool → PeerEvent → Option PeerEvent
only_if b event = if b then Some event else None

-- what is told of the first so many machines or players, in their order
unfoldable pub told_of : (ℕ → Option PeerEvent) → ℕ → Waiting → Waiting
told_of event zero waiting = waiting
told_of event (suc n) waiting = told (told_of event n waiting) (event n)

-- ---- who is heard

-- a machine that was silent is heard again
abbrev pub resumed : ℕ → Contact → Contact → Option PeerEvent
resumed m before after = only_if (before.interrupted && not after.interrupted) (Resumed m)

-- a machine came from one stage to another, or stays
abbrev pub came : ℕ → Stage → Stage → Option PeerEvent
came m Playing after = None
came m Silent Playing = Some (Synchronized m)
came m Silent Greeted = Some (Synchronizing m 1 2)
came m Silent Silent = None
came m Silent (Mismatched field) = None
came m Greeted Playing = Some (Synchronized m)
came m Greeted Greeted = None
came m Greeted Silent = None
came m Greeted (Mismatched field) = None
came m (Mismatched was) Playing = Some (Synchronized m)
came m (Mismatched was) Greeted = None
came m (Mismatched was) Silent = None
came m (Mismatched was) (Mismatched field) = None

-- the place of a field among all
abbrev pub place_of : Field → ℕ
place_of Machines = 0
place_of Owners = 1
place_of Settings = 2
place_of Words = 3
place_of Lasting = 4
place_of OpeningState = 5

-- a field by which a machine is found to mean another match, unless it was so before
abbrev pub newly : Option Field → Option Field → Option Field
newly None after = after
newly (Some old) None = None
newly (Some old) (Some new) = if place_of old == place_of new then None else Some new

abbrev pub mismatched : ℕ → Option Field → Option PeerEvent
mismatched m None = None
mismatched m (Some field) = Some (Mismatch m field)

abbrev pub found_out : ℕ → Option Field → Option Field → Option PeerEvent
found_out m before after = mismatched m (newly before after)

-- it was opened anew, for the first time
abbrev pub restarting : ℕ → Contact → Contact → Option PeerEvent
restarting m before after =
    only_if ((before.restarted == 0) && nat_lt 0 after.restarted) (Restarted m)

-- the first of its packets is refused
abbrev pub refusing : ℕ → Contact → Contact → Option PeerEvent
refusing m before after = only_if ((before.refused == 0) && nat_lt 0 after.refused) (Refused m)

-- a machine was heard, which led from a contact to another
unfoldable pub after_heard : ℕ → Contact → Contact → Waiting → Waiting
after_heard m before after waiting =
    told (told (told (told (told waiting (resumed m before after))
    (came m before.stage after.stage))
    (found_out m before.differs after.differs))
    (restarting m before after))
    (refusing m before after)

-- ---- turns

-- a machine has been silent for long: after how many milliseconds more it is gone
abbrev pub interrupted : MatchSettings → List Bool → Contact → ℕ → ℕ → Option PeerEvent
interrupted settings gone contact now m =
    only_if (is_hushed contact now settings.notify_after && not (is_in gone m))
    (Interrupted m (settings.silent_after - unanswered_for contact now))

-- the player at a place left the session
abbrev pub player_left : List Bool → ℕ → Option PeerEvent
player_left players p =
    only_if (slice_index_or players p false) (DisconnectedFromPeer (p + 1))
