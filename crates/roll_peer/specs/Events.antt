-- What waits after one more event, and after one was taken.
use Rattle.std.specs.Prelude.{[], ◌∷◌, ◌++◌, length, drop, ◌==◌, if◌then◌else◌}
use Rattle.roll_peer.specs.declared.event.PeerEvent.{PeerEvent}
use Rattle.roll_peer.specs.declared.event.TheConstants.{EVENT_LIMIT}
use Rattle.roll_contact.specs.Clocks.{one_more}
use Rattle.roll_peer.specs.Waiting.{Waiting}

-- the oldest is gone, if there is one
abbrev pub popped : Waiting → Waiting
popped waiting = record waiting { events = drop 1 waiting.events }

-- the oldest is dropped if there were as many as can wait
abbrev pub pushed : Waiting → PeerEvent → Waiting
pushed waiting event =
    if length waiting.events == EVENT_LIMIT
    then record {
      events = drop 1 waiting.events ++ event ∷ [];
      lost = one_more waiting.lost;
    }
    else record waiting { events = waiting.events ++ event ∷ [] }
