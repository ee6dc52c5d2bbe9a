-- What a queue of events is seen as.
use Rattle.std.specs.Prelude.{ℕ, List}
use Rattle.roll_peer.specs.declared.event.PeerEvent.{PeerEvent}

-- the events that wait, the oldest first, and how many were dropped
pub record Waiting : Type 0 where
  pub events : List PeerEvent
  pub lost : ℕ
