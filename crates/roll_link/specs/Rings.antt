-- Which ring an end is of.
use Rattle.std.specs.Prelude.{◌≡◌, []}
use Rattle.rtrb.specs.Ring.{sent, known_free}
use Rattle.rtrb.specs.Shared.{Names}
use Rattle.rtrb.specs.declared.AnyItems.{AnyItems}
use Rattle.rtrb.specs.declared.end.End.{End}
use Rattle.rtrb.specs.declared.producer.Producer.{Producer}
use Rattle.std.specs.declared.alloc.Global.{Global}
use Rattle.roll_link.specs.declared.link.TheConstants.{LINK_ROOM}
use Rattle.roll_link.specs.declared.remote.Remote.{Remote}
use denote.RawPtr.{Ptr}

-- two ends with the same are of one ring
abbrev pub Ring : Type 0
Ring = Ptr × Ptr × Names × Global

abbrev pub ring_at : End Remote Global AnyItems → Ring
ring_at e = (e.words, e.slots, e.names, e.heap)

-- nothing was sent by this end, and the ring is empty
abbrev pub IsFresh : Producer Remote Global AnyItems → Type 0
IsFresh producer = (sent producer ≡ []) × (known_free producer ≡ LINK_ROOM)
