-- Which ring an end is of, which deque, and which signals: two with the same are of one.
use Rattle.std.specs.Prelude.{ℕ, List}
use Rattle.rtrb.specs.Shared.{Names}
use Rattle.rtrb.specs.declared.AnyItems.{AnyItems}
use Rattle.rtrb.specs.declared.end.End.{End}
use Rattle.std.specs.declared.alloc.Global.{Global}
use Rattle.roll_pool.specs.declared.signals.Signals.{Signals}
use denote.RawPtr.{Ptr}

abbrev pub Ring : Type 0
Ring = Ptr × Ptr × Names × Global

abbrev pub ring_at : {T : Type 0} → End T Global AnyItems → Ring
ring_at e = (e.words, e.slots, e.names, e.heap)

abbrev pub DequeId : Type 0
DequeId = (ℕ × ℕ) × Global

abbrev pub signals_at : Signals → ℕ
signals_at s = s.closed.id

-- a worker's place in a pool: the deque that it takes jobs from, the ring of its results, and the signals that it hears
pub record Place : Type 0 where
  pub deque : DequeId
  pub ring : Ring
  pub signals : ℕ

-- the owner's end of a worker's ring, and what was collected by it, in order
pub record Inbox (D : Type 0) : Type 0 where
  pub ring : Ring
  pub came : List D
