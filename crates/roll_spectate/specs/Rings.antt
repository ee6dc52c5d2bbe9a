-- Which ring an end is of: two with the same are of one.
use Rattle.rtrb.specs.Shared.{Names}
use Rattle.rtrb.specs.declared.end.End.{End}
use Rattle.std.specs.declared.alloc.Global.{Global}
use denote.RawPtr.{Ptr}

abbrev pub Ring : Type 0
Ring = Ptr × Ptr × Names × Global

abbrev pub ring_at : {T P : Type 0} → End T Global P → Ring
ring_at e = (e.words, e.slots, e.names, e.heap)
