use Rattle.std.proofs.Common.{length, ◌-◌, ◌≤◌, ◌+◌}
use Rattle.std.specs.Io.KnownBytes.{Consumes}
use Rattle.roll_text.specs.declared.streams.TheConstants.{TEXT_LIMIT}
use Rattle.roll_text.proofs.streams.read_front.Given as goal

abbrev pub invariant-loop-buffer : goal.invariant-loop-buffer
invariant-loop-buffer g l = record {
  bounded : length l.text.items ≤ TEXT_LIMIT + 1;
  taken : Consumes (g.R.Read.remaining l.fn.reader) (g.R.Read.remaining l.reader) l.text.items;
}

abbrev pub decreases-loop-buffer : goal.decreases-loop-buffer
decreases-loop-buffer g l = TEXT_LIMIT + 1 - length l.text.items
