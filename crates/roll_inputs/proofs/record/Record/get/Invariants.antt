use Rattle.std.proofs.Common.{◌≡◌, take}
use Rattle.std.specs.Prelude.{[], slice_index_or}
use Rattle.roll_inputs.proofs.record.Record.get.Given as goal

abbrev pub invariant-loop-place : goal.invariant-loop-place
invariant-loop-place l = l.row ≡ take l.place (slice_index_or l.self.rows l.frame [])
