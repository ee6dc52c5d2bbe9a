use Rattle.std.proofs.Common.{◌≡◌, ◌++◌, map}
use Rattle.roll_text.specs.Lines.{text_of}
use Rattle.roll_cli.specs.SyncTests.{verdict_line, verdicts_of}
use Rattle.roll_cli.proofs.Tested.{IsSoFar}
use Rattle.roll_cli.proofs.sync_test.push_verdicts.Given as goal

-- what stands written is what is said of the rows so far
abbrev pub invariant-loop-row : goal.invariant-loop-row
invariant-loop-row g l = record {
  so_far : IsSoFar g.G.RawGame.ran l.fn.test.second l.fn.test.frames l.rows l.test l.row-index;
  said : l.out.items ≡ l.fn.out.items ++ text_of (map verdict_line (verdicts_of l.fn.test.frames l.row-index));
}
