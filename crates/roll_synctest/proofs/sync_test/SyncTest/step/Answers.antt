use Rattle.std.proofs.Common.{◌≡◌, ◌+◌, length, ◌∙◌, ap, arith}
use Rattle.roll_game.specs.Counts.{rolled}
use Rattle.roll_synctest.specs.Runs.{IsOther, value_before}
use Rattle.roll_synctest.proofs.Steps.{test_now, run_is, trace_now, verified_is, mismatch_is}
use Rattle.roll_synctest.proofs.sync_test.SyncTest.step.Goals as goal

pub invariant_of-self-then-count-self : goal.invariant_of-self-then-count-self
invariant_of-self-then-count-self g c =
    let s = c.self.inside in
    test_now g.R.RawGame.ran s.frames s.verified (g.R.RawGame.snapshot_value s.second) s.first c.in-Some.first c.run.new.self c.args.row.now c.in-Some.ensures.value c.self.invariant c.in_ok-run.ensures.ran c.in_ok-run.ensures.taken (omega (arith, c.if-self-count-ge-FRAME_LIMIT.false, c.count.ensures)) (omega (arith, c.if-count-self.true, c.count-2.ensures))

pub returns-then-count-self-clause-verdict : goal.returns-then-count-self-clause-verdict
returns-then-count-self-clause-verdict g c =
    let s = c.self.inside in
    run_is g.R.RawGame.ran s.frames s.verified (g.R.RawGame.snapshot_value s.second) s.first c.in-Some.first c.run.new.self c.args.row.now c.in-Some.ensures.value c.self.invariant c.in_ok-run.ensures.ran c.in_ok-run.ensures.taken c.args.self.now (g.R.RawGame.call_counts s.game) (g.R.RawGame.call_counts c.run.new.game) c.self.view_is (omega (arith, c.if-count-self.true, c.count-2.ensures)) c.in_ok-run.ensures.counts

pub run_again-requires-clause-trace : goal.run_again-requires-clause-trace
run_again-requires-clause-trace g c =
    let s = c.self.inside in
    trace_now g.R.RawGame.ran s.frames s.verified (g.R.RawGame.snapshot_value s.second) s.first c.in-Some.first c.run.new.self c.args.row.now c.in-Some.ensures.value c.self.invariant c.in_ok-run.ensures.ran c.in_ok-run.ensures.taken

pub returns-in-Agrees-clause-verdict : goal.returns-in-Agrees-clause-verdict
returns-in-Agrees-clause-verdict g c =
    let s = c.self.inside in
    let again : g.R.RawGame.snapshot_value c.in-Agrees.last ≡ value_before (g.R.RawGame.snapshot_value s.second) c.run.new.self.results (length c.run.new.self.rows) = rw c.in-Agrees.is at c.in_ok-last.ensures.rerun in
    let counts : g.R.RawGame.call_counts c.run_again.new.game ≡ rolled (length c.run.new.self.rows) (g.R.RawGame.call_counts c.run.new.game) = rw c.in-Agrees.is at c.in_ok-last.ensures.counts in
    verified_is g.R.RawGame.ran s.frames s.verified (g.R.RawGame.snapshot_value s.second) s.first c.in-Some.first c.run.new.self c.args.row.now c.in-Some.ensures.value c.self.invariant c.in_ok-run.ensures.ran c.in_ok-run.ensures.taken c.args.self.now (g.R.RawGame.call_counts s.game) (g.R.RawGame.call_counts c.run_again.new.game) c.self.view_is (g.R.RawGame.snapshot_value c.in-Agrees.last) c.clear.new.self (omega (arith, c.if-count-self.false, c.count-2.ensures)) again c.clear.ensures (counts ∙ ap (rolled (length c.run.new.self.rows)) c.in_ok-run.ensures.counts)

pub returns-in-Differs-clause-verdict : goal.returns-in-Differs-clause-verdict
returns-in-Differs-clause-verdict g c =
    let s = c.self.inside in
    let other : IsOther g.R.RawGame.ran (g.R.RawGame.snapshot_value s.second) c.run.new.self.rows c.run.new.self.results c.in-Differs.place = rw c.in-Differs.is at c.in_ok-last.ensures.rerun in
    let counts : g.R.RawGame.call_counts c.run_again.new.game ≡ rolled (c.in-Differs.place + 1) (g.R.RawGame.call_counts c.run.new.game) = rw c.in-Differs.is at c.in_ok-last.ensures.counts in
    mismatch_is g.R.RawGame.ran s.frames s.verified (g.R.RawGame.snapshot_value s.second) s.first c.in-Some.first c.run.new.self c.args.row.now c.in-Some.ensures.value c.self.invariant c.in_ok-run.ensures.ran c.in_ok-run.ensures.taken c.args.self.now (g.R.RawGame.call_counts s.game) (g.R.RawGame.call_counts c.run_again.new.game) c.self.view_is c.in-Differs.place c.take.new.self (omega (arith, c.if-count-self.false, c.count-2.ensures)) other c.take.ensures.after (counts ∙ ap (rolled (c.in-Differs.place + 1)) c.in_ok-run.ensures.counts)
