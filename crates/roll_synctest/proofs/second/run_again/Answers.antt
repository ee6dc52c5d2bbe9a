use Rattle.std.proofs.Common.{◌≡◌, suc, ◌+◌, arith, add-one, sym, refl, ◌∙◌}
use Rattle.std.proofs.lemmas.List.{length-map}
use Rattle.roll_synctest.proofs.Traces.{again_before}
use Rattle.roll_synctest.proofs.second.run_again.Goals as goal

pub loop-place-preserved : goal.loop-place-preserved
loop-place-preserved g c =
    let place = c.loop-place.place in
    let value = g.R.RawGame.snapshot_value in
    let results = c.args.results.now in
    let saved = c.in-Ok-advance_and_save.ensures in
    let again = again_before value (value c.args.from.now) results place c.index-results-place.result c.in-Ok-advance_and_save.again (omega (arith, c.loop-place-test.true, c.requires.trace.many, length-map results value)) c.index-results-place.is (c.if-not-same.ensures.0 refl) in
    record {
      before = sym saved.snapshot ∙ again;
      last = λ _. again;
      counts =
          let one : place + 1 ≡ suc place = add-one place in
          rw (one, saved.counts, c.loop-place.invariant.counts) refl;
    }
