use Rattle.std.proofs.Common.{◌≡◌, suc, ◌+◌, ◌-◌, refl, arith, ◌∙◌, ap}
use Rattle.roll_session.proofs.Ways.{grown_more, grown_start}
use Rattle.roll_session.proofs.roll.run_on.Goals as goal

pub loop-frame-init : goal.loop-frame-init
loop-frame-init g c =
    let none : c.args.start.frame - c.args.start.frame ≡ 0 = omega arith in
    record {
      grown = grown_start g.G.RawGame.snapshot_value g.G.Game.step c.args.saves.now c.args.start c.requires c.reached.result.now (g.G.RawGame.state_value c.in-Ok.loaded) c.reached.ensures c.in-Ok.ensures.value;
      going = c.requires;
      frame = refl;
      to = refl;
      counts = rw none c.in-Ok.ensures.counts;
    }

pub loop-frame-preserved : goal.loop-frame-preserved
loop-frame-preserved g c =
    let now = c.loop-frame.invariant in
    let stepped = (g.met.G.Game.is_step _ _ _).0 c.in-Ok-advance_and_save.ensures.ran in
    let saved = c.go_on.ensures in
    record {
      grown =
          grown_more g.G.RawGame.snapshot_value g.G.Game.step c.args.saves.now c.args.start c.requires c.loop-frame.saves c.go_on.new.self c.loop-frame.frame c.go_on.new.way.at (g.G.RawGame.state_value c.loop-frame.state) (g.G.RawGame.state_value c.advance_and_save.new.state)
          c.in-Ok-advance_and_save.snapshot c.next_row-row.result now.grown (omega (arith, c.loop-frame-test)) (omega (arith, c.loop-frame-test.true)) (rw (← now.frame) c.next_row-row.ensures) stepped (c.in-Ok-advance_and_save.ensures.snapshot ∙ stepped) saved.inputs saved.room (rw now.frame at saved.added);
      going = saved.going;
      frame = saved.frame ∙ ap (λ n. n + 1) now.frame;
      to = saved.to ∙ now.to;
      counts =
          let one : c.loop-frame.frame + 1 - c.args.start.frame ≡ suc (c.loop-frame.frame - c.args.start.frame) = omega arith in
          rw (one, c.in-Ok-advance_and_save.ensures.counts, now.counts) refl;
    }
