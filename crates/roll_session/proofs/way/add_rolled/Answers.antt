use Rattle.std.proofs.Common.{◌≡◌, ◌+◌, ◌-◌, ◌∙◌, ap, arith, refl, sym, subst, length}
use Rattle.roll_session.specs.Gameless.{KeepsRolled}
use Rattle.roll_session.proofs.Ways.{longer_start, longer_more}
use Rattle.roll_session.proofs.Entered.{kept_more, kept_none}
use Rattle.roll_session.proofs.way.add_rolled.Goals as goal

pub loop-frame-init : goal.loop-frame-init
loop-frame-init g c =
    let none : c.args.start.frame - c.args.start.frame ≡ 0 = omega arith in
    record {
      longer = longer_start c.args.saves.now c.args.start.frame c.args.start.to;
      going = c.requires.going;
      frame = refl;
      to = refl;
      kept = rw none (kept_none c.args.saves.now c.args.start.frame c.args.states.now);
    }

pub loop-frame-preserved : goal.loop-frame-preserved
loop-frame-preserved g c =
    let now = c.loop-frame.invariant in
    let saved = c.go_on.ensures in
    let old = c.args.saves.now in
    let added = rw now.frame at saved.added in
    let snapshot = c.index-states-frame.result in
    record {
      longer = longer_more old c.loop-frame.saves c.go_on.new.self c.args.start.frame c.args.start.to c.loop-frame.frame c.go_on.new.way.at snapshot c.requires.going.deepest now.longer (omega (arith, c.loop-frame.auto.frame)) (omega (arith, c.loop-frame-test.true, c.requires.few)) saved.inputs saved.room added;
      going = saved.going;
      frame = saved.frame ∙ ap (λ n. n + 1) now.frame;
      to = saved.to ∙ now.to;
      kept = kept_more old c.loop-frame.saves c.go_on.new.self c.args.states.now c.args.start.frame c.loop-frame.frame c.go_on.new.way.at snapshot (omega (arith, c.loop-frame.auto.frame)) now.kept (omega (arith, c.requires.going.deepest)) now.longer.inputs (sym c.index-states-frame.is) added;
    }

pub returns-clause-kept : goal.returns-clause-kept
returns-clause-kept g c =
    let end : c.loop-frame.frame - c.args.start.frame ≡ length c.args.states.now = omega (arith, c.loop-frame-test.false, c.loop-frame.auto.frame-end, c.loop-frame.auto.frame, c.requires.few) in
    subst (KeepsRolled c.args.saves.now c.loop-frame.saves c.args.start.frame c.args.states.now) end c.loop-frame.invariant.kept
