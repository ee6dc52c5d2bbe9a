use Rattle.std.proofs.Common.{◌≡◌, ◌-◌, ◌∙◌, ap, sym, arith}
use Rattle.roll_session.proofs.Leaving.{gone_far, gone_in, gone_next, gone_none}
use Rattle.roll_session.proofs.saves.cut_words.Goals as goal

pub loop-frame-init : goal.loop-frame-init
loop-frame-init g c =
    let t = c.args.tree.now in
    let zero : c.args.from - c.args.from ≡ 0 = omega arith in
    record {
      tree = ap (λ states. record t { states = states }) (sym (ap (λ n. gone_in (c.args.player - 1) n (c.args.from - t.base) t.states) zero ∙ gone_none (c.args.player - 1) (c.args.from - t.base) t.states));
      low = omega arith;
    }

pub loop-frame-preserved : goal.loop-frame-preserved
loop-frame-preserved g c =
    let t = c.args.tree.now in
    record {
      tree = c.cut.ensures ∙ rw c.loop-frame.invariant.tree (ap (λ states. record t { states = states }) (gone_next c.args.player t.base c.args.from c.loop-frame.frame t.states c.requires.some c.requires.base c.loop-frame.invariant.low));
      low = omega (arith, c.loop-frame.invariant.low);
    }

pub returns : goal.returns
returns g c =
    let t = c.args.tree.now in
    c.loop-frame.invariant.tree ∙ ap (λ states. record t { states = states }) (gone_far (c.args.player - 1) (c.loop-frame.frame - c.args.from) (c.args.from - t.base) t.states (omega (arith, c.loop-frame-test.false, c.base.ensures, c.requires.base, c.loop-frame.invariant.low)) c.laws.ensures.short)
