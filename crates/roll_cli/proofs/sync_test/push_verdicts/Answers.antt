use Rattle.std.proofs.Common.{◌∙◌, ◌∷◌, ◌++◌, [], ap, add-one, append-nil, append_assoc, length, map, subst, sym, refl, arith}
use Rattle.roll_synctest.specs.Tests.{Says}
use Rattle.std.proofs.Math.Nat.{zero-mul}
use Rattle.std.proofs.lemmas.List.{get_or_default}
use Rattle.roll_synctest.specs.declared.verdict.Verdict.TheVariants.{Mismatch}
use Rattle.roll_text.specs.Lines.{ended, text_of}
use Rattle.roll_cli.specs.SyncTests.{verdict_line, verdicts_of}
use Rattle.roll_cli.proofs.Tested.{mismatched, said_more, went_on}
use Rattle.roll_cli.proofs.sync_test.push_verdicts.Goals as goal

pub loop-row-init : goal.loop-row-init
loop-row-init g c = record {
  so_far = record {
    same = refl;
    done = [];
    groups = 0;
    multiple = sym (zero-mul c.args.test.frames);
    verified = c.requires.fresh;
    split = sym c.requires.none;
    within = omega arith;
    short = omega (arith, ap (λ rows. length rows) c.requires.none, c.requires.some);
    reached = refl;
  };
  said = sym (append-nil c.args.out.now.items);
}

pub loop-row-preserved : goal.loop-row-preserved
loop-row-preserved g c =
    let now = c.loop-row.invariant in let frames = c.args.test.frames in let count = c.loop-row.row-index in
    let on = went_on g.G.RawGame.ran c.args.test.second frames c.args.rows.now count c.loop-row-test.true c.loop-row.test c.row-item.result (c.row-item.is ∙ get_or_default c.args.rows.now count c.row-item.result [] c.loop-row-test.true) now.so_far c.step.new.self c.in-Ok.verdict c.in-Ok.ensures.verdict c.in_default-verdict.not-Mismatch in
    record {
      so_far = on.0;
      said =
          c.in_ok-push_verdict.ensures ∙ ap (λ t. t ++ ended (verdict_line c.in-Ok.verdict)) now.said ∙ append_assoc c.args.out.now.items (text_of (map verdict_line (verdicts_of frames count))) (ended (verdict_line c.in-Ok.verdict))
          ∙ ap (λ t. c.args.out.now.items ++ t) (sym (said_more (verdicts_of frames count) c.in-Ok.verdict))
          ∙ ap (λ v. c.args.out.now.items ++ text_of (map verdict_line (verdicts_of frames count ++ v ∷ []))) (sym on.1)
          ∙ ap (λ n. c.args.out.now.items ++ text_of (map verdict_line (verdicts_of frames n))) (sym (add-one count));
    }

pub returns-in-Mismatch-clause-said : goal.returns-in-Mismatch-clause-said
returns-in-Mismatch-clause-said g c =
    let now = c.loop-row.invariant in let frames = c.args.test.frames in let count = c.loop-row.row-index in let frame = c.in-Mismatch.field-0 in (
      verdicts_of frames count ++ Mismatch frame ∷ [],
      (count, frame, refl, mismatched g.G.RawGame.ran c.args.test.second frames c.args.rows.now count c.loop-row-test.true c.loop-row.test c.row-item.result (c.row-item.is ∙ get_or_default c.args.rows.now count c.row-item.result [] c.loop-row-test.true) now.so_far c.step.new.self frame (subst (Says g.G.RawGame.ran c.loop-row.test c.step.new.self c.row-item.result) c.in-Mismatch.is c.in-Ok.ensures.verdict)),
      c.in_ok-push_verdict.ensures ∙ ap (λ t. t ++ ended (verdict_line c.in-Ok.verdict)) now.said ∙ append_assoc c.args.out.now.items (text_of (map verdict_line (verdicts_of frames count))) (ended (verdict_line c.in-Ok.verdict))
          ∙ ap (λ t. c.args.out.now.items ++ t) (sym (said_more (verdicts_of frames count) c.in-Ok.verdict))
          ∙ ap (λ v. c.args.out.now.items ++ text_of (map verdict_line (verdicts_of frames count ++ v ∷ []))) c.in-Mismatch.is,
    )
