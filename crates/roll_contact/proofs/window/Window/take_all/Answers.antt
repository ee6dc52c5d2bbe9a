use Rattle.std.proofs.Common.{◌∙◌, ap, sym, subst, refl, arith, List, ℕ}
use Rattle.std.proofs.lemmas.List.{length-set, take_more, take_more_set, take_all}
use Rattle.roll_contact.specs.Windows.{IsWindowOf, all_after, answers_of}
use Rattle.roll_contact.proofs.Taking.{after_last, answers_last}
use Rattle.roll_contact.proofs.window.Window.take_all.Goals as goal

pub loop-at-preserved : goal.loop-at-preserved
loop-at-preserved c =
    let i = c.loop-at.at in
    let came = c.args.came.now in
    let more = take_more came i 0 c.loop-at-test.true in
    let kept = c.loop-at.invariant in
    record {
      long = simp length-set (omega arith);
      taken = λ taken are. rw (more, after_last) (c.take.ensures.taken _ (kept.taken taken are));
      answers = λ taken are.
          take_more_set c.loop-at.answers i c.take.result (omega arith)
          ∙ rw (more, answers_last, kept.answers taken are, c.take.ensures.answer _ (kept.taken taken are)) refl;
    }

pub returns-clause-taken : goal.returns-clause-taken
returns-clause-taken c taken are =
    subst (λ (came : List ℕ). IsWindowOf (all_after taken came) c.loop-at.self) (take_all c.loop-at.at c.args.came.now (omega arith)) (c.loop-at.invariant.taken taken are)

pub returns-clause-answers : goal.returns-clause-answers
returns-clause-answers c taken are =
    sym (take_all c.loop-at.at c.loop-at.answers (omega arith)) ∙ c.loop-at.invariant.answers taken are
    ∙ ap (answers_of taken) (take_all c.loop-at.at c.args.came.now (omega arith))
