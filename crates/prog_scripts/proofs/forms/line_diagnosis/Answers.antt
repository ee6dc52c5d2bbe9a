use Rattle.std.proofs.Common.{◌≡◌, ◌∙◌, List, ℕ, Option, Some, None, IfSome, refl, sym, ap, subst}
use Rattle.std.specs.Option.{unwrap_or}
use Rattle.prog_scripts.specs.declared.diagnosis.Diagnosis.{Diagnosis}
use Rattle.prog_scripts.specs.declared.diagnosis.Diagnosis.TheVariants.{AfterEnd, Other}
use Rattle.prog_scripts.specs.Diagnoses.{IsTrueInside}
use Rattle.prog_scripts.proofs.forms.line_diagnosis.Goals as goal
use Rattle.prog_scripts.proofs.forms.line_diagnosis.Goals.{in-Play, in-SyncTest, in-Certify}

-- no fault of fields is `Other`
other_none : (line : List ℕ) (fault : Option Diagnosis) → IfSome fault (IsTrueInside line) → unwrap_or fault Other ≡ Other → fault ≡ None
other_none line None h e = refl
other_none line (Some d) h e = absurd (let P : Diagnosis → Type 0 = λ d. IsTrueInside line d in subst P e h)

pub returns-clause-form : goal.returns-clause-form
returns-clause-form c = λ game plays later other.
    elim c.match-task.branch [
      | in-Play w ↦ w.script_fault-fault.ensures.form later (other_none c.args.line.now w.script_fault-fault.result w.script_fault-fault.ensures.said
          (ap (λ fault. unwrap_or fault Other) (sym w.fault-is) ∙ sym c.unwrap_or.ensures ∙ other))
      | in-SyncTest w ↦ absurd (let e = w.in-SyncTest.is in cc)
      | in-Certify w ↦ absurd (let e = w.in-Certify.is in cc)
    ]

-- nor is one the end of a claim
never_end : (line : List ℕ) (fault : Option Diagnosis) → IfSome fault (IsTrueInside line) → unwrap_or fault Other ≡ AfterEnd → ⊥
never_end line None h e = cc e
never_end line (Some d) h e = let P : Diagnosis → Type 0 = λ d. IsTrueInside line d in subst P e h

pub returns-clause-task : goal.returns-clause-task
returns-clause-task c = λ end.
    absurd (elim c.match-task.branch [
      | in-Play w ↦ never_end c.args.line.now w.script_fault-fault.result w.script_fault-fault.ensures.said
          (ap (λ fault. unwrap_or fault Other) (sym w.fault-is) ∙ sym c.unwrap_or.ensures ∙ end)
      | in-SyncTest w ↦ never_end c.args.line.now w.rows_fault-fault.result w.rows_fault-fault.ensures
          (ap (λ fault. unwrap_or fault Other) (sym w.fault-is) ∙ sym c.unwrap_or.ensures ∙ end)
      | in-Certify w ↦ never_end c.args.line.now w.claim_fault-fault.result w.claim_fault-fault.ensures
          (ap (λ fault. unwrap_or fault Other) (sym w.fault-is) ∙ sym c.unwrap_or.ensures ∙ end)
    ])
