-- What a planner's callers see, from its fields.
use Rattle.std.proofs.Common.{◌≡◌, Bool, true, false, refl, sym, ap, subst, ◌∙◌, Option, Some, None, cond}
use Rattle.std.specs.Prelude.{is_none, IfSome}
use Rattle.std.proofs.lemmas.Bool.{false≢true}
use Rattle.roll_plan.specs.Fields.{planned_in, planned_of}
use Rattle.roll_plan.specs.Plans.{PlannedRoll, Planned}
use Rattle.roll_plan.specs.declared.planner.Planner.TheInside.{Inside}

-- there is a last plan
pub was_made : (p : Inside) (seen : Planned) → seen ≡ planned_of p → is_none seen.last ≡ false → p.is_made ≡ true
was_made p seen e some = go p.is_made refl
  where
    go : (b : Bool) → p.is_made ≡ b → p.is_made ≡ true
    go true h = h
    go false h = absurd (false≢true (sym some ∙ ap (λ (s : Planned). is_none s.last) e ∙ ap (λ b. is_none (cond b (Some (planned_in p)) None)) h))

pub last_is : (p : Inside) (seen : Planned) → seen ≡ planned_of p → p.is_made ≡ true → seen.last ≡ Some (planned_in p)
last_is p seen e h = ap (λ (s : Planned). s.last) e ∙ ap (λ b. cond b (Some (planned_in p)) None) h

-- what holds of the plan that was made
pub of_last : (p : Inside) (seen : Planned) (P : PlannedRoll → Type 0) → seen ≡ planned_of p → p.is_made ≡ true → P (planned_in p) → IfSome seen.last P
of_last p seen P e h x = subst (λ (o : Option PlannedRoll). IfSome o P) (sym (last_is p seen e h)) x

pub at_last : (p : Inside) (seen : Planned) (P : PlannedRoll → Type 0) → seen ≡ planned_of p → p.is_made ≡ true → IfSome seen.last P → P (planned_in p)
at_last p seen P e h x = subst (λ (o : Option PlannedRoll). IfSome o P) (last_is p seen e h) x
