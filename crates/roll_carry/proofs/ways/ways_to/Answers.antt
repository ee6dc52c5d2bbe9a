use Rattle.std.proofs.Common.{◌≡◌, ◌⊎◌, inl, inr, ℕ, ◌+◌, ◌<◌, List, Bool, [], get_or, set, sym, ap, ◌∙◌, arith}
use Rattle.std.proofs.lemmas.Bool.{cases_eq}
use Rattle.std.proofs.lemmas.List.{get_or-set_other, get_or-set_same, length-set}
use Rattle.std.proofs.lemmas.List.FromFn.{fill_by_all}
use Rattle.roll_mesh.specs.Machines.{at_places}
use Rattle.roll_carry.specs.Ways.{is_near, ways_to, with_way}
use Rattle.roll_carry.specs.declared.limits.TheConstants.{BETWEEN_LIMIT}
use Rattle.roll_carry.proofs.Found.{ways_next}
use Rattle.roll_carry.proofs.ways.ways_to.Goals as goal

pub loop-between-preserved : goal.loop-between-preserved
loop-between-preserved c = (
  c.widened-reached.ensures
      ∙ ap (λ (set : List Bool). at_places (is_near c.args.lines.now c.args.shut.now set) set) c.loop-between.invariant.0
      ∙ sym (ways_next c.args.lines.now c.args.shut.now c.args.to c.loop-between.between),
  length-set c.loop-between.ways c.loop-between.between c.loop-between.reached ∙ c.loop-between.invariant.1,
  λ m h. at m h (cases_eq m c.loop-between.between),
)
  where
    at : (m : ℕ) → m < c.loop-between.between + 1 → (m ≡ c.loop-between.between) ⊎ (m ≡ c.loop-between.between → ⊥)
        → get_or (set c.loop-between.ways c.loop-between.between c.loop-between.reached) m []
        ≡ with_way c.args.lines.now c.args.shut.now c.args.to m
    at m h (inl e) = rw e (get_or-set_same c.loop-between.ways c.loop-between.between c.loop-between.reached []
        (omega (arith, c.loop-between.invariant.1)) ∙ c.loop-between.invariant.0)
    at m h (inr e) = get_or-set_other c.loop-between.ways c.loop-between.between m c.loop-between.reached [] e
        ∙ c.loop-between.invariant.2 m (omega arith)

pub returns : goal.returns
unfolding ways_to
returns c = fill_by_all (with_way c.args.lines.now c.args.shut.now c.args.to) c.loop-between.ways BETWEEN_LIMIT []
    c.loop-between.invariant.1 (λ m h. c.loop-between.invariant.2 m (omega (arith, h)))
