use Rattle.std.proofs.Common.{◌∙◌, ◌-◌, ◌≤◌, ◌++◌, length, take, ap, arith, refl, true, Some}
use Rattle.std.proofs.lemmas.List.Elements.{All-map}
use Rattle.roll_frame.specs.declared.limits.TheConstants.{PATH_LIMIT}
use Rattle.roll_frame.specs.Cells.{Rows}
use Rattle.roll_tree.specs.SavedStates.{Saved}
use Rattle.roll_plan.specs.Plans.{CanPlan, Planned}
use Rattle.roll_plan.specs.declared.planner.Planner.TheInside.{Inside}
use Rattle.roll_plan.proofs.Making.{IsDone, done_last, goes_on, made_is, start_ends, way_is}
use Rattle.roll_plan.proofs.planner.Planner.plan_from.Given.{Over}
use Rattle.roll_plan.proofs.planner.Planner.plan_from.Goals as goal

can_plan : (g : Over) (c : goal.After-self-6-1 g) → CanPlan c.args.self.now.players c.args.tree.now c.args.to
can_plan g c = c.requires.can

pub overflow_sub-self : goal.overflow_sub-self
overflow_sub-self g c = goes_on c.args.self.now.players c.args.start c.args.from c.args.to c.args.tree.now c.requires.can c.requires.starts

pub name_passed-requires-clause-from : goal.name_passed-requires-clause-from
name_passed-requires-clause-from g c = start_ends c.args.self.now.players c.args.start c.args.from c.args.to c.args.tree.now c.requires.can c.requires.starts c.requires.start

-- the fields at the end
abbrev inside : (g : Over) (c : goal.After-self-6-1 g) → Inside
inside g c =
    record {
      players = c.self.inside.players;
      base = c.base-self-inside.result;
      time = c.try_extend_from_slice.new.self;
      on_way = c.take_down-self-inside.result;
      taken = c.take_down-self-inside.new.taken;
      ranked = c.name_passed.new.ranked;
      plan = record { to = c.args.to; from = c.args.from; rerun = c.args.to - c.args.from; differs = c.name_passed.new.differs };
      is_made = true;
    }

is_done : (g : Over) (c : goal.After-self-6-1 g) → IsDone c.args.self.now.players c.args.start c.args.from c.args.to c.args.tree.now (can_plan g c) c.requires.starts (inside g c)
is_done g c =
    let players = c.args.self.now.players in
    let t = c.args.tree.now in
    let extended = rw c.unwrap.ensures at c.try_extend_from_slice.ensures.ok in
    let time =
    extended
    ∙ ap (λ (l : Rows). l ++ take (c.args.to - c.base-self-inside.result) c.time.result.now) c.clear.ensures
    ∙ (λ i. take (c.args.to - c.base-self-inside.ensures i) (c.time.ensures.value i)) in
    record {
      some = c.self.invariant.some;
      few = c.self.invariant.few;
      players_are = ap (λ (s : Planned). s.players) c.self.view_is;
      root = c.laws.ensures.rooted;
      short = omega (arith, c.time.ensures.few, ap (λ (l : Rows). length l) c.time.ensures.value);
      base = c.base-self-inside.ensures;
      time = time;
      way = way_is players c.args.start c.args.from c.args.to t (can_plan g c) c.requires.starts c.requires.start (inside g c) c.base-self-inside.ensures refl time;
      taken = c.take_down-self-inside.ensures.paths;
      on_way = c.take_down-self-inside.ensures.within;
      others = c.take_down-self-inside.ensures.few;
      paths = All-map (λ (p : Rows). length p ≤ PATH_LIMIT) (λ (s : Saved g.row.S.Denot). s.path) c.args.tree.now.states c.laws.ensures.short;
      to_is = refl;
      from_is = refl;
      rerun = refl;
      differs = c.name_passed.ensures.entries;
    }

pub invariant_of-self : goal.invariant_of-self
invariant_of-self g c =
    record {
      some = c.self.invariant.some;
      few = c.self.invariant.few;
      room = c.take_down-self-inside.ensures.room;
      ranks = c.name_passed.ensures.ranked;
      space = c.name_passed.ensures.differs;
      last = λ _. done_last c.args.self.now.players c.args.start c.args.from c.args.to c.args.tree.now (can_plan g c) c.requires.starts (inside g c) (is_done g c);
    }

pub returns : goal.returns
returns g c =
    let made = made_is c.args.self.now.players c.args.start c.args.from c.args.to c.args.tree.now (can_plan g c) c.requires.starts (inside g c) (is_done g c) in
    λ i. record { players = (c.self.view_is i).players; last = Some (made i) }
