use Rattle.std.proofs.Common.{◌≡◌, ◌+◌, ◌∷◌, [], List, Option, Some, arith, ap, sym, subst, ◌∙◌, map, length, length-append, get_or, ℕ, true}
use Rattle.std.specs.List.Sorted.{IsPermutation}
use Rattle.std.proofs.lemmas.List.{length-map, take_all}
use Rattle.roll_tree.specs.SavedStates.{Saved}
use Rattle.roll_plan.specs.Ranks.{path_named}
use Rattle.roll_plan.specs.Spelled.{all_paths}
use Rattle.roll_plan.specs.declared.planner.Taken.{Taken}
use Rattle.roll_plan.proofs.Ranking.{is_held, state_at}
use Rattle.roll_plan.proofs.Taking.{AreTaken, IsNext, first_next, met_is, met_name, next_more, none_taken, other_more, way_more}
use Rattle.roll_plan.proofs.planner.take_others.Goals as goal
use Rattle.roll_plan.proofs.planner.take_others.Goals.{then-eq, else-eq}

pub loop-node-init : goal.loop-node-init
loop-node-init g c =
    let t = c.args.tree.now in
    let way = path_named t c.args.start in
    record {
      taken = subst (λ (l : List Taken). AreTaken t way 0 0 l) (sym c.clear.ensures.items) (none_taken t way);
      next = first_next t way c.root.result c.way_to-below.result.items c.root.ensures.state_named c.way_to-below.ensures;
      count = omega (arith, ap (λ (l : List Taken). length l) c.clear.ensures.items);
      room = omega (arith, c.requires.room, c.clear.ensures.capacity);
    }

pub taken_of-requires : goal.taken_of-requires
taken_of-requires g c =
    let names = c.names-node-items.result.now in
    record { kept = is_held c.args.tree.now names c.loop-node.node-index (state_at c.args.tree.now c.laws.ensures.named names c.names-node-items.ensures c.loop-node.node-index c.loop-node-test.true) }

pub push_reserved-requires : goal.push_reserved-requires
push_reserved-requires g c =
    let names = c.names-node-items.ensures in
    omega (arith, c.loop-node-test.true, ap (λ (l : List ℕ). length l) names, length-map c.args.tree.now.states (λ (s : Saved g.row.S.Denot). s.name), c.laws.ensures.few, c.loop-node.invariant.count, c.loop-node.invariant.room)

pub loop-node-preserved : goal.loop-node-preserved
loop-node-preserved g c =
    let t = c.args.tree.now in
    let way = path_named t c.args.start in
    let names = c.names-node-items.result.now in
    let place = c.loop-node.node-index in
    let at = state_at t c.laws.ensures.named names c.names-node-items.ensures place c.loop-node-test.true in
    let old = c.loop-node.invariant in
    elim c.if-eq.branch [
      | then-eq w ↦
          let name = get_or names place 0 in
          let met = met_name t way c.loop-node.next name (sym c.eq.ensures ∙ w.if-eq.true) in
          let next : IsNext t way c.loop-node.on_way (Some name) c.loop-node.below.items = subst (λ (o : Option ℕ). IsNext t way c.loop-node.on_way o c.loop-node.below.items) met old.next in
          let path = met_is t way c.loop-node.on_way name c.loop-node.below.items next at.state at.held_is in
          rw (w.taken-is, w.below-is, w.next-is, w.on_way-is) (record {
            taken = way_more t way names place c.loop-node.on_way c.loop-node.taken.items old.taken at (omega (arith, next.left)) path;
            next = next_more t way c.loop-node.on_way name c.loop-node.below.items next w.pop-next.result w.pop-next.new.self.items w.pop-next.ensures.value w.pop-next.ensures.rest;
            count = omega (arith, old.count);
            room = old.room;
          })
      | else-eq w ↦
          let here : Taken = w.taken_of.result in
          let pushed = w.push_reserved.ensures.items in
          rw (w.taken-is, w.below-is, w.next-is, w.on_way-is) (record {
            taken = subst (λ (l : List Taken). AreTaken t way (place + 1) c.loop-node.on_way l) (sym pushed) (other_more t way c.laws.ensures.ordered names place c.loop-node.on_way c.loop-node.taken.items old.taken at here w.taken_of.ensures);
            next = old.next;
            count = omega (arith, old.count, ap (λ (l : List Taken). length l) pushed, length-append c.loop-node.taken.items (here ∷ []));
            room = omega (arith, old.room, w.push_reserved.ensures.capacity);
          })
    ]

pub returns-clause-paths : goal.returns-clause-paths
returns-clause-paths g c =
    let t = c.args.tree.now in
    let all : length t.states ≡ length c.names-node-items.result.now = sym (ap (λ (l : List ℕ). length l) c.names-node-items.ensures ∙ length-map t.states (λ (s : Saved g.row.S.Denot). s.name)) in
    subst (λ (l : List (Saved g.row.S.Denot)). IsPermutation (map (λ (s : Saved g.row.S.Denot). s.path) l) (all_paths (path_named t c.args.start) c.loop-node.on_way c.loop-node.taken.items))
    (take_all c.loop-node.node-index t.states (omega (arith, all, c.loop-node-test.false))) c.loop-node.invariant.taken.paths

pub returns-clause-within : goal.returns-clause-within
returns-clause-within g c = c.loop-node.invariant.next.within

pub returns-clause-few : goal.returns-clause-few
returns-clause-few g c =
    let t = c.args.tree.now in
    let all = ap (λ (l : List ℕ). length l) c.names-node-items.ensures ∙ length-map t.states (λ (s : Saved g.row.S.Denot). s.name) in
    omega (arith, c.loop-node.invariant.count, all, c.laws.ensures.few, c.loop-node.auto.node-index-end)
