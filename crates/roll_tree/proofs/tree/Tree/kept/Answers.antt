use Rattle.std.proofs.Common.{◌≡◌, ◌<◌, ◌≤◌, List, [], ◌∷◌, ◌++◌, length, map, take, get_or, refl, sym, ap, subst, ◌∙◌, arith, length-take}
use Rattle.std.specs.Prelude.{option_map}
use Rattle.std.specs.List.Sorted.{IsPermutation}
use Rattle.std.proofs.lemmas.Option.{same_Some}
use Rattle.std.proofs.lemmas.List.{take_more, take_all, length-map, map-append}
use Rattle.roll_frame.specs.declared.path.Path.{Path}
use Rattle.roll_frame.specs.Cells.{Rows}
use Rattle.roll_tree.specs.SavedStates.{Saved, path_of, paths_of}
use Rattle.roll_tree.proofs.Nodes.{path_at}
use Rattle.roll_tree.proofs.Prunes.{ordered_at}
use Rattle.roll_tree.proofs.States.{held_node, length-states, path_in, paths_are}
use Rattle.roll_tree.proofs.Sorting.{sorted_is}
use Rattle.roll_tree.proofs.tree.Tree.kept.Goals as goal

pub loop-name-init : goal.loop-name-init
loop-name-init g c = record {
  paths = c.in_ok-paths.ensures.items;
  room = omega (arith, length-map c.args.self.now.states (λ (s : Saved g.row.S.Denot). s.path), length-states c.self.inside c.args.self.now c.self.view_is c.self.invariant, c.len.ensures, c.in_ok-paths.ensures.capacity);
}

pub path-requires : goal.path-requires
path-requires g c =
    let t = c.self.inside in
    let within : c.loop-name.name-index < length t.order.items = rw c.deref-name-items.ensures.value at c.loop-name-test.true in
    let after = ordered_at t.nodes.slots [] t.order.items c.self.invariant.ordered c.loop-name.name-index within in
    rw (c.deref-name-items.ensures.value, held_node t c.args.self.now (get_or t.order.items c.loop-name.name-index 0) after.node c.self.view_is c.self.invariant after.node_is) refl

pub push_reserved-requires : goal.push_reserved-requires
push_reserved-requires g c =
    let t = c.self.inside in
    let within : c.loop-name.name-index < length t.order.items = rw c.deref-name-items.ensures.value at c.loop-name-test.true in
    let states = length-states t c.args.self.now c.self.view_is c.self.invariant in
    let paths = length-map c.args.self.now.states (λ (s : Saved g.row.S.Denot). s.path) in
    let many = ap (λ (l : List Path). length l) c.loop-name.invariant.paths ∙ length-map (take c.loop-name.name-index (paths_of c.args.self.now)) (path_of c.args.self.now.base) in
    omega (arith, within, states, paths, many, c.loop-name.invariant.room, length-take c.loop-name.name-index (paths_of c.args.self.now))

pub loop-name-preserved : goal.loop-name-preserved
loop-name-preserved g c =
    let t = c.self.inside in
    let kept = c.args.self.now in
    let place = c.loop-name.name-index in
    let within : place < length t.order.items = rw c.deref-name-items.ensures.value at c.loop-name-test.true in
    let after = ordered_at t.nodes.slots [] t.order.items c.self.invariant.ordered place within in
    let seen = held_node t kept (get_or t.order.items place 0) after.node c.self.view_is c.self.invariant after.node_is in
    let rows : path_at t.base t.nodes.slots after.node ≡ c.path.result.rows.items =
    same_Some _ _ (sym (ap (option_map (λ (s : Saved g.row.S.Denot). s.path)) seen) ∙ (rw c.deref-name-items.ensures.value at c.path.ensures.rows)) in
    let here : get_or (paths_of kept) place [] ≡ c.path.result.rows.items =
    ap (λ (l : List Rows). get_or l place []) (paths_are t kept c.self.view_is) ∙ path_in t.base t.nodes.slots [] t.order.items c.self.invariant.ordered place after.node within after.node_is ∙ rows in
    let path : c.path.result ≡ path_of kept.base (get_or (paths_of kept) place []) = λ i. record { base = c.path.ensures.base i; rows = record { items = sym here i } } in
    let states = length-states t kept c.self.view_is c.self.invariant in
    let paths = length-map kept.states (λ (s : Saved g.row.S.Denot). s.path) in
    let pushed = c.push_reserved.ensures.items in
    record {
      paths =
          pushed
          ∙ ap (λ (l : List Path). l ++ c.path.result ∷ []) c.loop-name.invariant.paths
          ∙ ap (λ (p : Path). map (path_of kept.base) (take place (paths_of kept)) ++ p ∷ []) path
          ∙ sym (ap (map (path_of kept.base)) (take_more (paths_of kept) place [] (omega (arith, within, states, paths))) ∙ map-append (path_of kept.base) (take place (paths_of kept)) (get_or (paths_of kept) place [] ∷ []));
      room = omega (arith, c.loop-name.invariant.room, c.push_reserved.ensures.capacity);
    }

pub returns : goal.returns
returns g c =
    let t = c.self.inside in
    let kept = c.args.self.now in
    let over : length t.order.items ≤ c.loop-name.name-index = rw c.deref-name-items.ensures.value at c.loop-name-test.false in
    let states = length-states t kept c.self.view_is c.self.invariant in
    let paths = length-map kept.states (λ (s : Saved g.row.S.Denot). s.path) in
    let whole = c.loop-name.invariant.paths ∙ ap (map (path_of kept.base)) (take_all c.loop-name.name-index (paths_of kept) (omega (arith, over, states, paths))) in
    sorted_is kept.base (paths_of kept) c.sort_unstable.new.self.items (subst (λ (l : List Path). IsPermutation l c.sort_unstable.new.self.items) whole c.sort_unstable.ensures.permutation) c.sort_unstable.ensures.sorted
