use Rattle.std.proofs.Common.{◌≡◌, ℕ, subst, ◌+◌, ◌-◌, Some, refl, ap, ◌∙◌, arith}
use Rattle.std.specs.Prelude.{option_map, slice_get}
use Rattle.std.proofs.lemmas.Bool.{false≢true}
use Rattle.roll_frame.specs.Cells.{Rows}
use Rattle.roll_tree.specs.SavedStates.{Saved}
use Rattle.roll_tree.specs.Marks.{AreMarks}
use Rattle.roll_tree.specs.Layout.{saved_of}
use Rattle.roll_tree.specs.declared.node.Edge.{Edge}
use Rattle.roll_tree.specs.declared.node.Node.{Node}
use Rattle.roll_tree.specs.declared.tree.Tree.TheInside.{Inside}
use Rattle.roll_tree.proofs.States.{node_of_held, held_at, held_node, length-states}
use Rattle.roll_tree.proofs.Grown.{IsGrown, fits_below, grown_tree, grown_view}
use Rattle.roll_tree.proofs.tree.Tree.insert.Goals as goal

pub index-requires : goal.index-requires
index-requires g c = rw (node_of_held c.self.inside c.args.self.now c.args.parent c.self.view_is c.self.invariant c.requires.kept).1 refl

pub overflow_add-end : goal.overflow_add-end
overflow_add-end g c =
    let fits = fits_below c.self.inside c.args.self.now c.args.parent c.args.row c.index.result.now c.self.view_is c.self.invariant c.requires c.index.ensures in
    omega (arith, fits.frame)

pub invariant_of-self : goal.invariant_of-self
invariant_of-self g c =
    let parent = c.index.result.now in
    let fits = fits_below c.self.inside c.args.self.now c.args.parent c.args.row parent c.self.view_is c.self.invariant c.requires c.index.ensures in
    let edge : Edge = record { parent = c.args.parent; row = c.args.row; marks = c.marks_in-marks.result } in
    let child : Node g.row.S.Denot = record { edge = Some edge; end = parent.end + 1; snapshot = c.args.snapshot } in
    let after : Inside g.row.S.Denot = record { base = c.self.inside.base; root = c.self.inside.root; nodes = c.insert_reserved-name.new.self; order = c.push_reserved.new.self; time = c.self.inside.time; tip = c.max-self-inside.result } in
    let grown : IsGrown c.self.inside.base c.self.inside.nodes.slots after.nodes.slots c.insert_reserved-name.result child parent edge = record {
      vacant = c.insert_reserved-name.ensures.was_vacant;
      edge_is = refl;
      above = c.index.ensures;
      next = refl;
      short = fits.short;
      changed = c.insert_reserved-name.ensures.updates.changed;
      others = c.insert_reserved-name.ensures.updates.others;
    } in
    let order = c.push_reserved.ensures.items in
    let place : parent.end - c.self.inside.base ≡ parent.end + 1 - c.self.inside.base - 1 = omega arith in
    let time = c.deref.ensures.0 in
    let marks : AreMarks (slice_get c.self.inside.time.items (parent.end + 1 - c.self.inside.base - 1)) c.args.row c.marks_in-marks.result =
    subst (λ (n : ℕ). AreMarks (slice_get c.self.inside.time.items n) c.args.row c.marks_in-marks.result) place
    (subst (λ (r : Rows). AreMarks (slice_get r (parent.end - c.self.inside.base)) c.args.row c.marks_in-marks.result) time c.marks_in-marks.ensures) in
    grown_tree c.self.inside after c.insert_reserved-name.result child parent edge refl refl order refl marks c.self.invariant grown fits c.insert_reserved-name.ensures.len
    (omega (arith, c.insert_reserved-name.ensures.len, c.self.invariant.counted, c.self.invariant.few, c.if-len-eq-TREE_LIMIT.false))
    (omega (arith, c.insert_reserved-name.ensures.capacity, c.self.invariant.room))
    (omega (arith, c.push_reserved.ensures.capacity, c.self.invariant.space))
    (omega (arith, c.max-self-inside.ensures)) (omega (arith, c.max-self-inside.ensures))

pub returns-clause-added : goal.returns-clause-added
returns-clause-added g c =
    let parent = c.index.result.now in
    let fits = fits_below c.self.inside c.args.self.now c.args.parent c.args.row parent c.self.view_is c.self.invariant c.requires c.index.ensures in
    let edge : Edge = record { parent = c.args.parent; row = c.args.row; marks = c.marks_in-marks.result } in
    let child : Node g.row.S.Denot = record { edge = Some edge; end = parent.end + 1; snapshot = c.args.snapshot } in
    let after : Inside g.row.S.Denot = record { base = c.self.inside.base; root = c.self.inside.root; nodes = c.insert_reserved-name.new.self; order = c.push_reserved.new.self; time = c.self.inside.time; tip = c.max-self-inside.result } in
    let grown : IsGrown c.self.inside.base c.self.inside.nodes.slots after.nodes.slots c.insert_reserved-name.result child parent edge = record {
      vacant = c.insert_reserved-name.ensures.was_vacant;
      edge_is = refl;
      above = c.index.ensures;
      next = refl;
      short = fits.short;
      changed = c.insert_reserved-name.ensures.updates.changed;
      others = c.insert_reserved-name.ensures.updates.others;
    } in
    let order = c.push_reserved.ensures.items in
    let s : Saved g.row.S.Denot = saved_of c.self.inside.base c.self.inside.nodes.slots c.args.parent parent in
    let seen = held_node c.self.inside c.args.self.now c.args.parent parent c.self.view_is c.self.invariant c.index.ensures in
    rw seen (grown_view c.self.inside after c.args.self.now c.insert_reserved-name.result child parent edge s refl refl order refl c.self.view_is c.self.invariant grown seen)

pub returns-clause-vacant : goal.returns-clause-vacant
returns-clause-vacant g c =
    held_at c.self.inside c.args.self.now c.insert_reserved-name.result c.self.view_is c.self.invariant
    ∙ ap (option_map (saved_of c.self.inside.base c.self.inside.nodes.slots c.insert_reserved-name.result)) c.insert_reserved-name.ensures.was_vacant

pub returns-clause-full : goal.returns-clause-full
returns-clause-full g c = (λ h. absurd (false≢true h), λ h. absurd (c.if-len-eq-TREE_LIMIT.false (omega (arith, length-states c.self.inside c.args.self.now c.self.view_is c.self.invariant, c.self.invariant.counted, h))))

pub returns-then-len-eq-TREE_LIMIT-clause-full : goal.returns-then-len-eq-TREE_LIMIT-clause-full
returns-then-len-eq-TREE_LIMIT-clause-full g c = (λ h. omega (arith, length-states c.self.inside c.args.self.now c.self.view_is c.self.invariant), λ h. refl)
