use Rattle.std.proofs.Common.{◌+◌, ◌++◌, ◌∷◌, [], List, arith, ap, sym, ◌∙◌, map, take, length, length-append, append_assoc}
use Rattle.std.proofs.lemmas.List.{length-map, map-append}
use Rattle.roll_frame.specs.declared.path.Path.{Path}
use Rattle.roll_frame.specs.Cells.{Rows}
use Rattle.roll_tree.specs.SavedStates.{path_of}
use Rattle.roll_plan.specs.Spelled.{beginnings}
use Rattle.roll_plan.proofs.Beginnings.{beginnings_more, length-beginnings}
use Rattle.roll_plan.proofs.planner.push_beginnings.Goals as goal

pub push_reserved-requires : goal.push_reserved-requires
push_reserved-requires c =
    let paths = c.args.paths.now.items in
    let made = beginnings c.args.way.now c.loop-length.length in
    let many = ap (λ (l : List Path). length l) c.loop-length.invariant.paths ∙ length-append paths (map (path_of c.args.base) made) in
    omega (arith, many, length-map made (path_of c.args.base), length-beginnings c.args.way.now c.loop-length.length, c.loop-length-test.true, c.requires.room, c.loop-length.invariant.room)

pub loop-length-preserved : goal.loop-length-preserved
loop-length-preserved c =
    let way = c.args.way.now in
    let n = c.loop-length.length in
    let f = path_of c.args.base in
    record {
      paths =
          c.push_reserved.ensures.items
          ∙ ap (λ (l : List Path). l ++ f c.copied_rows-rows.result.items ∷ []) c.loop-length.invariant.paths
          ∙ append_assoc c.args.paths.now.items (map f (beginnings way n)) (f c.copied_rows-rows.result.items ∷ [])
          ∙ ap (λ (p : Rows). c.args.paths.now.items ++ (map f (beginnings way n) ++ f p ∷ [])) c.copied_rows-rows.ensures
          ∙ sym (ap (λ (l : List Rows). c.args.paths.now.items ++ map f l) (beginnings_more way n) ∙ ap (λ (l : List Path). c.args.paths.now.items ++ l) (map-append f (beginnings way n) (take n way ∷ [])));
      room = c.push_reserved.ensures.capacity ∙ c.loop-length.invariant.room;
    }
