use Rattle.std.proofs.Common.{◌≡◌, ◌≤◌, ◌+◌, ◌++◌, ◌∷◌, [], List, arith, ap, sym, subst, ◌∙◌, map, take, drop, length, length-take, get_or, append_assoc, take-append-drop}
use Rattle.std.specs.Prelude.{All}
use Rattle.std.proofs.lemmas.List.{length-map, map-append, take_all, take_more}
use Rattle.roll_frame.specs.declared.limits.TheConstants.{PATH_LIMIT}
use Rattle.roll_frame.specs.declared.path.Path.{Path}
use Rattle.roll_frame.specs.Cells.{Rows}
use Rattle.roll_tree.specs.SavedStates.{path_of}
use Rattle.roll_plan.specs.Spelled.{path_in, spelled}
use Rattle.roll_plan.specs.declared.planner.Taken.{Taken}
use Rattle.roll_plan.proofs.Spelling.{length-spelled, rows_again, spelled-push, spelled_next}
use Rattle.roll_plan.proofs.planner.push_spelled.Goals as goal

pub spell-path-requires-clause-same : goal.spell-path-requires-clause-same
spell-path-requires-clause-same c =
    let way = c.args.way.now in
    let before = take c.loop-place.place c.args.taken.now in
    ap (λ (l : List Path). length l) (c.deref.ensures.value ∙ c.loop-place.invariant.paths) ∙ length-map (spelled way before) (path_of c.args.base) ∙ length-spelled way before

pub spell-path-requires-clause-short : goal.spell-path-requires-clause-short
spell-path-requires-clause-short c =
    let way = c.args.way.now in
    let taken = c.args.taken.now in
    let place = c.loop-place.place in
    let before = take place taken in
    let k = c.index-taken-place.result in
    let split : taken ≡ before ++ k ∷ drop (place + 1) taken =
    sym (take-append-drop (place + 1) taken) ∙ ap (λ (l : List Taken). l ++ drop (place + 1) taken) (take_more taken place k c.loop-place-test.true) ∙ append_assoc before (get_or taken place k ∷ []) (drop (place + 1) taken)
    ∙ ap (λ (x : Taken). before ++ x ∷ drop (place + 1) taken) (sym c.index-taken-place.is) in
    let paths : map (λ (p : Path). p.rows.items) c.deref.result.now ≡ spelled way before = ap (map (λ (p : Path). p.rows.items)) (c.deref.ensures.value ∙ c.loop-place.invariant.paths) ∙ rows_again c.args.base (spelled way before) in
    subst (λ (ps : List Rows). length (path_in way before ps k) ≤ PATH_LIMIT) (sym paths)
    (spelled_next way (λ (p : Rows). length p ≤ PATH_LIMIT) before (drop (place + 1) taken) k (subst (λ (l : List Taken). All (λ (p : Rows). length p ≤ PATH_LIMIT) (spelled way l)) split c.requires.short))

pub push_reserved-requires : goal.push_reserved-requires
push_reserved-requires c =
    let way = c.args.way.now in
    let before = take c.loop-place.place c.args.taken.now in
    let many = ap (λ (l : List Path). length l) c.loop-place.invariant.paths ∙ length-map (spelled way before) (path_of c.args.base) ∙ length-spelled way before in
    omega (arith, many, c.loop-place-test.true, c.loop-place.invariant.room, c.requires.room, length-take c.loop-place.place c.args.taken.now)

pub loop-place-preserved : goal.loop-place-preserved
loop-place-preserved c =
    let way = c.args.way.now in
    let taken = c.args.taken.now in
    let place = c.loop-place.place in
    let before = take place taken in
    let k = c.index-taken-place.result in
    let paths : map (λ (p : Path). p.rows.items) c.deref.result.now ≡ spelled way before = ap (map (λ (p : Path). p.rows.items)) (c.deref.ensures.value ∙ c.loop-place.invariant.paths) ∙ rows_again c.args.base (spelled way before) in
    let more : take (place + 1) taken ≡ before ++ k ∷ [] = take_more taken place k c.loop-place-test.true ∙ ap (λ (x : Taken). before ++ x ∷ []) (sym c.index-taken-place.is) in
    let pushed = c.push_reserved.ensures.items in
    record {
      paths =
          pushed
          ∙ ap (λ (l : List Path). l ++ c.spell-path.result ∷ []) c.loop-place.invariant.paths
          ∙ ap (λ (p : Path). map (path_of c.args.base) (spelled way before) ++ p ∷ []) (c.spell-path.ensures ∙ ap (λ (ps : List Rows). path_of c.args.base (path_in way before ps k)) paths)
          ∙ sym (ap (λ (l : List Taken). map (path_of c.args.base) (spelled way l)) more ∙ ap (map (path_of c.args.base)) (spelled-push way before k) ∙ map-append (path_of c.args.base) (spelled way before) (path_in way before (spelled way before) k ∷ []));
      room = omega (arith, c.loop-place.invariant.room, c.push_reserved.ensures.capacity);
    }

pub returns-clause-paths : goal.returns-clause-paths
returns-clause-paths c =
    c.loop-place.invariant.paths ∙ ap (λ (l : List Taken). map (path_of c.args.base) (spelled c.args.way.now l)) (take_all c.loop-place.place c.args.taken.now c.loop-place-test.false)
