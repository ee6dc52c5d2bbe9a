use Rattle.std.proofs.Common.{◌++◌, List, arith, ap, sym, subst, ◌∙◌, map, length}
use Rattle.std.specs.List.Sorted.{IsPermutation}
use Rattle.std.proofs.lemmas.List.{length-map, map-append}
use Rattle.roll_frame.specs.declared.path.Path.{Path}
use Rattle.roll_tree.specs.SavedStates.{path_of}
use Rattle.roll_tree.proofs.Sorting.{sorted_is}
use Rattle.roll_plan.specs.Spelled.{all_paths, beginnings, spelled}
use Rattle.roll_plan.proofs.Spelling.{length-spelled}
use Rattle.roll_plan.proofs.planner.paths_of.Goals as goal

pub push_beginnings-requires-clause-room : goal.push_beginnings-requires-clause-room
push_beginnings-requires-clause-room c =
    let made = spelled c.args.way.now c.args.taken.now in
    let many = ap (λ (l : List Path). length l) c.push_spelled.ensures.paths ∙ length-map made (path_of c.args.base) ∙ length-spelled c.args.way.now c.args.taken.now in
    omega (arith, many, c.push_spelled.ensures.room, c.in_ok-paths.ensures.capacity)

pub returns : goal.returns
returns c =
    let f = path_of c.args.base in
    let made = spelled c.args.way.now c.args.taken.now in
    let rest = beginnings c.args.way.now c.args.on_way in
    let all = c.push_beginnings.ensures ∙ ap (λ (l : List Path). l ++ map f rest) c.push_spelled.ensures.paths ∙ sym (map-append f made rest) in
    sorted_is c.args.base (all_paths c.args.way.now c.args.on_way c.args.taken.now) c.sort_unstable.new.self.items (subst (λ (l : List Path). IsPermutation l c.sort_unstable.new.self.items) all c.sort_unstable.ensures.permutation) c.sort_unstable.ensures.sorted
