use Rattle.std.proofs.Common.{◌≡◌, ◌∙◌, ◌++◌, ◌∷◌, [], List, Option, Some, None, ap, sym, arith, ℕ, get_or, length, append-nil, length-append}
use Rattle.std.specs.Prelude.{◌+◌, take}
use Rattle.std.proofs.lemmas.List.{get_or_default}
use Rattle.std.specs.List.{cons_option}
use Rattle.roll_frame.specs.declared.claim.Differ.{Differ}
use Rattle.roll_tree.specs.SavedStates.{path_of}
use Rattle.roll_plan.specs.Ranks.{entries_by, entry_by_marks, path_named}
use Rattle.roll_plan.proofs.Entries.{with_entry}
use Rattle.roll_plan.proofs.planner.name_differs.Goals as goal
use Rattle.roll_plan.proofs.planner.name_differs.Goals.{in-Some, in_default}

pub loop-place-preserved : goal.loop-place-preserved
loop-place-preserved g c =
    let t = c.args.tree.now in
    let entry : ℕ → ℕ → Option Differ = λ state name. entry_by_marks t state (path_of t.base (path_named t name)) in
    let old = c.loop-place.differs.items in
    let name = get_or c.args.passed.now c.loop-place.place 0 in
    let more : (o : Option Differ) → o ≡ entry (c.args.first + c.loop-place.place) name → old ++ cons_option o [] ≡ entries_by entry c.args.first (take (c.loop-place.place + 1) c.args.passed.now) =
    λ o h. ap (λ (d : Option Differ). old ++ cons_option d []) h ∙ with_entry entry c.args.first c.args.passed.now c.loop-place.place name old c.loop-place-test.true (get_or_default c.args.passed.now c.loop-place.place 0 name c.loop-place-test.true) c.loop-place.invariant.entries in
    elim c.match-entry.branch [
      | in-Some w ↦
          let pushed = w.push_reserved.ensures.items in
          let longer = ap (λ (l : List Differ). length l) pushed in
          rw w.differs-is (record {
            entries = pushed ∙ more (Some w.in-Some.entry) (sym w.in-Some.is ∙ c.entry.ensures);
            few = omega (arith, longer, length-append old (w.in-Some.entry ∷ []), c.loop-place.invariant.few);
            room = omega (arith, w.push_reserved.ensures.capacity, c.loop-place.invariant.room);
          })
      | in_default w ↦
          rw w.differs-is (record {
            entries = sym (append-nil old) ∙ more None (sym w.in_default.is ∙ c.entry.ensures);
            few = omega (arith, c.loop-place.invariant.few);
            room = c.loop-place.invariant.room;
          })
    ]
