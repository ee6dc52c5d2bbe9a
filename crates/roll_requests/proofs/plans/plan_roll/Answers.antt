use Rattle.std.proofs.Common.{◌≡◌, ◌∙◌, ℕ, List, ap, arith, subst, sym}
use Rattle.roll_session.specs.Saves.{Standing}
use Rattle.roll_tree.specs.SavedStates.{Saved, SavedStates}
use Rattle.roll_requests.specs.Slotted.{AreTaken}
use Rattle.roll_requests.proofs.plans.plan_roll.Goals as goal

pub find_room-requires-clause-taken : goal.find_room-requires-clause-taken
find_room-requires-clause-taken c =
    let states : c.saved.result.now.states ≡ c.args.core.now.saves.tree.states = ap (λ (t : SavedStates ℕ). t.states) c.saved.ensures ∙ ap (λ (s : Standing ℕ). s.tree.states) c.in_ok-way.ensures.looked.saves in
    subst (λ (l : List (Saved ℕ)). AreTaken l c.args.jobs.now c.args.taken.now) (sym states) c.requires.taken

pub find_room-requires-clause-few : goal.find_room-requires-clause-few
find_room-requires-clause-few c = let going = c.in_ok-way.ensures.way.going in omega (arith, going.near, going.deepest)
