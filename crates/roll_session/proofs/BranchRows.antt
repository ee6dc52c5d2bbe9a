-- The rows of a branch that is grafted, from frame 0 on.
use Rattle.std.proofs.Common.{◌≡◌, ℕ, ◌+◌, ◌-◌, ◌≤◌, List, ◌++◌, [], length, take, ap, sym, ◌∙◌, arith, append_assoc, None}
use Rattle.std.proofs.Math.Seq.{take-append-add}
use Rattle.std.proofs.lemmas.List.{length-append}
use Rattle.roll_frame.specs.declared.entry.Entry.{Entry}
use Rattle.roll_frame.specs.declared.route.Route.{Route}
use Rattle.roll_frame.specs.declared.settings.Settings.{Settings}
use Rattle.roll_frame.specs.Cells.{Rows}
use Rattle.roll_frame.specs.Core.{Core, settled}
use Rattle.roll_frame.specs.Events.{replay}
use Rattle.roll_frame.specs.Paths.{run}
use Rattle.roll_frame.specs.Timeline.{Player, timeline}
use Rattle.roll_frame.proofs.Timelines.{length_timeline}
use Rattle.roll_inputs.specs.Boards.{Inputs}
use Rattle.roll_plan.specs.Plans.{Planned}
use Rattle.roll_session.specs.Changes.{graft_refusal}
use Rattle.roll_session.specs.Gameless.{bare_branch, seen_bare, still, IsBare, KeepsBranch, KeepsGrafted}
use Rattle.roll_session.specs.Grafting.{ahead_of, kept_to, start_of}
use Rattle.roll_session.specs.Held.{inputs_of}
use Rattle.roll_session.specs.Saves.{Standing}
use Rattle.roll_session.specs.Standing.{settled_rows}
use Rattle.roll_session.proofs.Grafting.{can_graft, CanGraft}
use Rattle.roll_session.proofs.NewStates.{rest_fits}

module _ {N : Type 0} (settings : Settings) (core : Core) (saves : Standing N) (inputs : saves.inputs ≡ inputs_of settings core) (route : Route) (g : CanGraft still [] core saves route []) where
  -- the rows up to a frame of the branch, seen from its path's base on and from the settled frame on
  rows_same : (frame : ℕ) → kept_to saves route ≤ frame
      → timeline saves.inputs.players route.path.base ++ (route.path.rows.items ++ take (frame - start_of route + 1) route.rows.items)
      ≡ timeline saves.inputs.players saves.inputs.settled ++ take (frame + 1 - saves.inputs.settled) (ahead_of saves.inputs route)
  rows_same frame low =
      let base : Rows = timeline core.players route.path.base in
      let path : Rows = route.path.rows.items in
      let rows : Rows = route.rows.items in
      let k : ℕ = frame - start_of route + 1 in
      let T : Rows = settled_rows core in
      let R : Rows = ahead_of saves.inputs route in
      let players : saves.inputs.players ≡ core.players = ap (λ (i : Inputs). i.players) inputs in
      let far : saves.inputs.settled ≡ settled core = ap (λ (i : Inputs). i.settled) inputs in
      let start : length (base ++ path) ≡ start_of route = omega (arith, length-append base path, length_timeline core.players route.path.base) in
      let left : length (base ++ path) + k ≡ frame + 1 = omega (arith, start, g.low, low) in
      let right : frame + 1 ≡ length T + (frame + 1 - saves.inputs.settled) = omega (arith, length_timeline core.players (settled core), far, low) in
      ap (λ (ps : List Player). timeline ps route.path.base ++ (path ++ take k rows)) players
      ∙ sym (append_assoc base path (take k rows))
      ∙ sym (take-append-add (base ++ path) rows k)
      ∙ ap (λ n. take n ((base ++ path) ++ rows)) left
      ∙ ap (take (frame + 1)) g.whole
      ∙ ap (λ n. take n (T ++ R)) right
      ∙ take-append-add T R (frame + 1 - saves.inputs.settled)
      ∙ ap (λ (ps : List Player). timeline ps (settled core) ++ take (frame + 1 - saves.inputs.settled) R) (sym players)
      ∙ ap (λ n. timeline saves.inputs.players n ++ take (frame + 1 - saves.inputs.settled) R) (sym far)

  keeps_rows : (new : Standing N) (states : List N) → length states ≡ length route.rows.items → KeepsGrafted saves new route states → KeepsBranch saves new route states
  keeps_rows new states many keeps = λ value step opening h made.
      keeps value step opening h
      (λ frame d low high.
      made (frame - start_of route) d (omega (arith, many, g.low, low, high, rest_fits saves route))
      ∙ ap (run step opening) (rows_same frame low))

-- what a graft keeps is kept where each state of the branch is what the rows up to it lead to
pub keeps_branch : {N : Type 0} (settings : Settings) (log : List Entry) (saves : Standing N) (planner : Planned) (reserved : ℕ) (route : Route) (new : Standing N) (states : List N) → IsBare settings log saves planner → graft_refusal still (seen_bare settings log reserved) (bare_branch 0 route) ≡ None → length states ≡ length route.rows.items
    → KeepsGrafted saves new route states → KeepsBranch saves new route states
keeps_branch settings log saves planner reserved route new states bare fine many keeps =
    keeps_rows settings (replay settings log) saves bare.kept.inputs route (can_graft bare (bare_branch 0 route) fine) new states many keeps
