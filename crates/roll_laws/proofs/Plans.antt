-- A roll is a plan, of its cost.
use Rattle.std.proofs.Common.{◌++◌, ap, sym, ◌∙◌, arith}
use Rattle.std.specs.Prelude.{drop}
use Rattle.std.proofs.lemmas.List.{take-append-drop, length-drop}
use Rattle.roll_frame.specs.Cells.{Rows}
use Rattle.roll_frame.specs.Core.{Core, depth}
use Rattle.roll_frame.specs.Events.{played}
use Rattle.roll_frame.specs.Timeline.{timeline}
use Rattle.roll_frame.proofs.Timelines.{length_timeline}
use Rattle.roll_laws.specs.Laws.{RollIsPlan}
use Rattle.roll_laws.proofs.Saved.{in_has, take_timeline}
use Rattle.roll_laws.proofs.Fronts.{depth_is}
use Rattle.roll_laws.proofs.Sound.{sound_played}

pub roll_is_plan : RollIsPlan
roll_is_plan settings game events h m =
    let core : Core = played settings game events in
    let d = depth_is core m (sound_played settings game events h).root in
    let rows : Rows = timeline core.players m in (
      record {
        saved = in_has core.ever (timeline core.players (depth core m)) d.1;
        leads = ap (λ (p : Rows). p ++ drop (depth core m) rows) (sym (take_timeline core.players (depth core m) m d.0)) ∙ take-append-drop (depth core m) rows;
      },
      omega (arith, length-drop (depth core m) rows, length_timeline core.players m),
    )
