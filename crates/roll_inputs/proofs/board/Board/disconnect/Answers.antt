use Rattle.std.proofs.Common.{◌∙◌, ap, sym, refl}
use Rattle.roll_frame.specs.Inputs.{with_gone}
use Rattle.roll_frame.specs.Timeline.{Player}
use Rattle.roll_inputs.specs.Boards.{Inputs, players_of}
use Rattle.roll_inputs.proofs.Changes.{MayLeave, may_leave, IsChange, change-old, change-step, change-board, change-players, change-cells, change-rows, leave_step, seen}
use Rattle.roll_inputs.proofs.Players.{leaves_keeps}
use Rattle.roll_inputs.proofs.board.Board.disconnect.Goals as goal

may : (c : goal.After-self-1) → MayLeave (players_of c.self.inside.queues.items) c.args.player
may c = rw (ap (λ (b : Inputs). b.players) c.self.view_is) (may_leave c.args.self.now.players c.args.player (sym c.in_default.ensures))

leaves : (c : goal.After-self-1) → IsChange with_gone c.self.inside.queues.items c.args.player c.from.result (may c).player c.index_mut.result.now c.leave.new.self
leaves c = record { at = (may c).at; place = c.from.ensures; old_is = c.index_mut.ensures.value; new_is = c.leave.ensures }

pub invariant_of-self : goal.invariant_of-self
invariant_of-self c =
    let i = c.self.inside in
    let remote = ap (λ (x : Player). x.local) (change-old _ _ _ _ _ _ _ (leaves c)) ∙ (may c).remote in
    let step = change-step _ _ _ _ _ _ _ (leaves c) i.settled i.frame i.threshold i.limit c.self.invariant in
    change-board _ _ _ _ _ _ _ (leaves c) i.frame i.settled i.threshold i.limit c.self.invariant refl (leave_step i.settled i.frame i.limit c.index_mut.result.now step remote)

pub returns-clause-gone : goal.returns-clause-gone
returns-clause-gone c = let i = c.self.inside in rw (← c.self.view_is) (ap (seen i.frame i.settled i.threshold i.limit) (change-players _ _ _ _ _ _ _ (leaves c)))

pub returns-clause-cells : goal.returns-clause-cells
returns-clause-cells c = rw (← c.self.view_is) (change-cells _ _ _ _ _ _ _ (leaves c) leaves_keeps)

pub returns-clause-rows : goal.returns-clause-rows
returns-clause-rows c =
    let i = c.self.inside in
    let step = change-step _ _ _ _ _ _ _ (leaves c) i.settled i.frame i.threshold i.limit c.self.invariant in
    let there = ap (λ (x : Player). x.gone) (change-old _ _ _ _ _ _ _ (leaves c)) ∙ (may c).there in
    rw (← c.self.view_is) (change-rows _ _ _ _ _ _ _ (leaves c) i.settled leaves_keeps (step.ahead there))
