use Rattle.std.proofs.Common.{◌≡◌, ◌++◌, ◌≤◌, ap, sym, map, min, take, drop, length, subst}
use Rattle.roll_frame.specs.Timeline.{front}
use Rattle.roll_inputs.specs.Boards.{Inputs, settled_to}
use Rattle.roll_inputs.proofs.Steps.{settle_keeps, settle_players, all_written}
use Rattle.roll_inputs.proofs.Changes.{seen}
use Rattle.roll_inputs.proofs.board.Board.settle.Goals as goal

written : (c : goal.After-self-2-1) → take c.self.inside.queues.len (c.settle_all.new.queues ++ drop (length c.settle_all.new.queues) c.self.inside.queues.items) ≡ map (settled_to c.args.to) c.self.inside.queues.items
written c = all_written (settled_to c.args.to) c.self.inside.queues.items c.settle_all.new.queues c.self.inside.queues.len (rw c.deref_mut.ensures.value at c.settle_all.ensures) (rw c.deref_mut.ensures.value at c.deref_mut.ensures.len)

pub invariant_of-self : goal.invariant_of-self
invariant_of-self c =
    let i = c.self.inside in
    let reached = subst (λ (k : Inputs). k.settled ≤ c.args.to) (sym c.self.view_is) c.requires.reached in
    let confirmed = subst (λ (k : Inputs). c.args.to ≤ min (front k.players) k.frame) (sym c.self.view_is) c.requires.confirmed in
    rw (written c) (settle_keeps i.queues.items i.frame i.settled i.threshold i.limit c.args.to c.self.invariant reached confirmed)

pub returns : goal.returns
returns c =
    let i = c.self.inside in
    rw (← c.self.view_is, written c) (ap (seen i.frame c.args.to i.threshold i.limit) (settle_players c.args.to i.queues.items))
