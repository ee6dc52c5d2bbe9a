use Rattle.std.proofs.Common.{◌≡◌, ◌∙◌, ◌++◌, List, ap, sym, not, map, take, drop, length, subst, ◌≤◌, ◌+◌}
use Rattle.std.specs.Prelude.{◌&&◌}
use Rattle.std.specs.List.{list_any}
use Rattle.std.proofs.lemmas.Bool.{not-true}
use Rattle.roll_frame.specs.Timeline.{Player, timeline}
use Rattle.roll_frame.proofs.Timelines.{timeline_none_given}
use Rattle.roll_inputs.specs.Boards.{Inputs, players_of, started}
use Rattle.roll_inputs.specs.Queues.{Known}
use Rattle.roll_inputs.proofs.Steps.{start_keeps, start_players, list_any-map, all_written}
use Rattle.roll_inputs.proofs.Changes.{seen}
use Rattle.roll_inputs.proofs.board.Board.next.Goals as goal

begun : (c : goal.After-self-2-1) → take c.self.inside.queues.len (c.start_frames.new.queues ++ drop (length c.start_frames.new.queues) c.self.inside.queues.items) ≡ map started c.self.inside.queues.items
begun c = all_written started c.self.inside.queues.items c.start_frames.new.queues c.self.inside.queues.len (rw c.deref_mut.ensures.value at c.start_frames.ensures) (rw c.deref_mut.ensures.value at c.deref_mut.ensures.len)

pub invariant_of-self : goal.invariant_of-self
invariant_of-self c =
    let i = c.self.inside in
    let b : Inputs = c.args.self.now in
    let all = ap (λ (k : Inputs). list_any (λ (p : Player). p.local && not p.given) k.players) c.self.view_is ∙ not-true _ c.requires.given in
    let given = sym (list_any-map (λ (p : Player). p.local && not p.given) (λ (q : Known). q.player) i.queues.items) ∙ all in
    let near = subst (λ (k : Inputs). k.frame ≤ k.settled + k.threshold) (sym c.self.view_is) c.requires.near in
    rw (begun c) (start_keeps i.queues.items i.frame i.settled i.threshold i.limit c.self.invariant given near)

pub returns-clause-begun : goal.returns-clause-begun
returns-clause-begun c =
    let i = c.self.inside in
    rw (← c.self.view_is, begun c) (ap (seen (i.frame + 1) i.settled i.threshold i.limit) (start_players i.queues.items))

pub returns-clause-rows : goal.returns-clause-rows
returns-clause-rows c =
    let i = c.self.inside in
    rw (← c.self.view_is, begun c) (ap (λ (ps : List Player). timeline ps i.settled) (start_players i.queues.items) ∙ timeline_none_given (players_of i.queues.items) i.settled)
