use Rattle.std.proofs.Common.{◌≢◌, ◌∙◌, ◌+◌, ◌≤◌, length, ap, sym, refl, subst, arith}
use Rattle.roll_frame.specs.Inputs.{with_given}
use Rattle.roll_frame.specs.Timeline.{Player}
use Rattle.roll_inputs.specs.Boards.{Inputs, IsInStep, players_of}
use Rattle.roll_inputs.proofs.Changes.{MayGive, may_give, IsChange, change-old, change-step, change-board, change-players, change-cells, change-rows, own_few, CanTake, can_take, give_step, seen}
use Rattle.roll_inputs.proofs.Players.{gives_keeps}
use Rattle.roll_inputs.proofs.board.Board.local.Goals as goal

before : (c : goal.After-index_mut) → CanTake c.index_mut.result.now
before c =
    let i = c.self.inside in
    let b : Inputs = c.args.self.now in
    let q = c.index_mut.result.now in
    let m : MayGive b.players b.frame b.threshold b.limit c.args.player = may_give b.players b.frame b.threshold b.limit c.args.player (sym c.in_default.ensures) in
    let may : MayGive (players_of i.queues.items) i.frame i.threshold i.limit c.args.player = subst (λ (k : Inputs). MayGive k.players k.frame k.threshold k.limit c.args.player) (sym c.self.view_is) m in
    let gives : IsChange (with_given c.args.word) i.queues.items c.args.player c.from.result may.player q (record { player = with_given c.args.word q.player; from = q.from }) =
    record { at = may.at; place = c.from.ensures; old_is = c.index_mut.ensures.value; new_is = refl } in
    let step : IsInStep i.settled i.frame i.limit q = change-step _ _ _ _ _ _ _ gives i.settled i.frame i.threshold i.limit c.self.invariant in
    let is = change-old _ _ _ _ _ _ _ gives in
    let local = ap (λ (x : Player). x.local) is ∙ may.local in
    let new = ap (λ (x : Player). x.given) is ∙ may.new in
    let few : length q.player.words ≤ i.settled + 24 = own_few i.settled i.frame i.threshold i.limit i.queues.items q c.self.invariant step local new in
    can_take i.settled i.frame i.threshold i.limit i.queues.items q c.self.invariant step (step.stays local) (omega (arith, few))

pub give-requires-clause-ahead : goal.give-requires-clause-ahead
give-requires-clause-ahead c = (before c).ahead

pub give-requires-clause-room : goal.give-requires-clause-room
give-requires-clause-room c = (before c).room

pub give-requires-clause-fits : goal.give-requires-clause-fits
give-requires-clause-fits c = (before c).fits

may : (c : goal.After-self-1) → MayGive (players_of c.self.inside.queues.items) c.self.inside.frame c.self.inside.threshold c.self.inside.limit c.args.player
may c =
    let b : Inputs = c.args.self.now in
    let m : MayGive b.players b.frame b.threshold b.limit c.args.player = may_give b.players b.frame b.threshold b.limit c.args.player (sym c.in_default.ensures) in
    subst (λ (k : Inputs). MayGive k.players k.frame k.threshold k.limit c.args.player) (sym c.self.view_is) m

gives : (c : goal.After-self-1) → IsChange (with_given c.args.word) c.self.inside.queues.items c.args.player c.from.result (may c).player c.index_mut.result.now c.give.new.self
gives c = record { at = (may c).at; place = c.from.ensures; old_is = c.index_mut.ensures.value; new_is = c.give.ensures }

pub invariant_of-self : goal.invariant_of-self
invariant_of-self c =
    let i = c.self.inside in
    let q = c.index_mut.result.now in
    let step : IsInStep i.settled i.frame i.limit q = change-step _ _ _ _ _ _ _ (gives c) i.settled i.frame i.threshold i.limit c.self.invariant in
    let is = change-old _ _ _ _ _ _ _ (gives c) in
    let local = ap (λ (x : Player). x.local) is ∙ (may c).local in
    let new = ap (λ (x : Player). x.given) is ∙ (may c).new in
    let few : length q.player.words ≤ i.settled + 24 = own_few i.settled i.frame i.threshold i.limit i.queues.items q c.self.invariant step local new in
    let early : i.frame ≢ i.limit = (may c).early in
    change-board _ _ _ _ _ _ _ (gives c) i.frame i.settled i.threshold i.limit c.self.invariant refl
    (give_step i.settled i.frame i.limit c.args.word q step few local new (omega (arith, c.self.invariant.within, early)))

pub returns-clause-given : goal.returns-clause-given
returns-clause-given c = let i = c.self.inside in rw (← c.self.view_is) (ap (seen i.frame i.settled i.threshold i.limit) (change-players _ _ _ _ _ _ _ (gives c)))

pub returns-clause-cells : goal.returns-clause-cells
returns-clause-cells c = rw (← c.self.view_is) (change-cells _ _ _ _ _ _ _ (gives c) (gives_keeps c.args.word))

pub returns-clause-rows : goal.returns-clause-rows
returns-clause-rows c =
    let i = c.self.inside in
    let step = change-step _ _ _ _ _ _ _ (gives c) i.settled i.frame i.threshold i.limit c.self.invariant in
    let local = ap (λ (x : Player). x.local) (change-old _ _ _ _ _ _ _ (gives c)) ∙ (may c).local in
    rw (← c.self.view_is) (change-rows _ _ _ _ _ _ _ (gives c) i.settled (gives_keeps c.args.word) (step.ahead (step.stays local)))
