use Rattle.std.proofs.Common.{rules, ◌≡◌, ◌∙◌, ◌-◌, ◌<◌, ◌∷◌, [], Bool, true, false, None, length, ap, sym, refl, subst}
use Rattle.std.specs.Prelude.{if◌then◌else◌}
use denote.Enum.Bare.{same_true}
use Rattle.roll_frame.specs.declared.limits.TheConstants.{QUEUE_LIMIT}
use Rattle.roll_frame.specs.Inputs.{is_repeated, with_words}
use Rattle.roll_frame.specs.Timeline.{Player}
use Rattle.roll_inputs.specs.contracts.heard.Heard.{the_type}
use Rattle.roll_inputs.specs.declared.heard.Heard.TheVariants.{Repeated, Taken}
use Rattle.roll_inputs.specs.Boards.{Inputs, IsInStep, players_of, remote_refusal}
use Rattle.roll_inputs.proofs.Changes.{MayTell, may_tell, IsChange, change-old, change-step, change-board, change-players, change-cells, change-rows, hear_step, seen}
use Rattle.roll_inputs.proofs.Players.{hears_keeps}
use Rattle.roll_inputs.proofs.board.Board.remote.Goals as goal

-- a word that is taken was not taken before
not_repeated : (b : Bool) → Taken ≡ (if b then Repeated else Taken) → b ≡ false
not_repeated true e = cc
not_repeated false e = refl

taken : (c : goal.After-self-1) → c.in_ok-heard.heard ≡ Taken
taken c = same_true the_type (search rules) _ _ (sym c.if-eq.ensures)

may : (c : goal.After-self-1) → MayTell (players_of c.self.inside.queues.items) c.self.inside.settled c.args.player c.args.frame
may c =
    let b : Inputs = c.args.self.now in
    let none : remote_refusal b c.args.player c.args.frame ≡ None = c.in_ok-heard.ensures.accepted (taken c) in
    let m : MayTell b.players b.settled c.args.player c.args.frame = may_tell b.players b.settled c.args.player c.args.frame none in
    subst (λ (k : Inputs). MayTell k.players k.settled c.args.player c.args.frame) (sym c.self.view_is) m

hears : (c : goal.After-self-1) → IsChange (with_words (c.args.word ∷ [])) c.self.inside.queues.items c.args.player c.from.result (may c).player c.index_mut.result.now c.hear.new.self
hears c = record { at = (may c).at; place = c.from.ensures; old_is = c.index_mut.ensures.value; new_is = c.hear.ensures }

pub invariant_of-self : goal.invariant_of-self
invariant_of-self c =
    let i = c.self.inside in
    let q = c.index_mut.result.now in
    let step : IsInStep i.settled i.frame i.limit q = change-step _ _ _ _ _ _ _ (hears c) i.settled i.frame i.threshold i.limit c.self.invariant in
    let is = change-old _ _ _ _ _ _ _ (hears c) in
    let remote = ap (λ (x : Player). x.local) is ∙ (may c).remote in
    let room = subst (λ (x : Player). length x.words - i.settled < QUEUE_LIMIT) (sym is) (may c).room in
    change-board _ _ _ _ _ _ _ (hears c) i.frame i.settled i.threshold i.limit c.self.invariant refl (hear_step i.settled i.frame i.limit c.args.word q step room remote)

pub returns-then-eq-clause-words : goal.returns-then-eq-clause-words
returns-then-eq-clause-words c =
    let i = c.self.inside in
    let new = not_repeated (is_repeated c.args.self.now.players c.args.player c.args.frame c.args.word) (sym (taken c) ∙ c.in_ok-heard.ensures.heard) in
    rw new (rw (← c.self.view_is) (ap (seen i.frame i.settled i.threshold i.limit) (change-players _ _ _ _ _ _ _ (hears c))))

pub returns-then-eq-clause-cells : goal.returns-then-eq-clause-cells
returns-then-eq-clause-cells c = rw (← c.self.view_is) (change-cells _ _ _ _ _ _ _ (hears c) (hears_keeps c.args.word))

pub returns-then-eq-clause-rows : goal.returns-then-eq-clause-rows
returns-then-eq-clause-rows c =
    let i = c.self.inside in
    let step = change-step _ _ _ _ _ _ _ (hears c) i.settled i.frame i.threshold i.limit c.self.invariant in
    let there = ap (λ (x : Player). x.gone) (change-old _ _ _ _ _ _ _ (hears c)) ∙ (may c).there in
    rw (← c.self.view_is) (change-rows _ _ _ _ _ _ _ (hears c) i.settled (hears_keeps c.args.word) (step.ahead there))
