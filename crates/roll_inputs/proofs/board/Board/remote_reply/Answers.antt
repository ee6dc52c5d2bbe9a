use Rattle.std.proofs.Common.{◌≡◌, ◌∙◌, ◌∷◌, [], ℕ, Bool, Option, Some, None, false, ap, sym, subst}
use Rattle.std.specs.Prelude.{IfOk, IfErr, OnErr, if◌then◌else◌}
use Rattle.roll_frame.specs.Inputs.{player_at, is_repeated, remote_tests}
use Rattle.roll_frame.specs.Refusals.{first_refusal}
use Rattle.roll_frame.specs.declared.refusal.Refusal.{Refusal}
use Rattle.roll_inputs.specs.declared.heard.Heard.TheVariants.{Repeated, Taken}
use Rattle.roll_inputs.specs.Boards.{Inputs, IsInStep, remote_refusal}
use Rattle.roll_inputs.proofs.Replies.{IsFound, queue_found, found_step, alone_refused, alone_repeated, has_past}
use Rattle.roll_inputs.proofs.board.Board.remote_reply.Goals as goal

-- the queue that was found, before its reply and after it
found : (c : goal.After-from) → IsFound c.self.inside.queues.items c.args.player c.in-Some.queue.now
found c = queue_found c.self.inside.queues.items c.args.player c.in-Some.queue.now (rw c.deref.ensures.value at c.in-Some.ensures)

step : (c : goal.After-from) → IsInStep c.self.inside.settled c.self.inside.frame c.self.inside.limit c.in-Some.queue.now
step c = let i = c.self.inside in found_step i.queues.items c.args.player i.frame i.settled i.threshold i.limit c.in-Some.queue.now c.self.invariant (found c)

pub reply-requires-clause-past : goal.reply-requires-clause-past
reply-requires-clause-past c =
    let at = ap (λ (b : Inputs). player_at b.players c.args.player) (sym c.self.view_is) ∙ (found c).player in
    let past = has_past c.args.self.now.players c.args.past.now.rows c.args.player c.args.self.now.settled c.in-Some.queue.now c.requires.past at ((step c).from ∙ ap (λ (b : Inputs). b.settled) c.self.view_is) in
    rw c.from.ensures past

pub reply-requires-clause-ahead : goal.reply-requires-clause-ahead
reply-requires-clause-ahead c = λ there. rw (step c).from ((step c).ahead there)

at : (c : goal.After-reply) → player_at c.args.self.now.players c.args.player ≡ Some c.in-Some.queue.now.player
at c =
    let found = queue_found c.self.inside.queues.items c.args.player c.in-Some.queue.now (rw c.deref.ensures.value at c.in-Some.ensures) in
    ap (λ (b : Inputs). player_at b.players c.args.player) (sym c.self.view_is) ∙ found.player

repeated : (c : goal.After-reply) → is_repeated (c.in-Some.queue.now.player ∷ []) 1 c.args.frame c.args.word ≡ is_repeated c.args.self.now.players c.args.player c.args.frame c.args.word
repeated c = alone_repeated c.args.self.now.players c.args.player c.args.frame c.args.word c.in-Some.queue.now.player (at c)

refused : (c : goal.After-reply) → first_refusal (remote_tests (c.in-Some.queue.now.player ∷ []) c.in-Some.queue.now.from 1 c.args.frame) ≡ remote_refusal c.args.self.now c.args.player c.args.frame
refused c =
    let i = c.self.inside in
    let found = queue_found i.queues.items c.args.player c.in-Some.queue.now (rw c.deref.ensures.value at c.in-Some.ensures) in
    let from = (found_step i.queues.items c.args.player i.frame i.settled i.threshold i.limit c.in-Some.queue.now c.self.invariant found).from ∙ ap (λ (b : Inputs). b.settled) c.self.view_is in
    alone_refused c.args.self.now.players c.args.player c.in-Some.queue.now.from c.args.frame c.in-Some.queue.now.player (at c)
    ∙ ap (λ (base : ℕ). first_refusal (remote_tests c.args.self.now.players base c.args.player c.args.frame)) from

pub returns-clause-heard : goal.returns-clause-heard
returns-clause-heard c = subst (λ (b : Bool). IfOk c.reply.result (λ heard. heard ≡ (if b then Repeated else Taken))) (repeated c) c.reply.ensures.heard

pub returns-clause-accepted : goal.returns-clause-accepted
returns-clause-accepted c = subst (λ (o : Option Refusal). IfOk c.reply.result (λ heard. heard ≡ Taken → o ≡ None)) (refused c) c.reply.ensures.accepted

pub returns-clause-refused : goal.returns-clause-refused
returns-clause-refused c = subst (λ (o : Option Refusal). IfErr c.reply.result (λ why. o ≡ Some why)) (refused c) c.reply.ensures.refused

pub returns-clause-new : goal.returns-clause-new
returns-clause-new c = subst (λ (b : Bool). OnErr c.reply.result (b ≡ false)) (repeated c) c.reply.ensures.new
