use Rattle.std.proofs.Common.{◌≡◌, ◌∙◌, [], ap, arith, drop, length}
use Rattle.std.proofs.lemmas.List.{length-drop}
use Rattle.roll_requests.specs.Requests.{Queued}
use Rattle.roll_requests.proofs.queue.Queue.forget_given.Goals as goal

pub returns-else-self-len-clause-room : goal.returns-else-self-len-clause-room
returns-else-self-len-clause-room c = λ none.
    let i = c.self.inside in
    let left : drop i.given i.list.items ≡ [] = ap (λ (q : Queued). q.requests) c.self.view_is ∙ none in
    absurd (omega (arith, ap length left, length-drop i.given i.list.items, c.if-self-len.false, c.len.ensures, c.self.invariant.0))
