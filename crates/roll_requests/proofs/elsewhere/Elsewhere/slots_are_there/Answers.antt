use Rattle.roll_requests.specs.Asked.{Asked}
use Rattle.roll_requests.proofs.Limited.{most_are_there}
use Rattle.roll_requests.proofs.elsewhere.Elsewhere.slots_are_there.Goals as goal

pub returns : goal.returns
returns c =
    let i = c.self.inside in
    let here : Asked = record { seen = i.core.seen; saves = i.core.saves; at = i.at; requests = i.queue.requests; limit = i.limit; jobs = i.jobs; taken = i.taken } in
    rw (← c.self.view_is) (most_are_there here c.laws.ensures.log c.self.invariant.1)
