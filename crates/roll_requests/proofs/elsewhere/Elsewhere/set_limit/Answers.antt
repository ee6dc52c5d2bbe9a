use Rattle.std.proofs.Common.{refl}
use Rattle.roll_requests.specs.Asked.{Asked}
use Rattle.roll_requests.proofs.Leads.{leads_same}
use Rattle.roll_requests.proofs.elsewhere.Elsewhere.set_limit.Goals as goal

pub returns-clause-leads : goal.returns-clause-leads
returns-clause-leads c =
    let i = c.self.inside in
    let old : Asked = record { seen = i.core.seen; saves = i.core.saves; at = i.at; requests = i.queue.requests; limit = i.limit; jobs = i.jobs; taken = i.taken } in
    rw (← c.self.view_is)
    (leads_same old (record old { limit = c.min-self-inside.result }) refl refl (λ slot. refl) refl (λ step opening slots h. h))
