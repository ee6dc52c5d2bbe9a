use Rattle.roll_requests.proofs.Leads.{leads_bare}
use Rattle.roll_requests.proofs.elsewhere.Elsewhere.reserve_log.Goals as goal

pub returns-in_err-reserve_log-clause-leads : goal.returns-in_err-reserve_log-clause-leads
returns-in_err-reserve_log-clause-leads c =
    let i = c.self.inside in
    rw (← c.self.view_is) (rw c.in_err-reserve_log.ensures.unchanged (λ past l. l))

pub returns-clause-leads : goal.returns-clause-leads
returns-clause-leads c =
    let i = c.self.inside in
    rw (← c.self.view_is) (rw c.in_ok-reserve_log.ensures.reserved (leads_bare i.core.seen i.core.saves i.at i.queue.requests i.limit i.jobs i.taken _))
