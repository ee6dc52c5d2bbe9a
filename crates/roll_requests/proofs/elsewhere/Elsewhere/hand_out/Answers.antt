use Rattle.std.proofs.Common.{◌++◌, List, subst, sym, take}
use Rattle.roll_requests.specs.Asked.{Asked, Leads}
use Rattle.roll_requests.specs.declared.request.Request.{Request}
use Rattle.roll_requests.proofs.Leads.{leads_given}
use Rattle.roll_requests.proofs.elsewhere.Elsewhere.hand_out.Goals as goal

pub returns-clause-leads : goal.returns-clause-leads
returns-clause-leads c =
    let i = c.self.inside in
    let n = c.args.count in
    let e : Asked = record { seen = i.core.seen; saves = i.core.saves; at = i.at; requests = i.queue.requests; limit = i.limit; jobs = i.jobs; taken = i.taken } in
    rw (← c.self.view_is)
    (λ past l. subst (λ (left : List Request). Leads (past ++ take n i.queue.requests) (record e { requests = left })) (sym c.hand_out.ensures) (leads_given e n past l))
