use Rattle.roll_requests.specs.Asked.{Asked}
use Rattle.roll_requests.proofs.Leads.{leads_left, taken_left}
use Rattle.roll_requests.proofs.Limited.{limited_left}
use Rattle.roll_requests.proofs.elsewhere.Elsewhere.forget.Goals as goal

pub invariant_of-self : goal.invariant_of-self
invariant_of-self c =
    let i = c.self.inside in
    let e = c.try_remove.ensures in
    (taken_left i.core.saves.tree.states i.jobs c.try_remove.new.self i.at c.args.job i.taken e.updates c.self.invariant.0, limited_left c.try_remove.result i.limit c.args.job i.jobs c.try_remove.new.self e.updates e.len e.absent c.self.invariant.1)

pub returns-clause-leads : goal.returns-clause-leads
returns-clause-leads c =
    let i = c.self.inside in
    let old : Asked = record { seen = i.core.seen; saves = i.core.saves; at = i.at; requests = i.queue.requests; limit = i.limit; jobs = i.jobs; taken = i.taken } in
    rw (← c.self.view_is) (leads_left old c.try_remove.new.self c.args.job c.try_remove.ensures.updates)
