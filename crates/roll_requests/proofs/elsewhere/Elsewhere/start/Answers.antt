use Rattle.roll_requests.proofs.Leads.{first_leads, first_taken}
use Rattle.roll_requests.proofs.Limited.{first_limited}
use Rattle.roll_requests.specs.declared.limits.TheConstants.{SLOTS}
use Rattle.roll_requests.proofs.elsewhere.Elsewhere.start.Goals as goal

pub returns-clause-leads : goal.returns-clause-leads
returns-clause-leads c =
    let e = c.in_ok-core.ensures in
    rw c.in_ok-taken.ensures
    (first_leads c.args.settings c.in_ok-core.core c.new-3.result c.in_ok-queue.queue.requests SLOTS e.seen c.laws.ensures.inputs e.alone c.new-3.ensures.empty c.in_ok-queue.ensures)

pub invariant_of-result : goal.invariant_of-result
invariant_of-result c =
    let e = c.in_ok-core.ensures in
    rw c.in_ok-taken.ensures (first_taken c.in_ok-core.core c.new-3.result e.alone c.new-3.ensures.empty, first_limited c.new-3.result c.new-3.ensures.empty)
