use Rattle.std.proofs.Common.{◌≡◌, ◌∙◌, ap, sym, Some}
use Rattle.slab.specs.Slab.{get}
use Rattle.roll_requests.specs.Asked.{Asked}
use Rattle.roll_requests.specs.Slotted.{Guessed}
use Rattle.roll_requests.proofs.Leads.{handed_in, leads_grafted, leads_left, taken_grafted, taken_left}
use Rattle.roll_requests.proofs.Limited.{limited_left}
use Rattle.roll_requests.proofs.elsewhere.Elsewhere.graft.Goals as goal

pub invariant_of-self : goal.invariant_of-self
invariant_of-self c =
    let i = c.self.inside in
    let e = c.try_remove.ensures in
    (taken_left i.core.saves.tree.states i.jobs c.try_remove.new.self i.at c.args.job i.taken e.updates c.self.invariant.0, limited_left c.try_remove.result i.limit c.args.job i.jobs c.try_remove.new.self e.updates e.len e.absent c.self.invariant.1)

pub returns-in_default-clause-leads : goal.returns-in_default-clause-leads
returns-in_default-clause-leads c =
    let i = c.self.inside in
    let old : Asked = record { seen = i.core.seen; saves = i.core.saves; at = i.at; requests = i.queue.requests; limit = i.limit; jobs = i.jobs; taken = i.taken } in
    rw (← c.self.view_is) (leads_left old c.try_remove.new.self c.args.job c.try_remove.ensures.updates)

pub graft-outcome-requires : goal.graft-outcome-requires
graft-outcome-requires c = c.job.invariant

pub invariant_of-self-2 : goal.invariant_of-self-2
invariant_of-self-2 c =
    let i = c.self.inside in
    let e = c.graft-outcome.ensures in
    let job : Guessed = record { route = c.job.inside.route; start = c.job.inside.start; slots = c.job.inside.slots.items } in
    let there : get i.jobs c.args.job ≡ Some job = sym c.in-Some.ensures.value ∙ ap Some (sym c.job.view_is) in
    let r = c.try_remove.ensures in (
      taken_grafted c.graft-outcome.result i.core c.graft-outcome.new.self i.jobs c.try_remove.new.self i.at c.args.job job i.taken
          (record { log = c.laws.ensures.log; before = c.laws.ensures.inputs; after = c.laws-2.ensures.inputs; accepted = e.accepted; taken = e.taken; keeps = e.branch; unchanged = e.unchanged })
          there r.updates c.self.invariant.0,
      limited_left c.try_remove.result i.limit c.args.job i.jobs c.try_remove.new.self r.updates r.len r.absent c.self.invariant.1,
    )

pub returns-clause-grafted : goal.returns-clause-grafted
returns-clause-grafted c =
    let i = c.self.inside in
    let e = c.graft-outcome.ensures in
    let job : Guessed = record { route = c.job.inside.route; start = c.job.inside.start; slots = c.job.inside.slots.items } in
    let there : get i.jobs c.args.job ≡ Some job = sym c.in-Some.ensures.value ∙ ap Some (sym c.job.view_is) in
    rw (← c.self.view_is) (rw there (handed_in c.graft-outcome.result i.core.seen c.graft-outcome.new.self.seen job e.accepted e.taken e.grafted e.refused))

pub returns-clause-leads : goal.returns-clause-leads
returns-clause-leads c =
    let i = c.self.inside in
    let e = c.graft-outcome.ensures in
    let job : Guessed = record { route = c.job.inside.route; start = c.job.inside.start; slots = c.job.inside.slots.items } in
    let there : get i.jobs c.args.job ≡ Some job = sym c.in-Some.ensures.value ∙ ap Some (sym c.job.view_is) in
    rw (← c.self.view_is)
    (leads_grafted c.graft-outcome.result i.core c.graft-outcome.new.self i.at i.queue.requests i.limit i.taken i.jobs c.try_remove.new.self c.args.job job
    (record { log = c.laws.ensures.log; before = c.laws.ensures.inputs; after = c.laws-2.ensures.inputs; accepted = e.accepted; taken = e.taken; keeps = e.branch; unchanged = e.unchanged })
    there c.try_remove.ensures.updates)
