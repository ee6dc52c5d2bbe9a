use Rattle.std.proofs.Common.{refl}
use Rattle.roll_session.specs.Gameless.{still}
use Rattle.roll_requests.specs.Asked.{Asked}
use Rattle.roll_requests.specs.Slotted.{is_taken}
use Rattle.roll_requests.proofs.Holding.{pass_all}
use Rattle.roll_requests.proofs.Leads.{leads_taken}
use Rattle.roll_requests.proofs.Owning.{own_all}
use Rattle.roll_requests.proofs.Stays.{stays_answered, stays_in}
use Rattle.roll_requests.proofs.elsewhere.Elsewhere.take.Goals as goal

pub invariant_of-self : goal.invariant_of-self
invariant_of-self c =
    let i = c.self.inside in
    let now = c.self.invariant.0 in (
      record {
        are = record { saved = pass_all i.core.saves c.take-outcome.new.self.saves c.take-outcome.ensures.keeps (is_taken i.taken) now.are.saved; out = now.are.out };
        own = own_all i.core.saves c.take-outcome.new.self.saves i.jobs c.take-outcome.ensures.keeps now.own;
        current = now.current;
      },
      c.self.invariant.1,
    )

pub returns-clause-leads : goal.returns-clause-leads
returns-clause-leads c =
    let i = c.self.inside in
    let new = c.take-outcome.new.self in
    let old : Asked = record { seen = i.core.seen; saves = i.core.saves; at = i.at; requests = i.queue.requests; limit = i.limit; jobs = i.jobs; taken = i.taken } in
    rw (← c.self.view_is)
    (leads_taken old (record old { seen = new.seen; saves = new.saves }) c.take-outcome.ensures.keeps
    (stays_in i.core.seen.settings new.seen.settings i.core.seen.core new.seen.core i.core.saves.inputs new.saves.inputs c.laws.ensures.inputs c.laws-2.ensures.inputs
    (stays_answered still i.core.seen new.seen c.args.call _ c.requires.input c.laws.ensures.log c.take-outcome.ensures.answered))
    refl refl refl refl c.take-outcome.ensures.shown)
