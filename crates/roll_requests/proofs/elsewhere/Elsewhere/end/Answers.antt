use Rattle.std.proofs.Common.{◌≡◌, ◌++◌, ◌∙◌, ◌-◌, List, ap, refl, sym}
use Rattle.roll_frame.specs.Core.{settled}
use Rattle.roll_requests.specs.Asked.{Asked}
use Rattle.roll_requests.specs.Ended.{open_row}
use Rattle.roll_requests.specs.Requests.{end_requests}
use Rattle.roll_requests.specs.declared.request.Request.{Request}
use Rattle.roll_requests.proofs.Ending.{on_ok, opened}
use Rattle.roll_requests.proofs.elsewhere.Elsewhere.end.Goals as goal

pub returns-clause-ended : goal.returns-clause-ended
returns-clause-ended c =
    let i = c.session.inside in
    let slot = c.settled_slot-slot.result in
    let within = on_ok c.plan_end.result (sym c.is_err.ensures.value ∙ c.if-is_err.false) c.plan_end.ensures.within in
    let old : Asked = record { seen = i.core.seen; saves = i.core.saves; at = i.at; requests = i.queue.requests; limit = i.limit; jobs = i.jobs; taken = i.taken } in
    let asked : c.of.result ≡ i.queue.requests ++ end_requests i.at slot i.taken (open_row i.core.seen.core) (c.args.end - settled i.core.seen.core) =
    c.of.ensures ∙ c.ask_end.ensures ∙ ap (λ (l : List Request). l ++ end_requests i.at slot i.taken (open_row i.core.seen.core) (c.args.end - settled i.core.seen.core)) c.plan_end.ensures.requests in
    rw (← c.session.view_is)
    (record {
      within = within;
      seen = refl;
      slot = slot;
      slot_is = c.settled_slot-slot.ensures;
      asked = asked;
      opens = opened old c.args.end slot c.of.result c.laws.ensures.inputs c.settled_slot-slot.ensures within asked;
    })
