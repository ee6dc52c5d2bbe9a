use Rattle.std.proofs.Common.{◌≡◌, length, rules}
use Rattle.roll_session.specs.declared.log.Origin.{Origin}
use Rattle.roll_session.proofs.Logging.{graft_entered}
use Rattle.roll_session.proofs.log.Log.add_graft.Goals as goal

pub returns-clause-entries : goal.returns-clause-entries
returns-clause-entries c =
    let log = c.self.inside in
    let origin : Origin = record { ticket = c.args.ticket; route = c.args.route } in
    let place : c.len-place.result ≡ length log.grafts.items = search (rules, c.len-place.ensures) in
    rw (c.push_reserved-2.ensures.items, c.push_reserved.ensures.items, place, ← c.self.view_is) (graft_entered log.grafts.items origin log.slots.items c.self.invariant.within)
