use Rattle.std.proofs.Common.{◌∷◌, [], arith, length, length-append}
use Rattle.std.proofs.lemmas.List.Elements.{All-push}
use Rattle.roll_session.specs.Logs.{IsWithin}
use Rattle.roll_session.proofs.log.Log.add_call.Goals as goal

pub invariant_of-self : goal.invariant_of-self
invariant_of-self c =
    let log = c.self.inside in
    let slot = c.slot_of.result in
    record {
      within = rw c.push_reserved.ensures.items (All-push (IsWithin (length log.grafts.items)) log.slots.items slot c.self.invariant.within (c.slot_of.ensures.within (length log.grafts.items)));
      few = rw c.push_reserved.ensures.items (omega (arith, c.self.invariant.few, length-append log.slots.items (slot ∷ [])));
    }
