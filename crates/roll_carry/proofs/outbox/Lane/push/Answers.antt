use Rattle.roll_carry.specs.Spelling.{parcel_value}
use Rattle.roll_carry.proofs.Lanes.{all_pushed}
use Rattle.roll_carry.proofs.outbox.Lane.push.Goals as goal

pub invariant_of-self : goal.invariant_of-self
invariant_of-self c =
    all_pushed (λ area. area.items) c.self.inside.areas.items c.push.new.self.items c.push_parcel.new.area
    c.new-area.result.items (parcel_value c.args.parcel.now) c.push.ensures.items c.self.invariant c.new-area.ensures
    c.push_parcel.ensures.items c.push_parcel.ensures.fits
