use Rattle.roll_carry.specs.Spelling.{parcel_value}
use Rattle.roll_carry.proofs.Lanes.{all_added}
use Rattle.roll_carry.proofs.outbox.Lane.add.Goals as goal

pub invariant_of-self : goal.invariant_of-self
invariant_of-self c =
    all_added (λ area. area.items) c.self.inside.areas.items c.deref_mut.result.now c.args.self.now c.args.place
    c.push_parcel.new.area c.index-deref_mut-place.result (parcel_value c.args.parcel.now) c.deref_mut.ensures.value
    c.self.invariant c.self.view_is c.requires.room c.push_parcel.ensures.items c.push_parcel.ensures.fits
