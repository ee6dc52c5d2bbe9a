use Rattle.std.proofs.Common.{◌≡◌, ◌∙◌, ◌<◌, ℕ, List, ap, arith, get_or, length, refl, take}
use Rattle.std.specs.Prelude.{◌||◌}
use Rattle.std.proofs.lemmas.List.{length-set, take_all}
use Rattle.roll_requests.specs.Slotted.{is_among, is_taken}
use Rattle.roll_requests.proofs.Filling.{filled, filled_more, or_false}
use Rattle.roll_requests.proofs.taken.Taken.fill_all.Goals as goal

pub fill-requires : goal.fill-requires
fill-requires c =
    let low = c.requires c.loop-slot.slot-index 0 c.loop-slot-test.true in
    omega (arith, low, c.loop-slot.invariant.many)

pub loop-slot-init : goal.loop-slot-init
loop-slot-init c = record { many = refl; filled = λ k. or_false (is_taken c.args.self.now k) }

pub loop-slot-preserved : goal.loop-slot-preserved
loop-slot-preserved c =
    let n : ℕ = c.loop-slot.slot-index in
    let slot : ℕ = get_or c.args.slots.now n 0 in
    let old = c.loop-slot.self in
    let now = c.loop-slot.invariant in
    let low = c.requires n 0 c.loop-slot-test.true in
    let few : slot < length old = omega (arith, low, now.many) in
    rw c.fill.ensures
    (record {
      many = length-set old slot _ ∙ now.many;
      filled = λ k. filled old slot k few ∙ filled_more c.args.slots.now n k (is_taken c.args.self.now k) (is_taken old k) c.loop-slot-test.true (now.filled k);
    })

pub returns : goal.returns
returns c =
    let now = c.loop-slot.invariant in
    let all : take c.loop-slot.slot-index c.args.slots.now ≡ c.args.slots.now = take_all c.loop-slot.slot-index c.args.slots.now (omega (arith, c.loop-slot-test.false)) in
    record { filled = λ k. now.filled k ∙ ap (λ (l : List ℕ). is_taken c.args.self.now k || is_among l k) all; many = now.many }
