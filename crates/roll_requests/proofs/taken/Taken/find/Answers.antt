use Rattle.std.proofs.Common.{◌≡◌, ◌<◌, ◌+◌, ◌∙◌, ◌∷◌, [], List, ℕ, ap, arith, length, refl, subst, sym}
use Rattle.std.proofs.lemmas.List.{length-append}
use Rattle.std.specs.Prelude.{All}
use Rattle.roll_requests.specs.Slotted.{free_slots, is_taken, AreFree}
use Rattle.roll_requests.proofs.Filling.{below_more, below_next, free_else, free_more, free_then, least_is, none_free}
use Rattle.roll_requests.proofs.taken.Taken.find.Goals as goal
use Rattle.roll_requests.proofs.taken.Taken.find.Goals.{then-not-has, else-not-has, else-loop-slot-test, then-loop-slot-test+then-len-count}

pub loop-slot-init : goal.loop-slot-init
loop-slot-init c =
    rw c.new-slots.ensures (record { few = omega arith; free = none_free c.args.limit c.args.self.now; below = λ k d few. absurd (omega (arith, few)); first = refl })

pub loop-slot-preserved : goal.loop-slot-preserved
loop-slot-preserved c =
    let now = c.loop-slot.invariant in
    let slots = c.loop-slot.slots.items in
    elim c.if-not-has.branch [
      | then-not-has w ↦
          let slot : ℕ = c.loop-slot.slot in
          let e = w.push.ensures in
          let many : length w.push.new.self.items ≡ length slots + 1 = ap length e.items ∙ length-append slots (slot ∷ []) in
          rw w.slots-is
          (record {
            few = omega (arith, now.few, c.len.ensures.value, c.if-len-count.false, many);
            free = subst (λ (l : List ℕ). AreFree c.args.limit c.args.self.now l) (sym e.items) (free_more c.args.limit c.args.self.now slots slot now.free now.below (sym w.if-not-has.ensures) c.loop-slot-test.true);
            below = subst (λ (l : List ℕ). All (λ j. j < slot + 1) l) (sym e.items) (below_more slots slot now.below);
            first = e.items ∙ free_then (is_taken c.args.self.now) slot slots (sym w.if-not-has.ensures) now.first;
          })
      | else-not-has w ↦ rw w.slots-is (record { few = now.few; free = now.free; below = below_next slots c.loop-slot.slot now.below; first = free_else (is_taken c.args.self.now) c.loop-slot.slot slots (sym w.if-not-has.ensures) now.first })
    ]

pub returns-then-len-count-2-clause-least : goal.returns-then-len-count-2-clause-least
returns-then-len-count-2-clause-least c =
    let slots = c.loop-slot.slots.items in
    let many : length slots ≡ c.args.count = omega (arith, c.if-len-count-2.true, c.len-2.ensures.value) in
    least_is (is_taken c.args.self.now) c.args.limit c.loop-slot.slot c.args.count slots c.loop-slot.auto.slot-end c.loop-slot.invariant.first many

pub returns-else-len-count-2-clause-short : goal.returns-else-len-count-2-clause-short
returns-else-len-count-2-clause-short c =
    let now = c.loop-slot.invariant in
    elim c.loop-slot-test.branch [
      | else-loop-slot-test w ↦
          let end : c.loop-slot.slot ≡ c.args.limit = omega (arith, w.loop-slot-test.false, c.loop-slot.auto.slot-end) in
          let all = ap length (now.first ∙ ap (free_slots (is_taken c.args.self.now)) end) in
          omega (arith, all, now.few, c.if-len-count-2.false, c.len-2.ensures.value)
      | then-loop-slot-test+then-len-count w ↦ absurd (c.if-len-count-2.false (c.len-2.ensures.value ∙ sym w.len.ensures.value ∙ w.if-len-count.true))
    ]
