use Rattle.std.proofs.Common.{◌≡◌, ◌<◌, ◌∙◌, ℕ, List, arith, get_or, length, subst, sym, take}
use Rattle.std.specs.Prelude.{All}
use Rattle.std.proofs.lemmas.List.{take_all, take_more}
use Rattle.std.proofs.lemmas.List.Elements.{All-push, All-weaker}
use Rattle.roll_requests.proofs.taken.Taken.reach.Goals as goal

pub loop-slot-preserved : goal.loop-slot-preserved
loop-slot-preserved c =
    let n : ℕ = c.loop-slot.slot-index in
    let slots = c.args.slots.now in
    let now = c.loop-slot.invariant in
    let e = c.lengthen.ensures in
    let new = c.lengthen.new.self in
    let here : get_or slots n 0 < length new = omega (arith, e.many) in
    record {
      within =
          subst (λ (l : List ℕ). All (λ slot. slot < length new) l) (sym (take_more slots n 0 c.loop-slot-test.true))
          (All-push (λ slot. slot < length new) (take n slots) (get_or slots n 0) (All-weaker (λ slot. slot < length c.loop-slot.self) (λ slot. slot < length new) (λ slot low. omega (arith, low, e.many)) (take n slots) now.within) here);
      same = λ k. e.same k ∙ now.same k;
      many = omega (arith, e.many, now.many);
    }

pub returns-clause-within : goal.returns-clause-within
returns-clause-within c =
    let slots = c.args.slots.now in
    let all : take c.loop-slot.slot-index slots ≡ slots = take_all c.loop-slot.slot-index slots (omega (arith, c.loop-slot-test.false)) in
    subst (λ (l : List ℕ). All (λ slot. slot < length c.loop-slot.self) l) all c.loop-slot.invariant.within
