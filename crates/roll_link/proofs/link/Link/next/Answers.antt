use Rattle.std.proofs.Common.{◌≡◌, [], ◌∷◌, ◌++◌, Some, None, sym, ap, ◌∙◌, rules, option_to_list}
use Rattle.rtrb.specs.Ring.{known_items, received}
use Rattle.roll_link.specs.Linked.{but_waiting, held_list}
use Rattle.roll_link.specs.Rings.{ring_at}
use Rattle.roll_link.proofs.Waiting.{next_applied, refilled, AreApplied}
use Rattle.roll_link.proofs.link.Link.next.Goals as goal

pub invariant_of-self : goal.invariant_of-self
invariant_of-self c =
    let held : c.self.inside.held ≡ Some c.in-Some.item = search rules in
    let none : c.take.new.self ≡ None = search rules in
    let waiting = ap (λ h. held_list h ++ c.self.inside.run) held in
    let now = next_applied (received c.self.inside.consumer) _ _ c.self.inside.run c.in-Some.item c.self.invariant.1 waiting in
    rw none (c.self.invariant.0, now.whole)

pub invariant_of-self-in-Some-next : goal.invariant_of-self-in-Some-next
invariant_of-self-in-Some-next c =
    let held : c.self.inside.held ≡ None = search rules in
    let none : c.take.new.self ≡ None = search rules in
    let waiting = ap (λ h. held_list h ++ c.self.inside.run) held ∙ c.in-Some-next.ensures.some in
    let now = next_applied (received c.self.inside.consumer) _ _ c.next.new.self c.in-Some-next.item c.self.invariant.1 waiting in
    rw none (c.self.invariant.0, now.whole)

pub returns-in-Some-next-clause-same : goal.returns-in-Some-next-clause-same
returns-in-Some-next-clause-same c =
    let popped = received c.self.inside.consumer in
    let rest = c.next.new.self in
    let item = c.in-Some-next.item in
    let held : c.self.inside.held ≡ None = search rules in
    let none : c.take.new.self ≡ None = search rules in
    let waiting = ap (λ h. held_list h ++ c.self.inside.run) held ∙ c.in-Some-next.ensures.some in
    let now = next_applied popped _ _ rest item c.self.invariant.1 waiting in
    let applied = ap (λ h. but_waiting popped (held_list h ++ rest)) none ∙ now.applied_are ∙ ap (λ l. l.applied ++ item ∷ []) c.self.view_is in
    λ i. record {
      ring = (c.self.view_is i).ring;
      applied = applied i;
      held = none i;
      known = rest ++ known_items c.self.inside.consumer;
      ended = (c.self.view_is i).ended;
    }

-- nothing waited, and the ring was popped
emptied : (c : goal.After-next-2) → (c.take.new.self ≡ None) × AreApplied (received c.refill.new.ring) (but_waiting (received c.self.inside.consumer) (held_list c.self.inside.held ++ c.self.inside.run) ++ option_to_list c.next-2.result) c.next-2.new.self
emptied c =
    let popped = received c.self.inside.consumer in
    let waiting = held_list c.self.inside.held ++ c.self.inside.run in
    let held : c.self.inside.held ≡ None = search rules in
    let none : c.take.new.self ≡ None = search rules in
    let empty : waiting ≡ [] = ap (λ h. held_list h ++ c.self.inside.run) held ∙ c.in_default-next.ensures.none.0 in
    let whole : but_waiting popped waiting ++ [] ≡ popped = ap (λ l. but_waiting popped waiting ++ l) (sym empty) ∙ c.self.invariant.1 in
    (none, refilled popped (received c.refill.new.ring) (but_waiting popped waiting) c.refill.new.self c.next-2.new.self c.next-2.result whole c.refill.ensures.popped c.next-2.ensures.some c.next-2.ensures.none)

pub invariant_of-self-2 : goal.invariant_of-self-2
invariant_of-self-2 c =
    let now = emptied c in
    rw now.0 (search rules, now.1.whole)

pub returns-clause-same : goal.returns-clause-same
returns-clause-same c =
    let now = emptied c in
    let ring : ring_at c.refill.new.ring.end ≡ ring_at c.self.inside.consumer.end = search rules in
    let applied = ap (λ h. but_waiting (received c.refill.new.ring) (held_list h ++ c.next-2.new.self)) now.0 ∙ now.1.applied_are ∙ ap (λ l. l.applied ++ option_to_list c.next-2.result) c.self.view_is in
    λ i. record {
      ring = (ring ∙ ap (λ l. l.ring) c.self.view_is) i;
      applied = applied i;
      held = now.0 i;
      known = c.next-2.new.self ++ known_items c.refill.new.ring;
      ended = (c.self.view_is i).ended;
    }
