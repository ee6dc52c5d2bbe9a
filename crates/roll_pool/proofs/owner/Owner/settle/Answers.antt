use Rattle.std.proofs.Common.{◌≡◌, ◌+◌, [], length, map, drop, vec_len, rules, arith, sym, ap, subst, ◌∙◌}
use Rattle.std.specs.Vec.Iter.{into_iter_items}
use Rattle.crossbeam_deque.specs.Handles.{worker_view, worker_deque}
use Rattle.roll_pool.specs.Owners.{came_by, collected, back_of}
use Rattle.roll_pool.specs.Settled.{Settles, TakenIn, late_of}
use Rattle.roll_pool.specs.Rings.{signals_at}
use Rattle.std.specs.Arc.{arc_value}
use Rattle.roll_pool.proofs.Settling.{places_step, no_rings, view_step, one_more_in, late_step, all_late, at_end, taken_length, settles, settled_sum, settled_tickets}
use Rattle.roll_pool.proofs.owner.Owner.settle.Goals as goal

pub loop-end-preserved : goal.loop-end-preserved
loop-end-preserved g c =
    let was = c.loop-end.invariant in
    let items = c.in-Some-next.ensures.items in
    let took = c.take_pass.ensures in
    let v = worker_view c.loop-end.deque in let w = worker_view c.take_pass.new.deque in (
      tt,
      tt,
      (places_step (worker_deque c.loop-end.deque) (worker_deque c.take_pass.new.deque) (signals_at (arc_value c.self.inside.signals)) _ c.in-Some-next.ring _ _ c.in-Some.end _ was.2 items c.in-Some.ensures.steps.0 took.deque.0).2,
      took.deque.1 ∙ was.3,
      view_step v w _ c.in-Some-next.ring _ c.in-Some.end.jobs items was.4 took.view,
      ap (λ u. u.issued) took.view ∙ was.5,
      one_more_in v.jobs c.in-Some.end.jobs w.jobs _ _ _ c.in-Some-next.ring.came _ c.in-Some.end.results _ _ was.6 (ap (λ u. u.jobs) took.view) (ap (λ l. collected (came_by l)) items) took.late took.told,
      omega (arith, took.room.0, was.7, ap length items),
      took.room.1 ∙ was.8,
      late_step _ c.loop-end.late.items c.take_pass.new.late.items _ c.in-Some-next.ring _ _ c.in-Some.end _ was.9 items c.in-Some.ensures.steps.0 took.late,
    )

-- in each of the goals after the loop no ring is left
pub take_back-requires-clause-owner : goal.take_back-requires-clause-owner
take_back-requires-clause-owner g c =
    let was = c.loop-end.invariant in
    let empty : length (into_iter_items c.loop-end.end-iterator) ≡ 0 = omega (arith, c.in-None.ensures.steps.0, c.loop-end.end-iterator.rest.ok.0) in
    let none = no_rings (worker_deque c.loop-end.deque) (signals_at (arc_value c.self.inside.signals)) _ _ was.2 empty in
    (ap (λ v. v.owns) was.4, ap (λ v. v.others) was.4 ∙ none, was.3)

pub take_back-requires-clause-room : goal.take_back-requires-clause-room
take_back-requires-clause-room g c =
    let was = c.loop-end.invariant in
    let empty : length (into_iter_items c.loop-end.end-iterator) ≡ 0 = omega (arith, c.in-None.ensures.steps.0, c.loop-end.end-iterator.rest.ok.0) in
    let none = no_rings (worker_deque c.loop-end.deque) (signals_at (arc_value c.self.inside.signals)) _ _ was.2 empty in
    let first : into_iter_items c.into_iter-in_order.result ≡ c.self.inside.rings.items = c.into_iter-in_order.ensures.rest in
    let many = taken_length _ _ _ _ (at_end _ _ _ _ _ none was.6) in
    let came = ap (λ l. length (collected (came_by l))) first in
    let sound = c.self.invariant.0 in
    (omega (arith, many, came, c.self.invariant.1, ap length was.5, sound.many, sound.few, sound.back), c.self.invariant.3.0, c.self.invariant.3.1)

-- what the four clauses rest on
settled : (g : _) (c : goal.After-drop-deque g) → Settles c.args.self.issued c.args.self.withdrawn (collected c.args.self.came) c.loop-end.late.items c.take_back.new.left.items × (length (worker_view c.loop-end.deque).jobs ≡ back_of c.args.self + length c.loop-end.late.items)
    × ((worker_view c.loop-end.deque).issued ≡ c.args.self.issued)
settled g c =
    let was = c.loop-end.invariant in
    let empty : length (into_iter_items c.loop-end.end-iterator) ≡ 0 = omega (arith, c.in-None.ensures.steps.0, c.loop-end.end-iterator.rest.ok.0) in
    let none = no_rings (worker_deque c.loop-end.deque) (signals_at (arc_value c.self.inside.signals)) _ _ was.2 empty in
    let first : into_iter_items c.into_iter-in_order.result ≡ c.self.inside.rings.items = c.into_iter-in_order.ensures.rest in
    let issued : (worker_view c.loop-end.deque).issued ≡ c.args.self.issued = was.5 ∙ ap (λ p. p.issued) c.self.view_is in
    let came : collected (came_by (into_iter_items c.into_iter-in_order.result)) ≡ collected c.args.self.came = ap (λ l. collected (came_by l)) first ∙ ap (λ p. collected p.came) c.self.view_is in
    let withdrawn : (worker_view c.self.inside.deque).jobs ≡ c.args.self.withdrawn = ap (λ p. p.withdrawn) c.self.view_is in
    let first_came = collected (came_by (into_iter_items c.into_iter-in_order.result)) in
    let taken : TakenIn (worker_view c.loop-end.deque).jobs c.args.self.withdrawn first_came [] c.loop-end.late.items =
    subst (λ l. TakenIn (worker_view c.loop-end.deque).jobs l first_came [] c.loop-end.late.items) withdrawn (at_end _ _ _ _ _ none was.6) in
    (settles _ _ _ c.args.self.withdrawn _ _ _ _ taken c.take_back.ensures.all issued came, taken_length _ _ _ _ taken ∙ ap (λ l. (length l + length c.args.self.withdrawn) + length c.loop-end.late.items) came, issued)

pub returns-clause-jobs : goal.returns-clause-jobs
returns-clause-jobs g c = (settled g c).0

pub returns-clause-left : goal.returns-clause-left
returns-clause-left g c = let all = settled g c in c.take_back.ensures.left ∙ (λ i. drop (all.1 i) (all.2 i))

pub returns-clause-tickets : goal.returns-clause-tickets
returns-clause-tickets g c =
    let numbered = ap (λ p. map (λ j. j.ticket) p.issued) (sym c.self.view_is) ∙ c.self.invariant.0.numbered in
    settled_tickets _ _ _ _ _ _ (settled g c).0 numbered

pub returns-clause-sum : goal.returns-clause-sum
returns-clause-sum g c =
    let sum = settled_sum _ _ _ _ _ (settled g c).0 in
    let many : c.self.inside.issued ≡ length c.args.self.issued = sym c.self.invariant.0.many ∙ ap (λ p. length p.issued) c.self.view_is in
    let came : c.self.inside.collected ≡ length (collected c.args.self.came) = c.self.invariant.1 ∙ ap (λ p. length (collected p.came)) c.self.view_is in
    let back : c.self.inside.withdrawn ≡ length c.args.self.withdrawn = sym c.self.invariant.0.back ∙ ap (λ p. length p.withdrawn) c.self.view_is in
    let late : vec_len c.loop-end.late ≡ length c.loop-end.late.items = search rules in
    let left : vec_len c.take_back.new.left ≡ length c.take_back.new.left.items = search rules in
    omega (arith, sum, many, came, back, late, left)

pub returns-clause-late : goal.returns-clause-late
returns-clause-late g c =
    let was = c.loop-end.invariant in
    let empty : length (into_iter_items c.loop-end.end-iterator) ≡ 0 = omega (arith, c.in-None.ensures.steps.0, c.loop-end.end-iterator.rest.ok.0) in
    let none = no_rings (worker_deque c.loop-end.deque) (signals_at (arc_value c.self.inside.signals)) _ _ was.2 empty in
    let first : into_iter_items c.into_iter-in_order.result ≡ c.self.inside.rings.items = c.into_iter-in_order.ensures.rest in
    all_late _ _ _ _ was.9 none ∙ ap (λ l. late_of (came_by l) c.args.ends.items) first ∙ ap (λ p. late_of p.came c.args.ends.items) c.self.view_is
