use Rattle.std.proofs.Common.{◌≡◌, ◌≤◌, ◌<◌, ◌+◌, ◌^◌, [], ◌∷◌, length, ap, rules, arith}
use Rattle.crossbeam_deque.specs.Handles.{worker_view, worker_flavor, worker_index, worker_capacity}
use Rattle.roll_pool.specs.Rule.{issuing}
use Rattle.roll_pool.specs.Owners.{came_by, collected}
use Rattle.roll_pool.specs.declared.owner.TheConstants.{JOBS_OUT}
use Rattle.roll_pool.proofs.Moves.{issues}
use Rattle.roll_pool.proofs.Issuing.{sound_more}
use Rattle.roll_pool.proofs.owner.Owner.issue.Goals as goal

pub push_as-requires-clause-pushes : goal.push_as-requires-clause-pushes
push_as-requires-clause-pushes g c = issues _ _ _ (ap (λ v. v.owns) c.self.invariant.0.knows)

pub invariant_of-self-2 : goal.invariant_of-self-2
invariant_of-self-2 g c =
    let was = c.self.invariant in
    let issued : length (worker_view c.self.inside.deque).issued ≡ length c.args.self.now.issued = ap (λ p. length p.issued) c.self.view_is in
    let came : length (collected (came_by c.self.inside.rings.items)) ≡ length (collected c.args.self.now.came) = ap (λ p. length (collected p.came)) c.self.view_is in
    let back : length (worker_view c.self.inside.deque).jobs ≡ length c.args.self.now.withdrawn = ap (λ p. length p.withdrawn) c.self.view_is in
    let out : c.self.inside.issued < (c.self.inside.collected + c.self.inside.withdrawn) + JOBS_OUT = omega (arith, c.out.ensures.count, c.if-out-ge-JOBS_OUT.false, was.0.many, was.0.back, was.1) in
    let few : c.self.inside.issued < 2 ^ 62 = omega (arith, c.if-self-ge-TICKET_LIMIT.false) in
    let told : worker_view c.push_as.new.self ≡ issuing (worker_view c.self.inside.deque) (c.set_ticket.new.self ∷ []) = search rules in
    let number : c.set_ticket.new.self.ticket ≡ c.self.inside.issued = ap (λ j. j.ticket) c.set_ticket.ensures in
    let flavor : worker_flavor c.push_as.new.self ≡ worker_flavor c.self.inside.deque = search rules in
    let next : worker_index c.push_as.new.self ≡ worker_index c.self.inside.deque + 1 = search rules in
    let wider : worker_capacity c.self.inside.deque ≤ worker_capacity c.push_as.new.self = search rules in
    (sound_more _ _ _ _ _ _ _ _ _ _ _ _ _ was.0 told number flavor next wider out few, was.1, was.2, was.3)
