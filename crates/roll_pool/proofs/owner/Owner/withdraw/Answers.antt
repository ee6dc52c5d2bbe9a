use Rattle.std.proofs.Common.{◌≡◌, List, [], ◌∷◌, ap, subst}
use Rattle.std.specs.Arc.{arc_value}
use Rattle.crossbeam_deque.specs.Handles.{worker_view, worker_deque, worker_capacity}
use Rattle.roll_branch.specs.declared.branch.Done.{Done}
use Rattle.roll_pool.specs.Owners.{came_by, rings_of, places_at, IsWithdrawn, Pool}
use Rattle.roll_pool.specs.Rings.{signals_at, DequeId, Place}
use Rattle.roll_pool.specs.Rule.{taking}
use Rattle.roll_pool.proofs.Moves.{withdraws}
use Rattle.roll_pool.proofs.Withdrawing.{next_is}
use Rattle.roll_pool.proofs.owner.Owner.withdraw.Goals as goal

pub pop_as-requires-clause-fifo : goal.pop_as-requires-clause-fifo
pop_as-requires-clause-fifo g c = λ _. withdraws _ _ 1 (ap (λ v. v.owns) c.self.invariant.0.knows)

pub returns-clause-some : goal.returns-clause-some
returns-clause-some g c =
    let job = c.in_ok-job.job in
    let told : worker_view c.pop_as.new.self ≡ taking (worker_view c.self.inside.deque) (job ∷ []) = c.in_ok-job.ensures.rule.0 in
    let next = next_is (worker_view c.self.inside.deque) job c.self.inside.issued c.in_ok-job.ensures.rule.1 c.self.invariant.0.numbered in
    let deque : worker_deque c.pop_as.new.self ≡ worker_deque c.self.inside.deque = c.pop_as.ensures.same.0.0 in
    let rings = c.self.inside.rings.items in
    let places : DequeId → List Place = λ d. places_at d (signals_at (arc_value c.self.inside.signals)) (rings_of rings) in
    let capacity = worker_capacity c.pop_as.new.self in
    let after : Pool (Done _ _ _) = record {
      places = places (worker_deque c.pop_as.new.self);
      issued = (worker_view c.pop_as.new.self).issued;
      withdrawn = (worker_view c.pop_as.new.self).jobs;
      came = came_by rings;
      capacity = capacity;
    } in
    subst (λ old. IsWithdrawn old after job) c.self.view_is (record {
      is_issued = next.0;
      is_later = next.1;
      new_is = λ i. record {
        places = places (deque i);
        issued = (told i).issued;
        withdrawn = (told i).jobs;
        came = came_by rings;
        capacity = capacity;
      };
      capacity = c.pop_as.ensures.same.0.3;
    })
