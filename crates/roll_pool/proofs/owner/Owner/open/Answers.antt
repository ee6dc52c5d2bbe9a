use Rattle.std.proofs.Common.{◌≡◌, ◌≤◌, [], true, length, map, vec_len, ap, sym, ◌∙◌, rules, arith}
use Rattle.std.proofs.lemmas.List.{length-map}
use Rattle.crossbeam_deque.specs.Handles.{worker_view, worker_flavor, worker_index, worker_capacity}
use Rattle.roll_pool.specs.Rule.{tally}
use Rattle.roll_pool.specs.Owners.{collected, rings_of}
use Rattle.roll_pool.specs.declared.owner.TheConstants.{JOBS_OUT, WORKER_LIMIT}
use Rattle.roll_pool.proofs.Moves.{begins}
use Rattle.roll_pool.proofs.Collecting.{none_came, fresh_places}
use Rattle.roll_pool.proofs.owner.Owner.open.Goals as goal

pub fifo_as-requires : goal.fifo_as-requires
fifo_as-requires g c = begins

pub invariant_of-owner : goal.invariant_of-owner
invariant_of-owner g c =
    let hired = c.in_ok-rings.ensures in
    let issued : (worker_view c.hire_all.new.deque).issued ≡ [] = ap (λ v. v.issued) hired.view in
    let jobs : (worker_view c.hire_all.new.deque).jobs ≡ [] = ap (λ v. v.jobs) hired.view in
    let fifo : worker_flavor c.hire_all.new.deque ≡ 0 = search rules in
    let next : worker_index c.hire_all.new.deque ≤ 0 = search rules in
    let places : JOBS_OUT ≤ worker_capacity c.hire_all.new.deque = search rules in
    let team : vec_len c.in_ok-rings.rings ≤ WORKER_LIMIT = search rules in (
      record {
        knows = hired.view ∙ (λ i. tally true (sym issued i) (sym hired.came.1 i) 0 (sym jobs i));
        fifo = fifo;
        next = next;
        places = places;
        many = ap length issued;
        numbered = ap (map (λ j. j.ticket)) issued;
        back = ap length jobs;
        taken = omega arith;
        few = omega arith;
        most = omega arith;
        team = team;
      },
      sym (ap (λ l. length (collected l)) hired.came.0 ∙ none_came _ c.args.workers),
      search rules,
      search rules,
    )

pub returns-clause-places : goal.returns-clause-places
returns-clause-places g c = ap (map (λ e. e.place)) c.in_ok-rings.ensures.ends ∙ fresh_places _ _

pub returns-clause-ends : goal.returns-clause-ends
returns-clause-ends g c = c.in_ok-rings.ensures.ends

pub returns-clause-team : goal.returns-clause-team
returns-clause-team g c =
    let hired = c.in_ok-rings.ensures in
    let rings = c.in_ok-rings.rings in
    let many : vec_len rings ≡ length rings.items = search rules in
    (length-map (rings_of rings.items) _ ∙ length-map rings.items (λ r. r.ring) ∙ sym many ∙ hired.came.1, hired.came.0)

pub returns-clause-new : goal.returns-clause-new
returns-clause-new g c =
    let hired = c.in_ok-rings.ensures in
    (ap (λ v. v.issued) hired.view, ap (λ v. v.jobs) hired.view)
