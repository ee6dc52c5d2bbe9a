use Rattle.std.proofs.Common.{◌∙◌, ap, arith, sym, take}
use Rattle.roll_requests.specs.Slotted.{is_needed, is_taken, least_free}
use Rattle.roll_requests.proofs.Filling.{free_alike, free_same, held_is, job_within, taken_within}
use Rattle.roll_requests.proofs.plans.find_room.Goals as goal

pub fill_saved-requires : goal.fill_saved-requires
fill_saved-requires c = λ k d few.
    let low = taken_within c.args.taken.now _ (c.requires.taken.saved k d few) in
    omega (arith, low, c.clear_as.ensures.many)

pub fill_jobs-requires : goal.fill_jobs-requires
fill_jobs-requires c = λ n job there.
    let low = job_within c.args.taken.now job (c.requires.taken.out n job there) in
    record {
      start = omega (arith, low.start, c.clear_as.ensures.many, c.fill_saved.ensures.many);
      slots = λ k d few. let l = low.slots k d few in omega (arith, l, c.clear_as.ensures.many, c.fill_saved.ensures.many);
    }

pub returns-clause-room : goal.returns-clause-room
returns-clause-room c =
    let states = c.args.tree.now.states in
    let jobs = c.args.jobs.now in
    let slots = c.in_ok-slots.slots.items in
    let limit = c.args.limit in
    let held = held_is states jobs c.clear_as.new.self c.fill_saved.new.self c.fill_jobs.new.slots c.clear_as.ensures.none c.fill_saved.ensures.filled c.fill_jobs.ensures.filled in
    record {
      held = λ k. c.reach.ensures.same k ∙ held k;
      least = c.in_ok-slots.ensures.least ∙ ap (take c.args.count) (free_alike (is_taken c.fill_jobs.new.slots) (is_needed states jobs) held limit) ∙ ap (λ n. least_free (is_needed states jobs) limit n) (sym c.in_ok-slots.ensures.many);
      free = free_same limit c.fill_jobs.new.slots c.reach.new.self slots c.reach.ensures.same c.in_ok-slots.ensures.free;
      within = rw c.deref.ensures.0 at c.reach.ensures.within;
    }
