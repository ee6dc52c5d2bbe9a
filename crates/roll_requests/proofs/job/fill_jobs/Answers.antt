use Rattle.std.proofs.Common.{◌≡◌, ◌∙◌, [], ℕ, List, ap, arith, refl, Contains, Some}
use Rattle.std.specs.List.{list_any}
use Rattle.std.specs.Prelude.{◌||◌}
use Rattle.slab.specs.Slab.{get}
use Rattle.slab.proofs.SlabLemmas.{Contains-cons, Contains-entries}
use Rattle.roll_requests.specs.Slotted.{holds, is_taken, Guessed}
use Rattle.roll_requests.proofs.Filling.{or_assoc, or_false}
use Rattle.roll_requests.proofs.job.fill_jobs.Goals as goal

pub loop-job-init : goal.loop-job-init
loop-job-init c =
    let left = c.into_iter-job-iterator.ensures.into_iter_gives ∙ c.iter-job-items.ensures.rest in
    record {
      goes = tt;
      ends = tt;
      left = λ n job there. (Contains-entries c.args.jobs.now n job).0 (rw left at there);
      filled = λ k. ap (λ (l : List (ℕ × Guessed)). is_taken c.args.slots.now k || list_any (λ (out : ℕ × Guessed). holds out.1 k) l) left;
      many = refl;
    }

pub fill_job-requires : goal.fill_job-requires
fill_job-requires c =
    let at = c.in-Some.ensures.steps in
    let now = c.loop-job.invariant in
    let n : ℕ = c.in-Some.field-0-0 in
    let job : Guessed = c.in-Some.job.now in
    let first : Contains c.loop-job.job-iterator (n, job) = rw at (0, omega arith, refl) in
    let there : get c.args.jobs.now n ≡ Some job = now.left n job first in
    let places = c.requires n job there in
    record { start = omega (arith, places.start, now.many); slots = λ k d few. let low = places.slots k d few in omega (arith, low, now.many) }

pub loop-job-preserved : goal.loop-job-preserved
loop-job-preserved c =
    let at = c.in-Some.ensures.steps in
    let now = c.loop-job.invariant in
    let job : Guessed = c.in-Some.job.now in
    let e = c.fill_job.ensures in
    let before = rw at at now.filled in
    record {
      goes = tt;
      ends = tt;
      left = λ n job there. now.left n job (rw at (Contains-cons _ _ _ there));
      filled = λ k. ap (λ b. b || list_any (λ (out : ℕ × Guessed). holds out.1 k) c.next.new.self) (e.filled k) ∙ or_assoc (is_taken c.loop-job.slots k) (holds job k) (list_any (λ (out : ℕ × Guessed). holds out.1 k) c.next.new.self) ∙ before k;
      many = e.many ∙ now.many;
    }

pub returns : goal.returns
returns c =
    let now = c.loop-job.invariant in
    let none : c.loop-job.job-iterator ≡ [] = c.in-None.ensures.steps.0 in
    let all = rw none at now.filled in
    record { filled = λ k. or_false (is_taken c.loop-job.slots k) ∙ all k; many = now.many }
