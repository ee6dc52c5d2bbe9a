use Rattle.std.proofs.Common.{◌≡◌, ℕ, length, Contains, Some}
use Rattle.std.specs.List.{list_any}
use Rattle.std.specs.Prelude.{◌||◌}
use Rattle.slab.specs.Slab.{get}
use Rattle.roll_requests.specs.Slotted.{holds, is_out, is_taken, Guessed}
use Rattle.roll_requests.proofs.job.fill_jobs.Given as goal

-- the jobs that are left are the slab's, and with theirs all slots of the jobs would be taken
abbrev pub invariant-loop-job : goal.invariant-loop-job
invariant-loop-job l = record {
  goes : (goal.iterator-loop-job).can_next l.job-iterator;
  ends : (goal.iterator-loop-job).is_finite l.job-iterator;
  left : (n : ℕ) (job : Guessed) → Contains l.job-iterator (n, job) → get l.jobs n ≡ Some job;
  filled : (k : ℕ) → (is_taken l.slots k || list_any (λ out. holds out.1 k) l.job-iterator) ≡ (is_taken l.fn.slots k || is_out l.jobs k);
  many : length l.slots ≡ length l.fn.slots;
}
