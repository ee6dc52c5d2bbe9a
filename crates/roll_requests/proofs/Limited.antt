-- How many jobs are out, and how many slots they have.
use Rattle.std.proofs.Common.{◌≡◌, ℕ, ◌+◌, ◌*◌, ◌<◌, ◌≤◌, List, [], ◌∷◌, length, get_or, ap, arith, Option, Some, None}
use Rattle.std.specs.Prelude.{All, IfNone, OnSome, count_by, is_some, sum_by}
use Rattle.std.proofs.lemmas.List.{get_or_default}
use Rattle.std.proofs.lemmas.List.Elements.{All-head, All-tail}
use Rattle.std.proofs.lemmas.List.Sums.{sum_by-cons}
use Rattle.slab.specs.Slab.{Slab, entries, slab_len, Updates}
use Rattle.slab.proofs.SlabLemmas.{length-entries, Contains-entries}
use Rattle.roll_frame.specs.declared.limits.TheConstants.{BRANCH_LIMIT}
use Rattle.roll_laws.proofs.Starts.{few_kept}
use Rattle.roll_session.specs.Gameless.{still}
use Rattle.roll_session.specs.Seen.{FollowsLog}
use Rattle.roll_requests.specs.Asked.{Asked}
use Rattle.roll_requests.specs.Slotted.{AreLimited, Guessed}
use Rattle.roll_requests.specs.Sufficing.{most_slots}
use Rattle.roll_requests.specs.declared.job.TheConstants.{JOBS_OUT}
use Rattle.roll_requests.specs.declared.limits.TheConstants.{SLOTS}
use Rattle.roll_requests.proofs.Leads.{no_job}
use Rattle.roll_requests.proofs.Numbering.{job_more}
use Rattle.roll_requests.proofs.Owning.{jobs_left}

-- none is out at first
pub first_limited : (jobs : Slab Guessed) → jobs.slots ≡ [] → AreLimited SLOTS jobs
first_limited jobs none = record {
  slots = omega arith;
  out = omega (arith, ap (count_by is_some) none);
  rows = λ n job there. absurd (no_job jobs n job none there);
}

-- one may be left out
pub limited_left : (result : Option Guessed) (limit key : ℕ) (old new : Slab Guessed) → Updates old new key None → OnSome result (slab_len new + 1 ≡ slab_len old) → IfNone result (new ≡ old) → AreLimited limit old → AreLimited limit new
limited_left result limit key old new u fewer same a = record {
  slots = a.slots;
  out = fits result fewer same;
  rows = λ n job there. a.rows n job (jobs_left old new key u n job there);
}
  where
    fits : (removed : Option Guessed) → OnSome removed (slab_len new + 1 ≡ slab_len old) → IfNone removed (new ≡ old) → slab_len new ≤ JOBS_OUT
    fits None f s = omega (arith, ap slab_len s, a.out)
    fits (Some job) f s = omega (arith, f, a.out)

-- or one more is out
pub limited_more : (limit n : ℕ) (old new : Slab Guessed) (job : Guessed) → Updates old new n (Some job) → slab_len new ≡ slab_len old + 1 → slab_len old < JOBS_OUT → length job.slots ≤ BRANCH_LIMIT → AreLimited limit old → AreLimited limit new
limited_more limit n old new job u more few short a = record {
  slots = a.slots;
  out = omega (arith, more, few);
  rows = job_more old new n job u (λ other. length other.slots ≤ BRANCH_LIMIT) short a.rows;
}

-- each has one slot more than a branch has rows at most
few_rows : (out : List (ℕ × Guessed)) → All (λ o. length o.1.slots ≤ BRANCH_LIMIT) out → sum_by (λ o. length o.1.slots + 1) out ≤ 9 * length out
few_rows [] all = omega arith
few_rows (o ∷ os) all =
    let first : length o.1.slots ≤ BRANCH_LIMIT = All-head (λ (x : ℕ × Guessed). length x.1.slots ≤ BRANCH_LIMIT) o os all in
    let rest = few_rows os (All-tail (λ (x : ℕ × Guessed). length x.1.slots ≤ BRANCH_LIMIT) o os all) in
    omega (arith, first, rest, sum_by-cons (λ (x : ℕ × Guessed). length x.1.slots + 1) o os)

-- so there are as many slots as can be needed at once
pub most_are_there : (e : Asked) → FollowsLog still e.seen → AreLimited e.limit e.jobs → most_slots e ≤ SLOTS
most_are_there e f a =
    let out : List (ℕ × Guessed) = entries e.jobs in
    let short : All (λ (o : ℕ × Guessed). length o.1.slots ≤ BRANCH_LIMIT) out = λ k d few.
    let o : ℕ × Guessed = get_or out k d in
    a.rows o.0 o.1 ((Contains-entries e.jobs o.0 o.1).0 (k, few, get_or_default out k o d few)) in
    omega (arith, few_rows out short, length-entries e.jobs, a.out, few_kept e.seen.settings f.log.starts)
