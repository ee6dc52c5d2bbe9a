-- One of the jobs that were issued is withdrawn.
use Rattle.std.proofs.Common.{◌≡◌, ℕ, zero, suc, true, ◌+◌, ◌-◌, ◌≤◌, ◌<◌, List, [], ◌∷◌, ◌++◌, map, length, sum_by, sym, refl, ap, ◌∙◌, length-append, arith, get_or, slice_get, Some}
use Rattle.std.specs.List.{All, range_with_len}
use Rattle.std.proofs.lemmas.List.Sums.{sum_by-cons}
use Rattle.roll_branch.specs.Routed.{Routed}
use Rattle.roll_pool.specs.declared.rule.Tally.{Tally}
use Rattle.roll_pool.specs.Rule.{AreLater}

abbrev numbers : List Routed → List ℕ
numbers jobs = map (λ j. j.ticket) jobs

-- how far a job's number is beyond those below n
abbrev beyond : ℕ → Routed → ℕ
beyond n j = j.ticket + 1 - n

number_at : (a n : ℕ) (first : List Routed) (job : Routed) (rest : List Routed) → numbers (first ++ job ∷ rest) ≡ range_with_len a n → job.ticket ≡ a + length first
number_at a zero [] job rest is = absurd (let e = ap length is in omega arith)
number_at a (suc n) [] job rest is = let e : job.ticket ≡ a = cc in omega arith
number_at a zero (x ∷ first) job rest is = absurd (let e = ap length is in omega arith)
number_at a (suc n) (x ∷ first) job rest is = let e : numbers (first ++ job ∷ rest) ≡ range_with_len (a + 1) n = cc in omega (arith, number_at (a + 1) n first job rest e)

none_beyond : (a n k : ℕ) (first rest : List Routed) → numbers (first ++ rest) ≡ range_with_len a n → a + length first ≤ k → sum_by (beyond k) first ≡ 0
none_beyond a n k [] rest is few = refl
none_beyond a zero k (x ∷ first) rest is few = absurd (let e = ap length is in omega arith)
none_beyond a (suc n) k (x ∷ first) rest is few =
    let e : x.ticket ≡ a = cc in
    let t : numbers (first ++ rest) ≡ range_with_len (a + 1) n = cc in
    omega (arith, sum_by-cons (beyond k) x first, none_beyond (a + 1) n k first rest t (omega arith))

all_below : (n : ℕ) (jobs : List Routed) → sum_by (beyond n) jobs ≡ 0 → (k : ℕ) (d : Routed) → k < length jobs → (get_or jobs k d).ticket < n
all_below n [] none k d within = absurd (omega arith)
all_below n (x ∷ jobs) none zero d within = omega (arith, sum_by-cons (beyond n) x jobs)
all_below n (x ∷ jobs) none (suc k) d within = all_below n jobs (omega (arith, sum_by-cons (beyond n) x jobs)) k d (omega arith)

get_seam : {T : Type 0} (first : List T) (x : T) (rest : List T) → slice_get (first ++ x ∷ rest) (length first) ≡ Some x
get_seam [] x rest = refl
get_seam (y ∷ first) x rest = get_seam first x rest

-- it is the one of its number, and those that were withdrawn before have lower ones
pub next_is : (v : Tally Routed) (job : Routed) (issued : ℕ) → AreLater v (job ∷ []) → numbers v.issued ≡ range_with_len 0 issued → (slice_get v.issued job.ticket ≡ Some job) × All (λ earlier. earlier.ticket < job.ticket) v.jobs
next_is v job issued later numbered =
    let placed : numbers (later.first ++ job ∷ later.rest) ≡ range_with_len 0 issued = ap numbers (sym later.whole) ∙ numbered in
    let number : job.ticket ≡ length later.first = omega (arith, number_at 0 issued later.first job later.rest placed) in (
      ap (slice_get v.issued) number ∙ ap (λ l. slice_get l (length later.first)) later.whole ∙ get_seam later.first job later.rest,
      all_below job.ticket v.jobs (omega (arith, later.earlier (beyond job.ticket), none_beyond 0 issued job.ticket later.first (job ∷ later.rest) placed (omega arith))),
    )
