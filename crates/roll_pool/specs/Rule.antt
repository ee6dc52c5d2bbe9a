-- Each job that left the deque is with one pass.
use Rattle.std.specs.Prelude.{◌≡◌, ℕ, ◌+◌, ◌-◌, ◌≤◌, Bool, true, false, List, [], ◌++◌, length, drop}
use Rattle.std.specs.List.{sum_by}
use mathlib.Core.Option.{some}
use lib.ListN.{get_elem?}
use Rattle.roll_pool.specs.declared.rule.Tally.{Tally}

-- the same items, each as often, in any order: they weigh the same, however items are weighed
abbrev pub SameItems : {T : Type 0} → List T → List T → Type 0
SameItems {T} xs ys = (weight : T → ℕ) → sum_by weight xs ≡ sum_by weight ys

module _ {T : Type 0} where
  abbrev pub tally : Bool → List T → ℕ → ℕ → List T → Tally T
  tally owns issued others out jobs = record { owns = owns; issued = issued; others = others; out = out; jobs = jobs }

  -- the owner's pass before any job, a worker's that took these jobs, a worker's before any, and one that was joined
  abbrev pub owner_first : Tally T
  owner_first = tally true [] 0 0 []

  abbrev pub working : List T → Tally T
  working jobs = tally false [] 0 1 jobs

  abbrev pub worker_first : Tally T
  worker_first = working []

  abbrev pub worker_spent : Tally T
  worker_spent = tally false [] 0 0 []

  -- what each step leaves of a pass
  abbrev pub issuing : Tally T → List T → Tally T
  issuing v more = tally v.owns (v.issued ++ more) v.others v.out v.jobs

  abbrev pub taking : Tally T → List T → Tally T
  taking v more = tally v.owns v.issued v.others v.out (v.jobs ++ more)

  abbrev pub counting_out : Tally T → Tally T
  counting_out v = tally v.owns v.issued (v.others + 1) v.out v.jobs

  abbrev pub counting_back : Tally T → Tally T → Tally T
  counting_back v w = tally v.owns v.issued (v.others - 1) v.out (v.jobs ++ w.jobs)

  -- a pass that isn't the owner's has no job unless it is out
  abbrev pub FitsWorker : Tally T → Type 0
  FitsWorker v = v.owns ≡ false → v.out ≡ 0 → v.jobs ≡ []

  -- the owner's pass is at `seat`, and knows the jobs that were issued and how many other passes are out
  abbrev pub FitsOwner : ℕ → List T → ℕ → ℕ → Tally T → Type 0
  FitsOwner seat issued others port v = v.owns ≡ true → (port ≡ seat) × (v.issued ≡ issued) × (v.others ≡ others) × (v.out ≡ 0)

  -- The jobs that were issued are those that left the deque and then those in it, in order. The jobs of all passes together
  -- are those that left, each once
  pub record Shares (jobs : List T) (views : List (Tally T)) : Type 0 where
    pub seat : ℕ
    pub issued : List T
    pub gone : List T
    pub others : ℕ
    pub whole : issued ≡ gone ++ jobs
    pub once : (weight : T → ℕ) → sum_by (λ v. sum_by weight v.jobs) views ≡ sum_by weight gone
    pub outside : sum_by (λ v. v.out) views ≡ others
    pub fits : (port : ℕ) (v : Tally T) → get_elem? views port ≡ some v → FitsWorker v × FitsOwner seat issued others port v

  -- these jobs were issued one after another, and those that the pass has before all of them
  pub record AreLater (v : Tally T) (jobs : List T) : Type 0 where
    pub first : List T
    pub rest : List T
    pub whole : v.issued ≡ first ++ (jobs ++ rest)
    pub earlier : (weight : T → ℕ) → sum_by weight v.jobs ≤ sum_by weight first

  -- where no other pass is out: these jobs come next, after as many of the issued ones as the pass has
  abbrev pub AreNext : Tally T → List T → Type 0
  AreNext v jobs = v.others ≡ 0 → (rest : List T) × (drop (length v.jobs) v.issued ≡ jobs ++ rest)

  -- where no other pass is out, the owner has all jobs
  abbrev pub HasAll : Tally T → Type 0
  HasAll v = v.others ≡ 0 → SameItems v.jobs v.issued
