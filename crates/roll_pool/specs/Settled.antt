-- What becomes of the jobs of a pool.
use Rattle.std.specs.Prelude.{◌≡◌, ℕ, List, [], ◌∷◌, ◌++◌, map, length, drop}
use Rattle.roll_branch.specs.Routed.{Routed}
use Rattle.roll_branch.specs.declared.branch.Done.{Done}
use Rattle.roll_pool.specs.Dones.{AreResults, ticket_of}
use Rattle.roll_pool.specs.Rule.{SameItems}
use Rattle.roll_pool.specs.Workers.{Seated}

module _ {G S N : Type 0} where
  -- the jobs that were issued are, each once, those whose results were collected, those whose results came late, those that
  -- were withdrawn, and those that are left
  pub record Settles (issued withdrawn : List Routed) (came late : List (Done G S N)) (left : List Routed) : Type 0 where
    pub come : List Routed
    pub belated : List Routed
    pub of_come : AreResults come came
    pub of_belated : AreResults belated late
    pub all : SameItems ((come ++ belated) ++ (withdrawn ++ left)) issued

  -- the numbers of results and jobs
  abbrev pub tickets_of : List (Done G S N) → List Routed → List ℕ
  tickets_of dones jobs = map ticket_of dones ++ map (λ j. j.ticket) jobs

  -- what each end pushed, but for what was collected from it: end by end, in order
  abbrev pub late_of : List (List (Done G S N)) → List (Seated (Done G S N)) → List (Done G S N)
  late_of (came ∷ more) (end ∷ ends) = drop (length came) end.results ++ late_of more ends
  late_of came ends = []

  -- what an end pushed and the owner had not collected is late
  pub record IsLate (came results old new : List (Done G S N)) : Type 0 where
    pub more : List (Done G S N)
    pub all : came ++ more ≡ results
    pub grown : new ≡ old ++ more

  -- with some of the ends taken in: the owner's jobs are, each once, those that were withdrawn, and those of the results that
  -- were collected from these ends and that came late. The results of `rest` were collected from the others
  pub record TakenIn (jobs withdrawn : List Routed) (came rest late : List (Done G S N)) : Type 0 where
    pub come : List Routed
    pub belated : List Routed
    pub first : List (Done G S N)
    pub whole : first ++ rest ≡ came
    pub of_come : AreResults come first
    pub of_belated : AreResults belated late
    pub all : SameItems (withdrawn ++ (come ++ belated)) jobs
