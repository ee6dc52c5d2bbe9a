-- What a contract sees of a worker's end.
use Rattle.std.specs.Prelude.{◌≡◌, ◌≤◌, ◌+◌, ℕ, Bool, false, List, [], length}
use Rattle.roll_branch.specs.Routed.{Routed}
use Rattle.roll_branch.specs.declared.branch.Done.{Done}
use Rattle.roll_pool.specs.Rule.{working}
use Rattle.roll_pool.specs.Dones.{AreResults}
use Rattle.roll_pool.specs.Rings.{Place}
use Rattle.roll_pool.specs.declared.rule.Tally.{Tally}
use Rattle.roll_pool.specs.declared.results.TheConstants.{RESULT_PLACES}

-- its place in a pool, the jobs that it took and the results that it pushed, in order, and whether it has seen its pool closed
pub record Seated (D : Type 0) : Type 0 where
  pub place : Place
  pub jobs : List Routed
  pub results : List D
  pub stopped : Bool

module _ {G S N : Type 0} where
  -- an end's pass is one of its deque and knows the jobs that the end took; each of these has its result; the ring has 16 places
  pub record IsSound (OfDeque : Type 0) (pass : Tally Routed) (results : List (Done G S N)) (free : ℕ) : Type 0 where
    pub of_deque : OfDeque
    pub out : pass ≡ working pass.jobs
    pub told : AreResults pass.jobs results
    pub room : RESULT_PLACES ≤ free + length results

-- the end at this place, before its first turn
abbrev pub fresh : {D : Type 0} → Place → Seated D
fresh place = record { place = place; jobs = []; results = []; stopped = false }
