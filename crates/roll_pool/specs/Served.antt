-- What a worker does, turn after turn.
use Rattle.std.specs.Prelude.{◌≡◌, ℕ, true, List, [], ◌∷◌, ◌++◌, length, map}
use Rattle.std.specs.List.{AllZip}
use Rattle.roll_branch.specs.Ends.{Ends, IsAsked, is_grown}
use Rattle.roll_branch.specs.Routed.{Routed}
use Rattle.roll_branch.specs.declared.branch.Done.{Done}
use Rattle.roll_game.specs.declared.counts.Counts.{Counts}
use Rattle.roll_pool.specs.Workers.{Seated}

-- a worker: its end, and what its game was asked for
pub record Member (D : Type 0) : Type 0 where
  pub end : Seated D
  pub counts : Counts

-- a job that was run, how that ended, and what the game was asked for by then
pub record Run (D : Type 0) : Type 0 where
  pub job : Routed
  pub done : D
  pub after : Counts

module _ {G S N : Type 0} where
  -- runs one after another on one game
  abbrev pub AreRuns : Counts → List (Run (Done G S N)) → Counts → Type 0
  AreRuns before [] after = after ≡ before
  AreRuns before (run ∷ more) after = Ends run.job run.done × IsAsked (is_grown run.done) (length run.job.route.rows.items) before run.after × AreRuns run.after more after

  -- at its place, it took these jobs and no others, ran each on its game, and pushed how each ended
  pub record Serves (old new : Member (Done G S N)) : Type 0 where
    pub runs : List (Run (Done G S N))
    pub place : new.end.place ≡ old.end.place
    pub jobs : new.end.jobs ≡ old.end.jobs ++ map (λ run. run.job) runs
    pub results : new.end.results ≡ old.end.results ++ map (λ run. run.done) runs
    pub asked : AreRuns old.counts runs new.counts

  -- it did so until it saw that its pool is closed
  pub record HasServed (old new : Member (Done G S N)) : Type 0 where
    pub serves : Serves old new
    pub stopped : new.end.stopped ≡ true

  -- each worker has served, and these are their ends, and what their games were asked for, in order
  pub record AreBack (crew : List (Member (Done G S N))) (ends : List (Seated (Done G S N))) (counts : List Counts) : Type 0 where
    pub back : List (Member (Done G S N))
    pub served : AllZip HasServed crew back
    pub ends_are : map (λ member. member.end) back ≡ ends
    pub counts_are : map (λ member. member.counts) back ≡ counts
