-- What a turn of a worker does.
use Rattle.std.specs.Prelude.{◌≡◌, ◌≤◌, ℕ, true, [], ◌∷◌, ◌++◌, length}
use Rattle.roll_branch.specs.Ends.{Ends, IsAsked, is_grown}
use Rattle.roll_branch.specs.Routed.{Routed}
use Rattle.roll_branch.specs.declared.branch.Done.{Done}
use Rattle.roll_game.specs.declared.counts.Counts.{Counts}
use Rattle.roll_pool.specs.Workers.{Seated}
use Rattle.roll_pool.specs.declared.results.TheConstants.{RESULT_PLACES}
use Rattle.roll_pool.specs.declared.worker.Worked.{Worked}
use Rattle.roll_pool.specs.declared.worker.Worked.TheVariants.{Did, Empty, RingFull, Closed}

module _ {G S N : Type 0} where
  -- it took the job of this number and no other, ran it on the game, and pushed how it ended
  pub record DidOne (ticket : ℕ) (old new : Seated (Done G S N)) (before after : Counts) : Type 0 where
    pub job : Routed
    pub done : Done G S N
    pub number : job.ticket ≡ ticket
    pub taken : new ≡ record old { jobs = old.jobs ++ job ∷ []; results = old.results ++ done ∷ [] }
    pub ends : Ends job done
    pub asked : IsAsked (is_grown done) (length job.route.rows.items) before after

  -- it took no job, pushed nothing, and left the game alone
  pub record DidNone (old new : Seated (Done G S N)) (before after : Counts) : Type 0 where
    pub same : new ≡ old
    pub counts : after ≡ before

  -- it saw that its pool is closed
  pub record Stops (old new : Seated (Done G S N)) (before after : Counts) : Type 0 where
    pub stopped : new ≡ record old { stopped = true }
    pub counts : after ≡ before

  -- what each answer says
  abbrev pub Works : Worked → Seated (Done G S N) → Seated (Done G S N) → Counts → Counts → Type 0
  Works (Did ticket) old new before after = DidOne ticket old new before after
  Works Empty old new before after = DidNone old new before after
  Works RingFull old new before after = DidNone old new before after × (RESULT_PLACES ≤ length old.results)
  Works Closed old new before after = Stops old new before after
