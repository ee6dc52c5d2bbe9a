-- How the run of a job ends.
use Rattle.std.specs.Prelude.{◌≡◌, ◌<◌, ℕ, Bool, true, false}
use Rattle.roll_game.specs.Counts.{IsRefusedAt, rolled}
use Rattle.roll_game.specs.declared.counts.Counts.{Counts}
use Rattle.roll_branch.specs.Routed.{Routed}
use Rattle.roll_branch.specs.declared.branch.Done.{Done}
use Rattle.roll_branch.specs.declared.branch.Done.TheVariants.{Grown, Refused}

module _ {G S N : Type 0} where
  -- the job's branch, or its ticket
  abbrev pub Ends : Routed → Done G S N → Type 0
  Ends job (Grown branch) = branch ≡ job
  Ends job (Refused ticket) = ticket ≡ job.ticket

  abbrev pub is_grown : Done G S N → Bool
  is_grown (Grown branch) = true
  is_grown (Refused ticket) = false

-- what the run of so many rows asks of a game: one load, and an advance and a save for each row; and the same up to the
-- call that was refused, where one was
abbrev pub IsAsked : Bool → ℕ → Counts → Counts → Type 0
IsAsked true count old new = new ≡ rolled count old
IsAsked false count old new = (made : ℕ) × (made < count) × IsRefusedAt made old new
