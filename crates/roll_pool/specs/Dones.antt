-- How the runs of jobs end, job by job.
use Rattle.std.specs.Prelude.{ℕ, List}
use Rattle.std.specs.List.{AllZip}
use Rattle.roll_branch.specs.Ends.{Ends}
use Rattle.roll_branch.specs.Routed.{Routed}
use Rattle.roll_branch.specs.declared.branch.Done.{Done}
use Rattle.roll_branch.specs.declared.branch.Done.TheVariants.{Grown, Refused}

module _ {G S N : Type 0} where
  -- the job's ticket
  abbrev pub ticket_of : Done G S N → ℕ
  ticket_of (Grown branch) = branch.ticket
  ticket_of (Refused ticket) = ticket

  -- one result for each job, in the same order, which says how that job ended
  abbrev pub AreResults : List Routed → List (Done G S N) → Type 0
  AreResults jobs dones = AllZip Ends jobs dones
