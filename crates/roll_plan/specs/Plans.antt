-- Plans as they were made, and what they claim.
use Rattle.std.specs.Prelude.{◌≡◌, ℕ, ◌+◌, ◌-◌, ◌≤◌, List, ◌++◌, length, map, All, Option}
use Rattle.roll_frame.specs.declared.limits.TheConstants.{FRAME_LIMIT}
use Rattle.roll_frame.specs.Cells.{Rows}
use Rattle.roll_frame.specs.declared.claim.Claim.{Claim}
use Rattle.roll_frame.specs.Claims.{AreRowsOf, claim_of}
use Rattle.roll_frame.specs.Core.{Roll}
use Rattle.roll_frame.specs.Order.{in_order}
use Rattle.roll_frame.specs.Paths.{longest}
use Rattle.roll_tree.specs.SavedStates.{SavedStates, paths_of, time_to}
use Rattle.roll_plan.specs.declared.plan.Plan.{Plan}

-- a roll as a planner sees it, which knows no settled rows: kept paths, in their order, and time from the settled frame on
pub record PlannedRoll : Type 0 where
  pub settled : ℕ
  pub kept : List Rows
  pub time : Rows
  pub from : ℕ

-- the number of players, and the last plan
pub record Planned : Type 0 where
  pub players : ℕ
  pub last : Option PlannedRoll

-- the plan along these rows, from what a tree keeps
abbrev pub planned_roll : {S : Type 0} → SavedStates S → Rows → PlannedRoll
planned_roll t rows = record { settled = t.base; kept = in_order (paths_of t); time = rows; from = t.base + longest (paths_of t) rows }

-- the roll of a plan, on these settled rows
abbrev pub roll_of : Rows → PlannedRoll → Roll
roll_of settled made =
    record {
      from = made.from;
      time = settled ++ made.time;
      settled = made.settled;
      kept = map (λ q. settled ++ q) made.kept;
    }

-- the claim of a plan's roll, whatever the settled rows
abbrev pub IsClaimOf : ℕ → PlannedRoll → Claim → Type 0
IsClaimOf players made claim = (settled : Rows) → length settled ≡ made.settled → claim ≡ claim_of players (roll_of settled made)

-- the numbers of a plan, and its entries: those of its claim
pub record IsPlanOf (players : ℕ) (made : PlannedRoll) (plan : Plan) : Type 0 where
  pub to : plan.to ≡ made.settled + length made.time
  pub from : plan.from ≡ made.from
  pub rerun : plan.rerun ≡ plan.to - plan.from
  pub differs : (settled : Rows) → length settled ≡ made.settled → plan.differs.items ≡ (claim_of players (roll_of settled made)).differs

-- a tree that was told the timeline up to a frame, of which the plan of a roll to there can be made, and its claim
pub record CanPlan {S : Type 0} (players : ℕ) (t : SavedStates S) (to : ℕ) : Type 0 where
  pub base : t.base ≤ FRAME_LIMIT
  pub from : t.base ≤ to
  pub known : to ≤ t.base + length t.time
  pub time : AreRowsOf players (time_to t to)
  pub paths : All (AreRowsOf players) (paths_of t)
