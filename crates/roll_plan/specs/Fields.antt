-- What the fields of a planner keep. No public clause cites this module.
use Rattle.std.specs.Prelude.{◌≡◌, ℕ, ◌+◌, ◌-◌, ◌≤◌, take, [], length, All, true, vec_capacity, Some, None, if◌then◌else◌}
use Rattle.roll_frame.specs.declared.limits.TheConstants.{FRAME_LIMIT, PATH_LIMIT, PLAYER_LIMIT, TREE_LIMIT}
use Rattle.roll_frame.specs.Claims.{AreRowsOf}
use Rattle.roll_frame.specs.Order.{in_order}
use Rattle.roll_frame.specs.Paths.{contains, longest}
use Rattle.roll_frame.specs.Cells.{Rows}
use Rattle.roll_plan.specs.Spelled.{all_paths, spelled}
use Rattle.roll_plan.specs.Plans.{PlannedRoll, Planned, IsPlanOf}
use Rattle.roll_plan.specs.declared.planner.Planner.TheInside.{Inside}

-- the rows that lead to where the plan starts
abbrev pub way_in : Inside → Rows
way_in p = take (p.plan.from - p.base) p.time.items

abbrev pub planned_in : Inside → PlannedRoll
planned_in p = record { settled = p.base; kept = in_order (all_paths (way_in p) p.on_way p.taken.items); time = p.time.items; from = p.plan.from }

abbrev pub planned_of : Inside → Planned
planned_of p = record { players = p.players; last = if p.is_made then Some (planned_in p) else None }

-- a claim can be made of a plan: the start is the longest kept path along its rows
pub record IsFit (players : ℕ) (made : PlannedRoll) : Type 0 where
  pub some : 1 ≤ players
  pub few : players ≤ PLAYER_LIMIT
  pub base : made.settled ≤ FRAME_LIMIT
  pub short : length made.time ≤ PATH_LIMIT
  pub time : AreRowsOf players made.time
  pub paths : All (AreRowsOf players) made.kept
  pub root : contains made.kept [] ≡ true
  pub from_is : made.from ≡ made.settled + longest made.kept made.time
  pub ordered : in_order made.kept ≡ made.kept

-- the fields are those of the last plan
pub record IsLast (p : Inside) : Type 0 where
  pub fit : IsFit p.players (planned_in p)
  pub plan : IsPlanOf p.players (planned_in p) p.plan
  pub on_way : p.on_way ≤ length (way_in p) + 1
  pub few : length p.taken.items ≤ TREE_LIMIT
  pub paths : All (λ path. length path ≤ PATH_LIMIT) (spelled (way_in p) p.taken.items)

pub record IsPlanner (p : Inside) : Type 0 where
  pub some : 1 ≤ p.players
  pub few : p.players ≤ PLAYER_LIMIT
  pub room : TREE_LIMIT ≤ vec_capacity p.taken
  pub ranks : TREE_LIMIT ≤ vec_capacity p.ranked
  pub space : TREE_LIMIT ≤ vec_capacity p.plan.differs
  pub last : p.is_made ≡ true → IsLast p
