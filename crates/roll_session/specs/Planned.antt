-- The plan of a roll.
use Rattle.std.specs.Prelude.{◌≡◌, ℕ, ◌-◌}
use Rattle.roll_frame.specs.Claims.{claim_of}
use Rattle.roll_frame.specs.Core.{Roll, end_of}
use Rattle.roll_plan.specs.declared.plan.Plan.{Plan}

-- the numbers of a roll, and the entries of its claim
pub record IsPlanOfRoll (players : ℕ) (roll : Roll) (plan : Plan) : Type 0 where
  pub to : plan.to ≡ end_of roll
  pub from : plan.from ≡ roll.from
  pub rerun : plan.rerun ≡ end_of roll - roll.from
  pub differs : plan.differs.items ≡ (claim_of players roll).differs
