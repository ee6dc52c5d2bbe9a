use Rattle.roll_member.proofs.Behind.{settles_no_more}
use Rattle.roll_member.proofs.laws.nothing_past_it_is_settled.Goals as goal

pub returns : goal.returns
returns c = λ s mesh count tied b. settles_no_more s mesh count tied b
