-- Why a call is declined.
use Rattle.roll_frame.specs.declared.refusal.Refusal.{Refusal}
use Rattle.roll_frame.specs.declared.refusal.Refusal.TheVariants.{NoMemory}
use Rattle.roll_requests.specs.declared.declined.Declined.{Declined}
use Rattle.roll_requests.specs.declared.declined.Declined.TheVariants.{Refused, NoSlots}

-- what a caller is told who knows refusals alone
abbrev pub refusal_of : Declined → Refusal
refusal_of (Refused why) = why
refusal_of NoSlots = NoMemory
