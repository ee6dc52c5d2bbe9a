use Rattle.std.proofs.Common.{◌≡◌, nat_lt}
use Rattle.roll_frame.specs.Settings.{delay_at}
use Rattle.roll_frame.specs.declared.limits.TheConstants.{DELAY_LIMIT}
use Rattle.roll_frame.proofs.Searches.{rest}
use Rattle.roll_frame.proofs.settings.Settings.long_delay.Given as goal

abbrev pub invariant-loop-place : goal.invariant-loop-place
invariant-loop-place l = rest (λ place. nat_lt DELAY_LIMIT (delay_at l.fn.self place)) 0 l.place-end ≡ rest (λ place. nat_lt DELAY_LIMIT (delay_at l.fn.self place)) l.place l.place-end
