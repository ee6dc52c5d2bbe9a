use Rattle.std.proofs.Common.{◌≡◌, not, ◌&&◌, nat_lt}
use Rattle.roll_frame.specs.Settings.{delay_at, is_local}
use Rattle.roll_frame.proofs.Searches.{rest}
use Rattle.roll_frame.proofs.settings.Settings.remote_delay.Given as goal

abbrev pub invariant-loop-place : goal.invariant-loop-place
invariant-loop-place l = rest (λ place. not (is_local l.fn.self place) && nat_lt 0 (delay_at l.fn.self place)) 0 l.place-end ≡ rest (λ place. not (is_local l.fn.self place) && nat_lt 0 (delay_at l.fn.self place)) l.place l.place-end
