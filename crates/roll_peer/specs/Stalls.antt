-- For how long a machine has held up the match.
use Rattle.std.specs.Prelude.{ℕ, Bool, true, false, not, ◌&&◌, ◌==◌, nat_le, nat_lt, Option, Some, None, if◌then◌else◌}
use Rattle.roll_contact.specs.Clocks.{since}
use Rattle.roll_peer.specs.declared.stall.Stall.{Stall}
use Rattle.roll_peer.specs.declared.stall.Wait.{Wait}
use Rattle.roll_peer.specs.declared.stall.Wait.TheVariants.{Coming, Giving, Taking}
use Rattle.roll_peer.specs.declared.stall.TheConstants.{LEAP}

abbrev pub first_stall : Stall
first_stall = record { wait = None; since = 0; seen = 0; told = false; missed = false; begun = false; came = false }

-- whether two waits are for the same
abbrev pub same_wait : Wait → Wait → Bool
same_wait Coming Coming = true
same_wait Coming (Giving n) = false
same_wait Coming (Taking n) = false
same_wait (Giving n) Coming = false
same_wait (Giving n) (Giving k) = n == k
same_wait (Giving n) (Taking k) = false
same_wait (Taking n) Coming = false
same_wait (Taking n) (Giving k) = false
same_wait (Taking n) (Taking k) = n == k

abbrev pub is_kept : Option Wait → Option Wait → Bool
is_kept None before = false
is_kept (Some wait) None = false
is_kept (Some wait) (Some before) = same_wait wait before

-- whether it is waited for the same as when it was looked at last, which was just now
abbrev pub goes_on : Option Wait → ℕ → Stall → Bool
goes_on wait now stall = is_kept wait stall.wait && nat_le (since now stall.seen) LEAP

-- it is counted anew once something else is waited for, while nothing is, and after a leap of the clock
abbrev pub watched : Option Wait → ℕ → Stall → Stall
watched wait now stall =
    if goes_on wait now stall then record stall { seen = now }
    else record stall { wait = wait; since = now; seen = now; told = false }

-- whether it is waited for that it takes words
abbrev pub is_taking : Option Wait → Bool
is_taking None = false
is_taking (Some Coming) = false
is_taking (Some (Giving n)) = false
is_taking (Some (Taking n)) = true

abbrev pub held_for : Stall → ℕ → ℕ
held_for stall now = since now stall.since

abbrev pub is_to_tell : Stall → ℕ → ℕ → Bool
is_to_tell stall now notify_after =
    nat_lt 0 notify_after && (not stall.told && nat_lt notify_after (held_for stall now))

abbrev pub is_overdue : Stall → ℕ → ℕ → Bool
is_overdue stall now limit = nat_lt 0 limit && nat_lt limit (held_for stall now)
