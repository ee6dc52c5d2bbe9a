-- Moments: numbers of 32 bits that begin anew after 2^32; and counts that don't.
use Rattle.std.specs.Prelude.{ℕ, ◌+◌, ◌-◌, ◌%◌, ◌^◌, min, nat_lt, Some, None, if◌then◌else◌}
use Rattle.std.specs.Option.{option_map_or}
use Rattle.roll_contact.specs.declared.clock.Clock.{Clock}
use Rattle.roll_contact.specs.declared.clock.TheConstants.{AHEAD}

-- from one moment to another, forwards
abbrev pub difference : ℕ → ℕ → ℕ
difference now moment = (now + (2 ^ 32 - moment)) % 2 ^ 32

-- how long ago a moment was: not at all, if it is still to come
abbrev pub since : ℕ → ℕ → ℕ
since now moment = if nat_lt (difference now moment) AHEAD then difference now moment else 0

-- a count after one more, held to what 32 bits have room for
abbrev pub one_more : ℕ → ℕ
one_more count = min (count + 1) (2 ^ 32 - 1)

-- a clock that was never read
abbrev pub first_clock : ℕ → Clock
first_clock moment = record { moment = moment; last = None }

-- it goes on by what passed on the program's clock, and stands while that goes back
abbrev pub ticked : ℕ → Clock → Clock
ticked now clock = record {
  moment = (clock.moment + option_map_or (λ last. since now last) clock.last 0) % 2 ^ 32;
  last = Some now;
}
