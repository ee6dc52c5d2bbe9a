-- How the machines of an epoch sit in a match.
use Rattle.std.specs.Prelude.{ℕ, zero, suc, ◌+◌, ◌==◌, List, max, nat_lt, Option, if◌then◌else◌, unwrap_or}
use Rattle.roll_mesh.specs.declared.limits.TheConstants.{MACHINE_LIMIT}
use Rattle.roll_epoch.specs.Ends.{owner_of}
use Rattle.roll_epoch.specs.Successions.{each_player, free_seat}
use Rattle.roll_epoch.specs.declared.limits.TheConstants.{FREE}

-- the lowest number of a machine that nobody has: nobody sits there
abbrev pub absent : List ℕ → Option ℕ
absent owners = free_seat owners

-- who owns a player where that machine has the free ones
abbrev pub owner_or_absent : Option ℕ → (owner : ℕ) → ℕ
owner_or_absent absent owner = if owner == FREE then unwrap_or absent FREE else owner

unfoldable pub owners_with_absent : List ℕ → List ℕ
owners_with_absent owners = each_player (λ p. owner_or_absent (absent owners) (owner_of owners p))

-- one more than a machine's number; of a number that no machine has 0
abbrev pub behind : (owner : ℕ) → ℕ
behind owner = if nat_lt owner MACHINE_LIMIT then owner + 1 else 0

-- one more than the greatest number of a machine that owns one of the first players, and 2 at least
abbrev pub machines_to : List ℕ → (players : ℕ) → ℕ
machines_to owners zero = 2
machines_to owners (suc p) = max (machines_to owners p) (behind (owner_of owners p))
