-- Ways from machine to machine, by what a map says of who hears whom straight. A set of machines has a place for each.
use Rattle.std.specs.Prelude.{◌≡◌, ◌≤◌, ◌<◌, ℕ, zero, suc, List, [], ◌∷◌, length, find, map, Bool, true, false, not, ◌&&◌, ◌||◌, Option, slice_index_or}
use Rattle.std.specs.List.{range_with_len}
use Rattle.roll_carry.specs.declared.limits.TheConstants.{BETWEEN_LIMIT}
use Rattle.roll_carry.specs.declared.datagram.Hearing.{Hearing}
use Rattle.roll_mesh.specs.Machines.{at_all, at_places, is_in}
use Rattle.roll_mesh.specs.declared.limits.TheConstants.{MACHINE_LIMIT}

-- what is said of who isn't in a map
abbrev pub deaf : Hearing
deaf = record { hears = []; number = 0 }

abbrev pub hearing_of : List Hearing → ℕ → Hearing
hearing_of lines machine = slice_index_or lines machine deaf

-- whether a machine hears another straight
abbrev pub hears : List Hearing → (machine other : ℕ) → Bool
hears lines machine other = is_in (hearing_of lines machine).hears other

-- a way from one machine to another by those between them, in their order: each hears the one before, and none of them is shut
abbrev pub IsWay : List Hearing → (shut : List Bool) → ℕ → List ℕ → ℕ → Type 0
IsWay lines shut from [] to = hears lines to from ≡ true
IsWay lines shut from (next ∷ more) to =
    (is_in shut next ≡ false) × (hears lines next from ≡ true) × IsWay lines shut next more to

-- from a machine that isn't shut there is a way by so many others at most
abbrev pub HasWay : List Hearing → (shut : List Bool) → (from most to : ℕ) → Type 0
HasWay lines shut from most to =
    (is_in shut from ≡ false) × ((by : List ℕ) × (length by ≤ most) × IsWay lines shut from by to)

-- whether a machine of a set hears another straight
unfoldable pub is_heard_in : List Hearing → List Bool → ℕ → Bool
is_heard_in lines set machine =
    not (at_all (λ other. not (is_in set other && hears lines other machine)) set)

-- whether a machine is of a set, or isn't shut and one of the set hears it
abbrev pub is_near : List Hearing → (shut set : List Bool) → ℕ → Bool
is_near lines shut set machine =
    is_in set machine || (not (is_in shut machine) && is_heard_in lines set machine)

-- whether a machine isn't shut, and another hears it straight
abbrev pub is_heard_by : List Hearing → (shut : List Bool) → (to machine : ℕ) → Bool
is_heard_by lines shut to machine = not (is_in shut machine) && hears lines to machine

-- the machines that aren't shut and have a way to a machine by so many others at most: those that it hears, and so on
unfoldable pub with_way : List Hearing → (shut : List Bool) → (to most : ℕ) → List Bool
with_way lines shut to zero = at_places (is_heard_by lines shut to) shut
with_way lines shut to (suc most) =
    at_places (is_near lines shut (with_way lines shut to most)) (with_way lines shut to most)

-- a map of all machines, and a set of them
pub record IsMap (lines : List Hearing) (shut : List Bool) : Type 0 where
  pub lines_are : length lines ≡ MACHINE_LIMIT
  pub shut_is : length shut ≡ MACHINE_LIMIT

-- the law: they are those from which there is one
abbrev pub WaysAreFound : Type 0
WaysAreFound = (lines : List Hearing) (shut : List Bool) (to most machine : ℕ) → IsMap lines shut
    → machine < MACHINE_LIMIT
    → (is_in (with_way lines shut to most) machine ≡ true → HasWay lines shut machine most to)
    × (HasWay lines shut machine most to → is_in (with_way lines shut to most) machine ≡ true)

-- of each number of machines between: those that have a way to a machine by so many others at most
unfoldable pub ways_to : List Hearing → (shut : List Bool) → (to : ℕ) → List (List Bool)
ways_to lines shut to = map (with_way lines shut to) (range_with_len 0 BETWEEN_LIMIT)

-- by how many others at least a way leads from a machine; none if none does
abbrev pub least_between : (ways : List (List Bool)) → (machine : ℕ) → Option ℕ
least_between ways machine =
    find (λ between. is_in (slice_index_or ways between []) machine) (range_with_len 0 BETWEEN_LIMIT)
