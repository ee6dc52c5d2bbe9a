-- What a machine carries for others, and has carried by others.
use Rattle.std.specs.Prelude.{ℕ, ◌+◌, ◌-◌, ◌/◌, ◌%◌, ◌^◌, List, [], count_by, find, length, replicate, Bool, true, false, not, ◌&&◌, ◌||◌, ◌==◌, nat_le, nat_lt, is_some, Option, Some, None, option_map, if◌then◌else◌, slice_index_or, slice_set}
use Rattle.std.specs.List.{filter, list_any, range_with_len, slice_get}
use Rattle.roll_mesh.specs.Machines.{at_places, is_in}
use Rattle.roll_mesh.specs.declared.limits.TheConstants.{MACHINE_LIMIT}
use Rattle.roll_carry.specs.Mapping.{first_map, is_whole_line, looked, shows}
use Rattle.roll_carry.specs.Spelling.{maker_of, ParcelValue}
use Rattle.roll_carry.specs.Waiting.{has_place, lane_of, waiting_with, without_first, Lane}
use Rattle.roll_carry.specs.Ways.{least_between, ways_to}
use Rattle.roll_carry.specs.declared.limits.TheConstants.{PASS_OVER, STEP_LIMIT, STRAIGHT_AT, STRAIGHT_EVERY, TELL_EVERY}
use Rattle.roll_carry.specs.declared.map.LineMap.{LineMap}

-- the map; how many turns there were; the machines to which the map goes in this turn; how many datagrams of each machine were given
-- to a carrier, for each receiver; and what waits to be sent
pub record Carrying : Type 0 where
  pub map : LineMap
  pub turns : ℕ
  pub owed : List Bool
  pub given : List (List ℕ)
  pub lanes : List Lane

-- with fewer than three machines nobody can carry, so nothing waits
abbrev pub lane_count : (machines : ℕ) → ℕ
lane_count machines = if nat_lt 2 machines then MACHINE_LIMIT else 0

abbrev pub opened_carrying : (me machines : ℕ) → Carrying
opened_carrying me machines = record {
  map = first_map me machines;
  turns = 0;
  owed = replicate MACHINE_LIMIT false;
  given = replicate MACHINE_LIMIT (replicate MACHINE_LIMIT 0);
  lanes = replicate (lane_count machines) [];
}

-- whether the map goes to a machine in a turn: in each after something changed, and in one of so many; where others can carry
abbrev pub is_owed : LineMap → (turns machine : ℕ) → Bool
is_owed lines turns machine =
    nat_lt 2 lines.machines
    && (nat_lt machine lines.machines
    && (not (machine == lines.me)
    && (nat_lt 0 lines.telling || ((turns + lines.me) % TELL_EVERY == 0))))

abbrev pub all_owed : LineMap → (turns : ℕ) → List Bool
all_owed lines turns = at_places (is_owed lines turns) (replicate MACHINE_LIMIT false)

-- one turn later
abbrev pub turned : (now : ℕ) → Carrying → Carrying
turned now here = record here {
  map = looked now here.map;
  turns = (here.turns + 1) % 2 ^ 32;
  owed = all_owed (looked now here.map) ((here.turns + 1) % 2 ^ 32);
}

-- the first machine of these to which the map is still to go
abbrev pub first_owed : Carrying → (ready : List Bool) → Option ℕ
first_owed here ready =
    slice_get (filter (λ machine. is_in ready machine && is_in here.owed machine) (range_with_len 0 MACHINE_LIMIT)) 0

-- it went there
abbrev pub after_told : Carrying → Option ℕ → Carrying
after_told here None = here
after_told here (Some machine) = record here { owed = slice_set here.owed machine false }

-- ---- by whom something is carried

-- whether nothing goes by a machine: it is shut, this one, the one that made the datagram, or no machine of the match
abbrev pub is_closed : Carrying → (maker : ℕ) → (shut : List Bool) → (machine : ℕ) → Bool
is_closed here maker shut machine =
    is_in shut machine || ((machine == here.map.me) || ((machine == maker) || nat_le here.map.machines machine))

-- the ways to a machine, by machines by which something goes
abbrev pub open_ways : Carrying → (maker : ℕ) → (shut : List Bool) → (to : ℕ) → List (List Bool)
open_ways here maker shut to =
    ways_to here.map.lines (at_places (is_closed here maker shut) shut) to

-- in how many steps a machine hands on what one made for another; none if it doesn't. The receiver itself gets in none what another
-- than this machine made
unfoldable pub steps_by : Carrying → (maker : ℕ) → (shut : List Bool) → (ways : List (List Bool)) → (to machine : ℕ) → Option ℕ
steps_by here maker shut ways to machine =
    if not (shows here.map machine here.map.me) then None
    else (if machine == to
    then (if (maker == here.map.me) || is_in shut to then None else Some 0)
    else option_map (λ between. between + 1) (least_between ways machine))

-- the steps of each machine: those that have some are the carriers of what one made for another
unfoldable pub carriers : Carrying → (maker : ℕ) → (shut : List Bool) → (to : ℕ) → List (Option ℕ)
carriers here maker shut to =
    at_places (steps_by here maker shut (open_ways here maker shut to) to) shut

abbrev pub steps_of : List (Option ℕ) → ℕ → Option ℕ
steps_of carriers machine = slice_index_or carriers machine None

-- whether one carrier comes before another: it has fewer steps, or as many and the lower number
abbrev pub precedes : (one other : Option ℕ) → (is_lower : Bool) → Bool
precedes None other is_lower = false
precedes (Some steps) None is_lower = true
precedes (Some steps) (Some others) is_lower =
    nat_lt steps others || ((steps == others) && is_lower)

-- how many carriers come before a machine
abbrev pub rank : List (Option ℕ) → ℕ → ℕ
rank carriers machine =
    count_by (λ other. precedes (steps_of carriers other) (steps_of carriers machine) (nat_lt other machine))
    (range_with_len 0 MACHINE_LIMIT)

abbrev pub carrier_count : List (Option ℕ) → ℕ
carrier_count carriers =
    count_by (λ machine. is_some (steps_of carriers machine)) (range_with_len 0 MACHINE_LIMIT)

-- the carrier before which so many come
abbrev pub carrier_at : List (Option ℕ) → (place : ℕ) → Option ℕ
carrier_at carriers place =
    find (λ machine. is_some (steps_of carriers machine) && (rank carriers machine == place))
    (range_with_len 0 MACHINE_LIMIT)

-- how many datagrams that one machine made for another were given to carriers
abbrev pub given_of : Carrying → (maker to : ℕ) → ℕ
given_of here maker to = slice_index_or (slice_index_or here.given to []) maker 0

-- of datagrams the carriers get one after another, and after each so many of them one carrier is passed over
abbrev pub in_turn : (given count : ℕ) → ℕ
in_turn given count = (given + given / PASS_OVER) % count

abbrev pub chosen : List (Option ℕ) → (given : ℕ) → Option ℕ
chosen carriers given =
    if carrier_count carriers == 0 then None
    else carrier_at carriers (in_turn given (carrier_count carriers))

-- who gets next what one machine made for another
abbrev pub carrier_for : Carrying → (maker : ℕ) → (shut : List Bool) → (to : ℕ) → Option ℕ
carrier_for here maker shut to = chosen (carriers here maker shut to) (given_of here maker to)

-- one more was given
abbrev pub counted : Carrying → (maker to : ℕ) → Carrying
counted here maker to = record here {
  given = slice_set here.given to
      (slice_set (slice_index_or here.given to []) maker ((given_of here maker to + 1) % 2 ^ 32));
}

-- a parcel waits for a machine
abbrev pub waiting_for : Carrying → (hop : ℕ) → ParcelValue → Carrying
waiting_for here hop parcel = record here { lanes = waiting_with here.map.machines here.lanes hop parcel }

-- a parcel waits for its carrier, if there is one
abbrev pub carried : Carrying → (maker : ℕ) → Option ℕ → ParcelValue → Carrying
carried here maker None parcel = here
carried here maker (Some hop) parcel = waiting_for (counted here maker parcel.to) hop parcel

-- ---- what this machine sends

-- a datagram of its own, for which so many machines may be between
abbrev pub own_parcel : (to steps : ℕ) → (tail : List ℕ) → ParcelValue
own_parcel to steps tail = record { to = to; steps = steps; tail = tail }

-- it is carried if its line isn't whole
abbrev pub after_carried : Carrying → (shut : List Bool) → (to : ℕ) → (tail : List ℕ) → Carrying
after_carried here shut to tail =
    if is_whole_line here.map to then here
    else carried here here.map.me (carrier_for here here.map.me shut to) (own_parcel to STEP_LIMIT tail)

-- whether it goes straight in this turn: where the other hears this machine, or nobody carries; else in one turn of so many
abbrev pub is_straight_due : Carrying → (shut : List Bool) → (to : ℕ) → Bool
is_straight_due here shut to =
    shows here.map to here.map.me
    || (((here.turns + here.map.me) % STRAIGHT_EVERY == STRAIGHT_AT)
    || not (is_some (carrier_for here here.map.me shut to)))

-- whether the line to a machine is broken with which this one carries
abbrev pub is_broken : Carrying → (shut : List Bool) → (machine : ℕ) → Bool
is_broken here shut machine =
    not (machine == here.map.me) && (not (is_in shut machine) && not (is_whole_line here.map machine))

-- whether some line is
abbrev pub has_broken_line : Carrying → (shut : List Bool) → Bool
has_broken_line here shut = list_any (is_broken here shut) (range_with_len 0 here.map.machines)

-- whether something may wait for a machine with which what goes straight can go: some waits, or a line of this machine is broken
abbrev pub has_company : Carrying → (shut : List Bool) → (to : ℕ) → Bool
has_company here shut to = nat_lt 0 (length (lane_of here.lanes to)) || has_broken_line here shut

-- whether what goes straight to a machine waits with what is carried to it, and doesn't go out at once
abbrev pub joins : Carrying → (shut : List Bool) → (to : ℕ) → (tail : List ℕ) → Bool
joins here shut to tail =
    not (is_in shut to)
    && (has_company here shut to
    && (nat_lt to (length here.lanes) && has_place here.map.machines (lane_of here.lanes to) (own_parcel to 0 tail)))

abbrev pub after_joined : Carrying → (shut : List Bool) → (to : ℕ) → (tail : List ℕ) → Carrying
after_joined here shut to tail =
    if joins here shut to tail then waiting_for here to (own_parcel to 0 tail) else here

-- a datagram of this machine is to go to another: it is carried if the line isn't whole, and if it is to go straight in this turn, it
-- waits or goes out at once
abbrev pub after_sent : Carrying → (shut : List Bool) → (to : ℕ) → (tail : List ℕ) → Carrying
after_sent here shut to tail =
    if is_straight_due here shut to then after_joined (after_carried here shut to tail) shut to tail
    else after_carried here shut to tail

abbrev pub goes_at_once : Carrying → (shut : List Bool) → (to : ℕ) → (tail : List ℕ) → Bool
goes_at_once here shut to tail =
    is_straight_due here shut to && not (joins (after_carried here shut to tail) shut to tail)

-- ---- what it hands on

-- whether a parcel is for another machine of the match, and was made by a third one, and has steps left
abbrev pub is_for_another : Carrying → ParcelValue → Bool
is_for_another here parcel =
    nat_lt 0 parcel.steps
    && (nat_le parcel.steps STEP_LIMIT
    && (nat_lt parcel.to here.map.machines
    && (not (parcel.to == here.map.me)
    && (nat_lt (maker_of parcel) here.map.machines
    && (not (maker_of parcel == here.map.me) && not (maker_of parcel == parcel.to))))))

-- a parcel with a step less
abbrev pub one_step_on : ParcelValue → ParcelValue
one_step_on parcel = record parcel { steps = parcel.steps - 1 }

-- whether the machine that a parcel is for gets it next: the line to it is whole
abbrev pub is_direct : Carrying → (shut : List Bool) → (to : ℕ) → Bool
is_direct here shut to = is_whole_line here.map to && not (is_in shut to)

-- a parcel is handed on with a step less: to the machine that it is for, or to a carrier
abbrev pub handed_on : Carrying → (shut : List Bool) → ParcelValue → Carrying
handed_on here shut parcel =
    if is_direct here shut parcel.to then waiting_for here parcel.to (one_step_on parcel)
    else carried here (maker_of parcel) (carrier_for here (maker_of parcel) shut parcel.to)
    (one_step_on parcel)

abbrev pub after_handed : Carrying → (shut : List Bool) → ParcelValue → Carrying
after_handed here shut parcel =
    if is_for_another here parcel then handed_on here shut parcel else here

-- ---- what goes out

-- whether something waits for a machine
abbrev pub is_waited_for : Carrying → (ready : List Bool) → ℕ → Bool
is_waited_for here ready hop = is_in ready hop && nat_lt 0 (length (lane_of here.lanes hop))

-- the first machine of these for which something waits
abbrev pub first_waited_for : Carrying → (ready : List Bool) → Option ℕ
first_waited_for here ready = slice_get (filter (is_waited_for here ready) (range_with_len 0 MACHINE_LIMIT)) 0

-- the oldest of it goes out
abbrev pub after_taken : Carrying → Option ℕ → Carrying
after_taken here None = here
after_taken here (Some hop) = record here { lanes = without_first here.lanes hop }
