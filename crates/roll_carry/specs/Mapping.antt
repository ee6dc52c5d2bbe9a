-- What a machine knows of who hears whom straight: what it hears itself, and what the others told.
use Rattle.std.specs.Prelude.{ℕ, ◌+◌, ◌-◌, ◌%◌, ◌^◌, List, length, replicate, Bool, true, false, ◌&&◌, ◌||◌, ◌==◌, nat_le, nat_lt, Option, Some, None, if◌then◌else◌, slice_index_or, slice_set}
use Rattle.roll_contact.specs.Clocks.{since}
use Rattle.roll_mesh.specs.Machines.{at_all, at_places, same_gone as same_machines}
use Rattle.roll_mesh.specs.declared.limits.TheConstants.{MACHINE_LIMIT}
use Rattle.roll_carry.specs.Ways.{hearing_of, hears}
use Rattle.roll_carry.specs.declared.datagram.Hearing.{Hearing}
use Rattle.roll_carry.specs.declared.map.LineMap.{LineMap}
use Rattle.roll_carry.specs.declared.limits.TheConstants.{CARRY_AFTER, TELL_TURNS}

-- at first nobody is known to hear anybody
abbrev pub first_map : (me machines : ℕ) → LineMap
first_map me machines = record {
  me = me;
  machines = machines;
  lines = replicate MACHINE_LIMIT (record { hears = replicate MACHINE_LIMIT false; number = 0 });
  heard_at = replicate MACHINE_LIMIT None;
  telling = 0;
}

-- what it says itself
abbrev pub own_hearing : LineMap → Hearing
own_hearing here = hearing_of here.lines here.me

-- whether it says that one machine hears another
abbrev pub shows : LineMap → (machine other : ℕ) → Bool
shows here machine other = hears here.lines machine other

-- whether both hear each other straight
abbrev pub is_whole_line : LineMap → ℕ → Bool
is_whole_line here other = shows here here.me other && shows here other here.me

-- ---- what it hears itself

-- a machine was heard straight
abbrev pub heard_straight : (machine now : ℕ) → LineMap → LineMap
heard_straight machine now here = record here { heard_at = slice_set here.heard_at machine (Some now) }

-- a moment that isn't too long ago
abbrev pub lately : (now : ℕ) → Option ℕ → Option ℕ
lately now None = None
lately now (Some at) = if nat_le (since now at) CARRY_AFTER then Some at else None

abbrev pub is_some_of : Option ℕ → Bool
is_some_of None = false
is_some_of (Some at) = true

-- when a machine was heard straight, if that isn't too long ago
abbrev pub heard_lately : LineMap → (now machine : ℕ) → Option ℕ
heard_lately here now machine = lately now (slice_index_or here.heard_at machine None)

-- whom it hears: itself, and whom it heard lately
abbrev pub is_heard_now : LineMap → (now machine : ℕ) → Bool
is_heard_now here now machine = (machine == here.me) || is_some_of (heard_lately here now machine)

abbrev pub heard_now : LineMap → (now : ℕ) → List Bool
heard_now here now = at_places (is_heard_now here now) here.heard_at

-- what it says of itself one turn later: what it hears now, by the next number if that is something else
abbrev pub own_now : LineMap → (now : ℕ) → Hearing
own_now here now =
    if same_machines (heard_now here now) (own_hearing here).hears then own_hearing here
    else record { hears = heard_now here now; number = ((own_hearing here).number + 1) % 2 ^ 32 }

-- ---- what others tell

-- whether a number is later than another, of numbers that begin anew after 2^32
abbrev pub is_later : (number than : ℕ) → Bool
is_later number than = nat_lt 0 (since number than)

-- what it says of itself, once another told that it hears these: if that isn't so, and isn't older than what it said itself, it says
-- it anew
abbrev pub corrected : (own told : Hearing) → Hearing
corrected own told =
    if same_machines told.hears own.hears || is_later own.number told.number then own
    else record { hears = own.hears; number = (told.number + 1) % 2 ^ 32 }

-- what is known of a machine once this was told of it: what has the later number; but what this one hears it knows itself
abbrev pub line_told : LineMap → (machine : ℕ) → Hearing → Hearing
line_told here machine told =
    if machine == here.me then corrected (own_hearing here) told
    else (if is_later told.number (hearing_of here.lines machine).number then told
    else hearing_of here.lines machine)

-- what is known of a machine once another told all that it knows
abbrev pub line_after : LineMap → List Hearing → (machine : ℕ) → Hearing
line_after here told machine =
    if nat_lt machine (length told) then line_told here machine (hearing_of told machine)
    else hearing_of here.lines machine

-- whether all machines are known to hear the same ones
unfoldable pub same_lines : (one other : List Hearing) → Bool
same_lines one other =
    at_all (λ machine. same_machines (hearing_of one machine).hears (hearing_of other machine).hears) one

-- this is known now, and if some machine hears others than before, it is told in each of the next turns
abbrev pub knowing : List Hearing → LineMap → LineMap
knowing lines here = record here {
  lines = lines;
  telling = if same_lines lines here.lines then here.telling else TELL_TURNS;
}

-- a machine told all that it knows
abbrev pub after_map : List Hearing → LineMap → LineMap
after_map told here = knowing (at_places (line_after here told) here.lines) here

-- one turn later: it says what it hears now, and has told its map once more
abbrev pub looked : (now : ℕ) → LineMap → LineMap
looked now here = knowing (slice_set here.lines here.me (own_now here now)) (record here {
  heard_at = at_places (heard_lately here now) here.heard_at;
  telling = here.telling - 1;
})
