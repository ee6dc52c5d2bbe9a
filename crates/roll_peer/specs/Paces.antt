-- Whether a machine runs ahead of the others.
use Rattle.std.specs.Prelude.{ℕ, zero, suc, ℤ, int_lt, List, [], Bool, not, ◌||◌, ◌==◌, nat_lt, Option, Some, None, is_none, if◌then◌else◌}
use Rattle.roll_frame.specs.Advice.{advice_of, noted}
use Rattle.roll_mesh.specs.Machines.{is_in}
use Rattle.roll_contact.specs.Clocks.{one_more}
use Rattle.roll_contact.specs.Contacts.{is_playing, known_of}
use Rattle.roll_contact.specs.declared.contact.Contact.{Contact}
use Rattle.roll_peer.specs.declared.pace.Pace.{Pace}
use Rattle.roll_peer.specs.declared.pace.TheConstants.{ASK_EVERY}

abbrev pub no_pace : Pace
no_pace = record { advice = []; turns = 0 }

-- by how many frames this machine is behind another, and the other behind this one, as it says: none if it is gone, or hasn't
-- told its clocks
abbrev pub lead_of : List Bool → List Contact → ℕ → Option (ℤ × ℤ)
lead_of gone contacts m =
    if is_in gone m
    || (not (is_playing (known_of contacts m).stage) || is_none (known_of contacts m).their_clocks)
    then None else Some ((known_of contacts m).behind, (known_of contacts m).their_behind)

-- of two, the one that this machine is further ahead of; the first if they are alike
abbrev pub slower : Option (ℤ × ℤ) → Option (ℤ × ℤ) → Option (ℤ × ℤ)
slower None other = other
slower (Some lead) None = Some lead
slower (Some lead) (Some other) = if int_lt other.0 lead.0 then Some other else Some lead

-- the one of the first so many machines that this machine is furthest ahead of
unfoldable pub slowest : List Bool → List Contact → ℕ → Option (ℤ × ℤ)
slowest gone contacts zero = None
slowest gone contacts (suc m) = slower (slowest gone contacts m) (lead_of gone contacts m)

-- a turn is noted
abbrev pub paced : Option (ℤ × ℤ) → Pace → Pace
paced None pace = pace
paced (Some lead) pace = record {
  advice = noted pace.advice lead.0 lead.1;
  turns = if nat_lt (one_more pace.turns) ASK_EVERY then one_more pace.turns else 0;
}

abbrev pub advised : ℕ → Option ℕ
advised frames = if frames == 0 then None else Some frames

-- how many frames to wait, if it is time to ask
abbrev pub wait_of : Option (ℤ × ℤ) → Pace → Option ℕ
wait_of None pace = None
wait_of (Some lead) pace =
    if nat_lt (one_more pace.turns) ASK_EVERY then None
    else advised (advice_of (noted pace.advice lead.0 lead.1))
