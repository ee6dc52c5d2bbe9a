-- Whether a machine hears most of the others, or is cut off from them.
use Rattle.std.specs.Prelude.{ℕ, zero, suc, ◌+◌, ◌*◌, ◌/◌, Bool, false, not, ◌&&◌, ◌||◌, ◌==◌, nat_le, nat_lt, is_some, Option, Some, None, if◌then◌else◌}
use Rattle.std.specs.List.{filter, range_with_len, slice_get}
use Rattle.std.specs.Option.{option_map_or}
use Rattle.roll_contact.specs.Clocks.{since}
use Rattle.roll_contact.specs.Contacts.{is_silent, unanswered_for}
use Rattle.roll_mesh.specs.Machines.{is_in}
use Rattle.roll_peer.specs.Events.{pushed}
use Rattle.roll_peer.specs.Notices.{only_if, told}
use Rattle.roll_peer.specs.Peered.{contact_at, Peered}
use Rattle.roll_peer.specs.declared.event.PeerEvent.TheVariants.{CutOff as IsCutOff, Dropped}

-- how many of the first so many machines pass a test
unfoldable pub count_of : (ℕ → Bool) → ℕ → ℕ
count_of test zero = 0
count_of test (suc n) = count_of test n + (if test n then 1 else 0)

-- whether a machine isn't gone
abbrev pub is_here : Peered → ℕ → Bool
is_here peer m = not (is_in peer.member.mesh.machine.gone m)

-- whether it is this one, or isn't gone, and a clock that this machine sent it came back within half of the time after which it would be;
-- if that is never, all that aren't gone are heard
abbrev pub is_heard : Peered → (now : ℕ) → ℕ → Bool
is_heard peer now m =
    is_here peer m
    && ((m == peer.member.mesh.seat.me)
    || ((peer.settings.silent_after == 0)
    || ((contact_at peer m).confirmed
    && nat_le (unanswered_for (contact_at peer m) now) (peer.settings.silent_after / 2))))

-- the lowest machine that isn't gone
abbrev pub lowest_here : Peered → Option ℕ
lowest_here peer = slice_get (filter (is_here peer) (range_with_len 0 peer.settings.machines)) 0

-- whether so many who are heard are most of so many: more than half; or half, and the lowest of all is one of them; or there are only two
abbrev pub are_most : (heard here : ℕ) → (lowest : Bool) → Bool
are_most heard here lowest =
    nat_lt here (2 * heard) || ((here == 2) || ((here == 2 * heard) && lowest))

-- whether this machine hears most of those that aren't gone, itself among them
abbrev pub hears_most : Peered → (now : ℕ) → Bool
hears_most peer now =
    are_most (count_of (is_heard peer now) peer.settings.machines)
    (count_of (is_here peer) peer.settings.machines)
    (option_map_or (is_heard peer now) (lowest_here peer) false)

-- the first machine that isn't gone and was silent for so long that it should be
abbrev pub first_silent : Peered → (now : ℕ) → Option ℕ
first_silent peer now =
    slice_get (filter (λ m. is_here peer m && is_silent (contact_at peer m) now peer.settings.silent_after)
    (range_with_len 0 peer.settings.machines)) 0

-- whether this machine is cut off: the match has begun, somebody is silent for so long, and it doesn't hear most
abbrev pub is_cut_off : Peered → (now : ℕ) → Bool
is_cut_off peer now = peer.running && (is_some (first_silent peer now) && not (hears_most peer now))

-- the match is over here, if it is by this or was before; that is told once
abbrev pub over_if : Bool → Peered → Peered
over_if is_over peer = record peer {
  cut_off = record peer.cut_off { is_over = peer.cut_off.is_over || is_over };
  waiting = told peer.waiting (only_if (is_over && not peer.cut_off.is_over) Dropped);
}

-- it is cut off at a moment: that is told as it begins, and that the match is over here once it has lasted as long again
abbrev pub cut_off_since : (now : ℕ) → Option ℕ → Peered → Peered
cut_off_since now None peer = record peer {
  cut_off = record peer.cut_off { since = Some now };
  waiting = pushed peer.waiting (IsCutOff peer.settings.silent_after);
}
cut_off_since now (Some at) peer =
    over_if (nat_lt peer.settings.silent_after (since now at)) peer

-- whether it is cut off is looked at
abbrev pub cut_off_noted : (now : ℕ) → Peered → Peered
cut_off_noted now peer =
    if is_cut_off peer now
    then cut_off_since now peer.cut_off.since peer
    else record peer { cut_off = record peer.cut_off { since = None } }

-- a machine that doesn't hear most calls nobody gone
abbrev pub most_noted : (now : ℕ) → Peered → Peered
most_noted now peer =
    cut_off_noted now (record peer { cut_off = record peer.cut_off { hears_most = hears_most peer now } })
