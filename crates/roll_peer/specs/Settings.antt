-- What a machine is told of its match, by parts.
use Rattle.std.specs.Prelude.{ℕ, ◌+◌, ◌-◌, ◌%◌, ◌^◌, min, Bool, not, ◌||◌, ◌==◌, nat_le, if◌then◌else◌, slice_index}
use Rattle.std.specs.List.{list_all, range_with_len}
use Rattle.roll_contact.specs.declared.contact.Opening.{Opening}
use Rattle.roll_contact.specs.declared.terms.Terms.{Terms}
use Rattle.roll_frame.specs.Settings.{delay_at}
use Rattle.roll_frame.specs.declared.settings.Settings.{Settings}
use Rattle.roll_mesh.specs.Groups.{first_of}
use Rattle.roll_mesh.specs.declared.limits.TheConstants.{MACHINE_LIMIT, PLAYER_LIMIT}
use Rattle.roll_mesh.specs.declared.seat.Seat.{Seat}
use Rattle.roll_peer.specs.declared.settings.MatchSettings.{MatchSettings}
use Rattle.roll_peer.specs.declared.settings.TheConstants.{COMER_PATIENCE}

abbrev pub seat_of : MatchSettings → Seat
seat_of settings = record {
  owners = settings.owners;
  machines = settings.machines;
  words = settings.words;
  me = settings.me;
}

abbrev pub terms_of : MatchSettings → Terms
terms_of settings = record {
  machines = settings.machines;
  owners = settings.owners;
  digest = settings.digest;
  words = settings.words;
  opening = settings.opening;
  lasts = settings.takes_marks;
}

abbrev pub opening_of : MatchSettings → Opening
opening_of settings = record { draw = settings.draw; silent_after = settings.silent_after; carries = settings.carries }

-- the number that it shares with a machine
abbrev pub number_for : MatchSettings → ℕ → ℕ
number_for settings m = slice_index settings.numbers m

-- whether the number that it shares with a machine isn't 0, if that is another machine of the match
abbrev pub has_number_for : MatchSettings → ℕ → Bool
has_number_for settings m =
    nat_le settings.machines m || ((m == settings.me) || not (number_for settings m == 0))

unfoldable pub has_numbers : MatchSettings → Bool
has_numbers settings = list_all (has_number_for settings) (range_with_len 0 MACHINE_LIMIT)

-- whether a player of this machine has the delay of the first word of its input
abbrev pub is_delayed_alike : Settings → MatchSettings → ℕ → Bool
is_delayed_alike session settings p =
    not (slice_index settings.owners p == settings.me)
    || (delay_at session p == delay_at session (first_of settings.words p))

-- whether all words of each input of this machine have one delay in a session's settings
unfoldable pub are_delayed_alike : Settings → MatchSettings → Bool
are_delayed_alike session settings =
    list_all (is_delayed_alike session settings) (range_with_len 0 PLAYER_LIMIT)

-- after how many milliseconds a machine would be gone that was silent in the epoch before
abbrev pub patience_of : MatchSettings → ℕ
patience_of settings = if settings.silent_after == 0 then COMER_PATIENCE else settings.silent_after

-- after how many milliseconds one who doesn't play on in an epoch that follows another is gone, held to what can be told
abbrev pub farthest_of : MatchSettings → ℕ
farthest_of settings =
    min (2 ^ 32 - 1) (min (2 ^ 32 - 1) (patience_of settings + settings.silent_after) + settings.stalled_after)

-- the moment that its clock shows first
abbrev pub first_moment : MatchSettings → ℕ
first_moment settings = settings.draw % 2 ^ 32
