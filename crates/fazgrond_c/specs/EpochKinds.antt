-- What C sees of epochs and marks.
use Rattle.std.specs.Prelude.{◌≡◌, ◌⊎◌, ◌≤◌, ◌==◌, ◌||◌, ℕ, Bool, false, not, List, nat_lt, Option, Some, None, if◌then◌else◌, slice_index}
use Rattle.std.specs.List.{list_any}
use Rattle.roll_epoch.specs.Seats.{machines_to, owners_with_absent}
use Rattle.roll_epoch.specs.declared.terms.Terms.{Terms}
use Rattle.roll_peer.specs.Marks.{each_player}
use Rattle.roll_mesh.specs.declared.limits.TheConstants.{PLAYER_LIMIT}
use Rattle.roll_wire.specs.declared.datagram.Mark.{Mark}
use Rattle.roll_wire.specs.declared.datagram.Newcomer.{Newcomer}
use Rattle.fazgrond_c.specs.declared.epoch_kinds.EpochIn.{EpochIn}
use Rattle.fazgrond_c.specs.declared.epoch_kinds.MarkIn.{MarkIn}
use Rattle.fazgrond_c.specs.declared.epoch_kinds.TheConstants.{AS_BEFORE, EPOCH_SIZE}

-- ---- epochs

-- the terms that were given
pub record AreTermsOf (given : EpochIn) (terms : Terms) : Type 0 where
  pub id : terms.id ≡ given.id
  pub base : terms.base ≡ given.base
  pub owners : terms.owners ≡ given.owners
  pub delays : terms.delays ≡ given.delays
  pub threshold : terms.threshold ≡ given.threshold
  pub words : terms.words ≡ given.words

-- a number has no room in 8 bits
abbrev pub IsEpochFaulty : EpochIn → Type 0
IsEpochFaulty given =
    (256 ≤ given.words) ⊎ ((256 ≤ given.threshold)
    ⊎ (((p : ℕ) × (256 ≤ slice_index given.owners p)) ⊎ ((p : ℕ) × (256 ≤ slice_index given.delays p))))

abbrev pub epoch_out : Terms → EpochIn
epoch_out terms = record {
  size = EPOCH_SIZE;
  words = terms.words;
  threshold = terms.threshold;
  machines = machines_to (owners_with_absent terms.owners) PLAYER_LIMIT;
  id = terms.id;
  base = terms.base;
  owners = each_player (slice_index terms.owners);
  delays = each_player (slice_index terms.delays);
}

-- ---- marks

-- whether the number of player p isn't 0
abbrev pub flag_at : List ℕ → ℕ → Bool
flag_at numbers p = not (slice_index numbers p == 0)

abbrev pub players_in : MarkIn → List Bool
players_in given = each_player (flag_at given.comes)

-- whoever comes, if somebody is to own a player
abbrev pub newcomer_in : MarkIn → Option Newcomer
newcomer_in given =
    if list_any (λ b. b) (players_in given)
    then Some (record { players = players_in given; ticket = given.ticket }) else None

-- whether a number is a delay, or says that it stays
abbrev pub is_delay : ℕ → Bool
is_delay number = nat_lt number 256 || (number == AS_BEFORE)

abbrev pub delay_in : ℕ → Option ℕ
delay_in number = if nat_lt number 256 then Some number else None

-- that of player p
abbrev pub delay_at : List ℕ → ℕ → Option ℕ
delay_at numbers p = delay_in (slice_index numbers p)

pub record IsMarkOf (given : MarkIn) (mark : Mark) : Type 0 where
  pub newcomer : mark.newcomer ≡ newcomer_in given
  pub delays : mark.delays ≡ each_player (delay_at given.delays)
  pub threshold : mark.threshold ≡ given.threshold

abbrev pub IsMarkFaulty : MarkIn → Type 0
IsMarkFaulty given =
    (256 ≤ given.threshold) ⊎ ((p : ℕ) × (is_delay (slice_index given.delays p) ≡ false))
