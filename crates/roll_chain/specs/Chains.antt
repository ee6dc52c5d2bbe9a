-- A match that goes on in epochs, as one machine knows it: what stays the same over all epochs, among it the number by which it is known
-- who may come; how this one opened, and which machines of the epoch before are in it.
use Rattle.std.specs.Prelude.{ℕ, ◌||◌, ◌&&◌, ◌==◌, List, map, Bool, true, false, nat_lt, replicate, slice_index, if◌then◌else◌}
use Rattle.std.specs.List.{list_all, list_any, range_with_len}
use Rattle.roll_epoch.specs.Ids.{hash_of, key_of}
use Rattle.roll_epoch.specs.Seats.{machines_to, owners_with_absent}
use Rattle.roll_epoch.specs.declared.terms.Terms.{Terms}
use Rattle.roll_frame.specs.declared.profile.Profile.{Profile}
use Rattle.roll_mesh.specs.Machines.{is_in, owner_of}
use Rattle.roll_mesh.specs.Meshes.{Seated}
use Rattle.roll_mesh.specs.declared.limits.TheConstants.{MACHINE_LIMIT, PLAYER_LIMIT}
use Rattle.roll_peer.specs.Peered.{Peered}
use Rattle.roll_peer.specs.Sending.{is_lost}
use Rattle.roll_peer.specs.declared.settings.MatchSettings.{MatchSettings}
use Rattle.roll_chain.specs.declared.chain.Chain.{Chain}

-- ---- the epoch

-- a match that begins with an epoch of these terms, and whether others follow
abbrev pub first_chain : (lasts : Bool) → MatchSettings → Profile → Terms → (comers : ℕ) → Chain
first_chain lasts base profile terms comers = record {
  base = record base { takes_marks = lasts };
  profile = profile;
  terms = terms;
  comers = comers;
  stays = replicate MACHINE_LIMIT false;
}

-- the terms of an epoch that no other follows
abbrev pub only_terms : MatchSettings → Terms
only_terms base = record {
  id = 0;
  base = 0;
  owners = base.owners;
  delays = replicate PLAYER_LIMIT 0;
  threshold = 0;
  words = base.words;
}

-- by which numbers pairs seal in an epoch
abbrev pub numbers_in : List ℕ → ℕ → List ℕ
numbers_in base id = map (λ m. key_of (slice_index base m) id) (range_with_len 0 MACHINE_LIMIT)

-- with which settings the network of an epoch opens: each player that nobody owns is of a machine that is absent
abbrev pub settings_in : Chain → Terms → MatchSettings
settings_in chain terms = record chain.base {
  machines = machines_to (owners_with_absent terms.owners) PLAYER_LIMIT;
  owners = owners_with_absent terms.owners;
  numbers = numbers_in chain.base.numbers terms.id;
  digest = hash_of chain.base.digest chain.comers;
  words = terms.words;
  takes_marks = true;
}

-- with which settings a match opens: those of the epoch; if no other follows, its own
abbrev pub settings_of : Chain → MatchSettings
settings_of chain = if chain.base.takes_marks then settings_in chain chain.terms else chain.base

-- ---- who was there before

-- whether a machine is in this epoch and was in the one before
abbrev pub has_stayed : Chain → ℕ → Bool
has_stayed chain machine = is_in chain.stays machine

-- ---- who has come

-- whether player p is a machine's, and a word of it is known
abbrev pub is_word_of : Seated → (machine p : ℕ) → Bool
is_word_of mesh machine p = (owner_of mesh.seat p == machine) && nat_lt 0 (slice_index mesh.machine.has p)

-- whether a machine has given a word in this epoch, as far as is known
abbrev pub has_given : Seated → ℕ → Bool
has_given mesh machine = list_any (is_word_of mesh machine) (range_with_len 0 PLAYER_LIMIT)

-- whether a machine is no other of this epoch, or gone, or has come to it
abbrev pub is_seen : Peered → ℕ → Bool
is_seen peer m = is_lost peer m || has_given peer.member.mesh m

-- whether the epoch before needn't be told on
abbrev pub is_past_over : Peered → Bool
is_past_over peer = list_all (is_seen peer) (range_with_len 0 MACHINE_LIMIT)
