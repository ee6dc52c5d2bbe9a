-- How the next epoch opens at a machine.
use Rattle.std.specs.Prelude.{ℕ, ◌==◌, ◌&&◌, List, map, Bool, true, false, not, Option, if◌then◌else◌, slice_index}
use Rattle.std.specs.List.{list_any, range_with_len}
use Rattle.roll_epoch.specs.Ends.{owner_of}
use Rattle.roll_epoch.specs.Successions.{stays, successor}
use Rattle.roll_epoch.specs.declared.marks.Ending.{Ending}
use Rattle.roll_epoch.specs.declared.terms.Terms.{Terms}
use Rattle.roll_frame.specs.declared.settings.Settings.{Settings}
use Rattle.roll_member.specs.Seam.{settings_after}
use Rattle.roll_mesh.specs.declared.limits.TheConstants.{MACHINE_LIMIT}
use Rattle.roll_peer.specs.Following.{seating_at as sits_at}
use Rattle.roll_peer.specs.Marks.{each_player}
use Rattle.roll_peer.specs.Peered.{Peered}
use Rattle.roll_peer.specs.declared.following.Seating.{Seating}
use Rattle.roll_peer.specs.declared.following.Seating.TheVariants.{Stays, Comes, Empty}
use Rattle.roll_session.specs.Seen.{Seen}
use Rattle.roll_wire.specs.Spelling.{mask}
use Rattle.roll_chain.specs.Rows.{lefts}
use Rattle.roll_chain.specs.declared.chain.Chain.{Chain}
use Rattle.roll_chain.specs.declared.seam.Opening.{Opening}

-- something for each machine
abbrev pub each_machine : {A : Type 0} → (ℕ → A) → List A
each_machine f = map f (range_with_len 0 MACHINE_LIMIT)

-- ---- who sits where

-- whether a machine owns a player
abbrev pub owns : List ℕ → ℕ → Bool
owns owners m = list_any (λ owner. owner == m) owners

-- whoever owns a player in both epochs, and none of whose players left before the end of the first, stays; any other who owns one comes
abbrev pub seating_at : (old new : Terms) → (end : ℕ) → List (Option ℕ) → ℕ → Seating
seating_at old new end left m =
    if not (owns new.owners m) then Empty
    else (if owns old.owners m && stays old.owners left end m then Stays else Comes)

abbrev pub seating : (old new : Terms) → (end : ℕ) → List (Option ℕ) → List Seating
seating old new end left = each_machine (seating_at old new end left)

abbrev pub is_staying : Seating → Bool
is_staying Stays = true
is_staying Comes = false
is_staying Empty = false

abbrev pub stay_where : List Seating → List Bool
stay_where seating = each_machine (λ m. is_staying (sits_at seating m))

-- ---- its session

-- the players of a machine: bit p for player p
abbrev pub local_bits : List ℕ → ℕ → ℕ
local_bits owners me = mask (map (λ owner. owner == me) owners)

abbrev pub local_delay : Terms → ℕ → ℕ → ℕ
local_delay terms me p = if owner_of terms.owners p == me then slice_index terms.delays p else 0

abbrev pub local_delays : Terms → ℕ → List ℕ
local_delays terms me = each_player (local_delay terms me)

-- as it goes on from that of the epoch before, but that this machine's own players are local, with the epoch's delays and threshold
abbrev pub session_settings : Settings → Terms → ℕ → Settings
session_settings after terms me = record after {
  local = local_bits terms.owners me;
  delays = local_delays terms me;
  threshold = terms.threshold;
}

-- ---- the next epoch

abbrev pub next_terms : Chain → Peered → Ending → Terms
next_terms chain peer e = successor chain.terms e (lefts peer.member.mesh)

abbrev pub opening_after : Seen → Chain → Peered → Ending → Opening
opening_after s chain peer e = record {
  terms = next_terms chain peer e;
  settings = session_settings (settings_after s e.frame) (next_terms chain peer e) chain.base.me;
  end = e.frame;
  seating = seating chain.terms (next_terms chain peer e) e.frame (lefts peer.member.mesh);
}

-- a match that goes on so
abbrev pub followed_by : Chain → Opening → Chain
followed_by chain opening = record chain {
  terms = opening.terms;
  stays = stay_where opening.seating;
}
