-- Marks that were judged.
use Rattle.std.specs.Prelude.{◌≡◌, ℕ, ◌<◌, length, true}
use Rattle.roll_chain.specs.Judging.{is_void_by, judged_until}
use Rattle.roll_chain.specs.Lasting.{IsLater}
use Rattle.roll_chain.specs.Together.{IsJudgedTo}
use Rattle.roll_chain.specs.declared.chain.Chain.{Chain}
use Rattle.roll_mesh.specs.Machines.{is_in}
use Rattle.roll_mesh.specs.declared.limits.TheConstants.{PLAYER_LIMIT}
use Rattle.roll_peer.specs.Marks.{mark_at}
use Rattle.roll_peer.specs.Peered.{Peered}

-- nothing is void that isn't so by the rules
pub record IsSound (chain : Chain) (peer : Peered) : Type 0 where
  pub sized : length peer.voids ≡ PLAYER_LIMIT
  pub so : (p : ℕ) → p < PLAYER_LIMIT → is_in peer.voids p ≡ true → is_void_by chain p (mark_at peer.marks p) ≡ true

-- of the known marks those are void that are so by the rules
abbrev pub IsJudged : Chain → Peered → Type 0
IsJudged chain peer = (p : ℕ) → p < PLAYER_LIMIT → is_in peer.voids p ≡ is_void_by chain p (mark_at peer.marks p)

-- so once marks are judged, all is void that is so by the rules, and nothing else; and that stays so
pub record IsJudgedSoundly (chain : Chain) (peer : Peered) : Type 0 where
  pub judged : IsJudged chain peer
  pub to_any : (end : ℕ) → IsJudgedTo end chain peer
  pub sound : IsSound chain peer

abbrev pub WhatIsJudged : Type 0
WhatIsJudged = (chain : Chain) (peer : Peered) → IsSound chain peer → IsJudgedSoundly chain (judged_until chain PLAYER_LIMIT peer)

-- whatever is called meanwhile, if no mark is voided
abbrev pub SoundStays : Type 0
SoundStays = (chain : Chain) (old new : Peered) → IsLater old new → new.voids ≡ old.voids → IsSound chain old → IsSound chain new
