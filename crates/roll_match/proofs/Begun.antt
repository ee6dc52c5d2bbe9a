-- What the start of a turn makes of a match is calls of its network.
use Rattle.std.proofs.Common.{ℕ, zero, suc, ◌+◌, List, [], ◌∷◌, Bool, true, false, Option, Some, None, refl}
use Rattle.std.specs.Prelude.{if◌then◌else◌, is_none}
use Rattle.roll_chain.specs.Judging.{is_void_by, judged_until}
use Rattle.roll_chain.specs.Sharing.{heard_until, parted_until}
use Rattle.roll_chain.specs.declared.chain.Chain.{Chain}
use Rattle.roll_relay.specs.Told.{as_told}
use Rattle.roll_mesh.specs.Machines.{is_in, leave}
use Rattle.roll_mesh.specs.Meshes.{leave_refusal, stepped}
use Rattle.roll_mesh.specs.declared.limits.TheConstants.{MACHINE_LIMIT, PLAYER_LIMIT}
use Rattle.roll_peer.specs.Following.{heard_beside}
use Rattle.roll_peer.specs.Marking.{voided}
use Rattle.roll_peer.specs.Marks.{mark_at}
use Rattle.roll_peer.specs.PeerWorlds.{Disconnects, HearsToo, Polls, VoidsMark}
use Rattle.roll_peer.specs.Peered.{Peered}
use Rattle.roll_peer.specs.Requests.{Beside}
use Rattle.roll_peer.specs.Turning.{without}
use Rattle.roll_chain.specs.Epochs.{gone_in, judged_in, shared_by, shared_peer}
use Rattle.roll_chain.specs.declared.epochs.Epochs.{Epochs}
use Rattle.roll_chain.specs.declared.past.Past.{Past}
use Rattle.roll_session.specs.Seen.{Seen, Step}
use Rattle.roll_match.specs.Deeds.{WhatBeginsIsCalled}
use Rattle.roll_match.proofs.Deeds.{both, none, Called}

module _ (step : Step) (sent : List (List ℕ)) (now : ℕ) (s : Seen) where
  abbrev so : Peered → Beside
  so peer = record { session = s; peer = peer }

  abbrev Leads : Peered → Peered → Type 0
  Leads old new = Called step sent now (so old) (so new)

  -- one after another
  more : (a b c : Peered) → Leads a b → Leads b c → Leads a c
  more a b c first rest = both step sent now (so a) (so b) (so c) first.0 first.1 rest

  same : (a : Peered) → Leads a a
  same a = none step sent now (so a) (so a) refl

  heard_one : (stays : Bool) (m : ℕ) (past a : Peered) → Leads a (if stays then heard_beside m past a else a)
  heard_one true m past a = (HearsToo m past ∷ [], (so (heard_beside m past a), (refl, refl), refl))
  heard_one false m past a = same a

  heard : (stays : List Bool) (past a : Peered) (n : ℕ) → Leads a (heard_until stays past n a)
  unfolding heard_until
  heard stays past a zero = same a
  heard stays past a (suc m) =
      more a (heard_until stays past m a) (heard_until stays past (suc m) a) (heard stays past a m)
      (heard_one (is_in stays m) m past (heard_until stays past m a))

  parted_one : (gone : Bool) (m : ℕ) (a : Peered)
      → Leads a (if gone then record a { member = record a.member { mesh = without m a.member.mesh } } else a)
  parted_one false m a = same a
  parted_one true m a = left (is_none (leave_refusal a.member.mesh m))
    where
      left : (b : Bool) → Leads a (record a {
        member = record a.member { mesh = if b then stepped (λ seat machine. leave seat m machine) a.member.mesh else a.member.mesh };
      })
      left true = (
        Disconnects m ∷ [],
        (
          so (record a { member = record a.member { mesh = stepped (λ seat machine. leave seat m machine) a.member.mesh } }),
          (refl, refl),
          refl,
        ),
      )
      left false = same a

  parted : (gone : List Bool) (a : Peered) (n : ℕ) → Leads a (parted_until gone n a)
  unfolding parted_until
  parted gone a zero = same a
  parted gone a (suc m) =
      more a (parted_until gone m a) (parted_until gone (suc m) a) (parted gone a m) (parted_one (is_in gone m) m (parted_until gone m a))

  judged_one : (void : Bool) (p : ℕ) (a : Peered) → Leads a (if void then voided a (p + 1) else a)
  judged_one true p a = (VoidsMark (p + 1) ∷ [], (so (voided a (p + 1)), (refl, refl), refl))
  judged_one false p a = same a

  judged : (chain : Chain) (a : Peered) (n : ℕ) → Leads a (judged_until chain n a)
  unfolding judged_until
  judged chain a zero = same a
  judged chain a (suc p) =
      more a (judged_until chain p a) (judged_until chain (suc p) a) (judged chain a p)
      (judged_one (is_void_by chain p (mark_at (judged_until chain p a).marks p)) p (judged_until chain p a))

  shared : {P : Type 0} (past : Option (Past P)) (epochs : Epochs P) (a : Peered) → Leads a (shared_by past epochs a)
  shared None epochs a = same a
  shared (Some past) epochs a =
      more a (heard_until epochs.chain.stays past.peer MACHINE_LIMIT a)
      (parted_until (gone_in epochs past a) MACHINE_LIMIT (heard_until epochs.chain.stays past.peer MACHINE_LIMIT a))
      (heard epochs.chain.stays past.peer a MACHINE_LIMIT)
      (parted (gone_in epochs past a) (heard_until epochs.chain.stays past.peer MACHINE_LIMIT a) MACHINE_LIMIT)

pub what_begins_is_called : (P : Type 0) → WhatBeginsIsCalled P
what_begins_is_called P step sent now epochs peer next s after words held said polls =
    let here : Seen = as_told s words 0 in
    let last : Beside = record { session = as_told after held polls.room; peer = next } in
    let first = more step sent now here peer (shared_peer epochs peer) (judged_in epochs (shared_peer epochs peer))
    (shared step sent now here epochs.past epochs peer) (judged step sent now here epochs.chain (shared_peer epochs peer) PLAYER_LIMIT) in
    let all = both step sent now (so step sent now here peer) (so step sent now here (judged_in epochs (shared_peer epochs peer))) last first.0 first.1
    (Polls now said ∷ [], (last, polls.polls, refl)) in
    (polls.room, all.0, all.1)
