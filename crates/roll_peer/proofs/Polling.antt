-- A poll: machines are regarded as gone, and their players leave, by steps of the laws over words.
use Rattle.std.proofs.Common.{◌≡◌, ℕ, List, zero, suc, ◌<◌, refl, ap, sym, subst, Bool, true, false, Option, None, Some, Result, Ok, Err}
use Rattle.std.specs.Prelude.{if◌then◌else◌}
use Rattle.roll_frame.specs.declared.refusal.Refusal.{Refusal}
use Rattle.roll_mesh.specs.Words.{WordWorld}
use Rattle.roll_mesh.specs.Worlds.{Match}
use Rattle.roll_session.specs.Seen.{Seen}
use Rattle.roll_peer.specs.Peered.{Peered}
use Rattle.roll_peer.specs.Receiving.{after_ignored, is_refusal, meeting, moment_of, sender_of, with_stranger}
use Rattle.roll_peer.specs.CutOffs.{cut_off_since, hears_most, most_noted}
use Rattle.roll_peer.specs.Turning.{begun, desync_at, desync_in, desync_told, desync_until, farewell_at, farewell_until, hushed_at, hushed_until, looked_after, missed_at, missed_until, moved_to, over, silenced_until, stall_told, strangers_told, timed, watched_at, watched_until, without, IsPolled, Polls}
use Rattle.roll_peer.specs.declared.received.Ignored.{Ignored}
use Rattle.roll_peer.specs.declared.refusal.PeerRefusal.{PeerRefusal}
use Rattle.roll_peer.specs.declared.refusal.PeerRefusal.TheVariants.{OtherSession, Session}
use Rattle.roll_peer.proofs.Said.{begun_is, over_is, strangers_told_is}
use Rattle.roll_peer.proofs.Standing.{stands_as, stands_met, stands_parted, stands_without, IsFrom, Stands}

-- two that know the same of who has what, of which match, and which marks
abbrev pub AreLike : Peered → Peered → Type 0
AreLike old new =
    (new.member.mesh ≡ old.member.mesh) × (new.settings ≡ old.settings) × (new.marks ≡ old.marks)

pub like : (p : Peered) → AreLike p p
like p = (refl, refl, refl)

pub like_as : (old mid new : Peered) → new ≡ mid → AreLike old mid → AreLike old new
like_as old mid new e same = subst (λ (p : Peered). AreLike old p) (sym e) same

pub either_like : (b : Bool) (old p q : Peered) → AreLike old p → AreLike old q → AreLike old (if b then p else q)
either_like true old p q h k = h
either_like false old p q h k = k

over_like : (peer : Peered) → AreLike peer (over peer)
over_like peer = like_as peer _ (over peer) (over_is peer) (like peer)

most_like : (now : ℕ) (peer : Peered) → AreLike peer (most_noted now peer)
most_like now peer = either_like _ peer _ _ (since_like peer.cut_off.since) (like peer)
  where
    since_like : (at : Option ℕ) → AreLike peer (cut_off_since now at
        (record peer { cut_off = record peer.cut_off { hears_most = hears_most peer now } }))
    since_like None = like peer
    since_like (Some at) = like peer

pub begun_like : (peer : Peered) → AreLike peer (begun peer)
begun_like peer = like_as peer _ (begun peer) (begun_is peer) (either_like _ peer _ _ (like peer) (like peer))

strangers_like : (now : ℕ) (peer : Peered) → AreLike peer (strangers_told now peer)
strangers_like now peer =
    like_as peer _ (strangers_told now peer) (strangers_told_is now peer) (either_like _ peer _ _ (like peer) (like peer))

desync_like : (m : ℕ) (frame : Option ℕ) (peer : Peered) → AreLike peer (desync_told m frame peer)
desync_like m None peer = like peer
desync_like m (Some frame) peer = like peer

-- what is refused changes nothing but what is counted and told
pub ignored_like : (bytes : List ℕ) (why : Ignored) (peer : Peered)
    → AreLike peer (with_stranger bytes why (after_ignored (sender_of bytes) why peer))
ignored_like bytes why peer = either_like _ peer _ _ refused refused
  where
    refused : AreLike peer (after_ignored (sender_of bytes) why peer)
    refused = either_like (is_refusal why) peer _ _ (like peer) (like peer)

-- what holds of all that are like one, and still does once a machine is gone, holds after a poll's looks
module _ (At : Peered → Type 0) (as_like : (old new : Peered) → AreLike old new → At old → At new)
    (gone : (peer : Peered) (m : ℕ) → At peer
    → At (record peer { member = record peer.member { mesh = without m peer.member.mesh } })) where
  without_if : (b : Bool) (peer : Peered) (m : ℕ) → At peer
      → At (if b then record peer { member = record peer.member { mesh = without m peer.member.mesh } } else peer)
  without_if true peer m at = gone peer m at
  without_if false peer m at = at

  silenced_so : (now k : ℕ) (peer : Peered) → At peer → At (silenced_until now k peer)
  unfolding silenced_until
  silenced_so now zero peer at = at
  silenced_so now (suc m) peer at = without_if _ (silenced_until now m peer) m (silenced_so now m peer at)

  watched_so : (now k : ℕ) (peer : Peered) → At peer → At (watched_until now k peer)
  unfolding watched_until watched_at
  watched_so now zero peer at = at
  watched_so now (suc m) peer at =
      let before : Peered = watched_until now m peer in
      let was : Peered = timed now m before in
      without_if _ (stall_told now m was) m
      (as_like before (stall_told now m was) (either_like _ before _ _ (like before) (like before))
      (watched_so now m peer at))

  hushed_so : (now k : ℕ) (peer : Peered) → At peer → At (hushed_until now k peer)
  unfolding hushed_until
  hushed_so now zero peer at = at
  hushed_so now (suc m) peer at =
      let before : Peered = hushed_until now m peer in
      as_like before (hushed_at now m before) (like before) (hushed_so now m peer at)

  missed_so : (now k : ℕ) (peer : Peered) → At peer → At (missed_until now k peer)
  unfolding missed_until
  missed_so now zero peer at = at
  missed_so now (suc m) peer at =
      let before : Peered = missed_until now m peer in
      as_like before (missed_at now m before) (either_like _ before _ _ (like before) (like before)) (missed_so now m peer at)

  farewell_so : (k : ℕ) (peer : Peered) → At peer → At (farewell_until k peer)
  unfolding farewell_until
  farewell_so zero peer at = at
  farewell_so (suc m) peer at =
      let before : Peered = farewell_until m peer in
      as_like before (farewell_at m before) (either_like _ before _ _ (like before) (like before)) (farewell_so m peer at)

  desyncs_so : (now k : ℕ) (peer : Peered) → At peer → At (desync_until now k peer)
  unfolding desync_until
  desyncs_so now zero peer at = at
  desyncs_so now (suc m) peer at =
      let before : Peered = desync_until now m peer in
      as_like before (desync_at now m before) (desync_like m (desync_in before now m) before) (desyncs_so now m peer at)

  strangers_so : (now : ℕ) (peer : Peered) → At peer → At (strangers_told now peer)
  strangers_so now peer at = as_like peer (strangers_told now peer) (strangers_like now peer) at

  looked_so : (now k : ℕ) (peer : Peered) → At peer → At (looked_after now k peer)
  looked_so now k peer at =
      farewell_so k _ (desyncs_so now k _ (strangers_so now _ (missed_so now k _ (hushed_so now k _ (watched_so now k _
      (silenced_so now k (most_noted now peer) (as_like peer (most_noted now peer) (most_like now peer) at)))))))

  -- up to where players leave
  pub seen_so : (now k frame : ℕ) (peer : Peered) → At peer → At (looked_after now k (moved_to frame peer))
  seen_so now k frame peer at =
      looked_so now k (moved_to frame peer)
      (as_like peer (moved_to frame peer) (either_like _ peer _ _ (like peer) (over_like (record peer { frame = frame }))) at)

module _ (match : Match) (world : WordWorld) (i : ℕ) (from : IsFrom match world) (there : i < match.machines) where
  polls_stand : (before after : Seen) (old new : Peered) (refusal : Option Refusal) → Polls before after old new refusal
      → Stands match world i before old → Stands match world i after new
  polls_stand before after old new refusal polls at =
      let seen : Peered = looked_after (moment_of old) old.settings.machines (moved_to before.core.frame old) in
      let looked : Stands match world i before seen =
      seen_so (Stands match world i before)
      (λ was now same at. stands_as match world i from there before was now same.0 same.1 at)
      (stands_without match world i from there before)
      (moment_of old) old.settings.machines before.core.frame old at in
      let settings : polls.parted.settings ≡ seen.settings = ap (λ (p : Peered). p.settings) polls.parts.rest in
      let parted : Stands match world i after polls.parted =
      stands_parted match world i from there before after seen polls.parted polls.parts.who polls.parts.leaves settings looked in
      let same = like_as polls.parted (begun polls.parted) new polls.begins (begun_like polls.parted) in
      stands_as match world i from there after polls.parted new same.0 same.1 parted

  pub polled_stands : (before after : Seen) (old new : Peered) (result : Result Unit PeerRefusal)
      → IsPolled before after old new result
      → Stands match world i before old → Stands match world i after new
  polled_stands before after old new (Ok done) polled at =
      polls_stand before after (meeting before old) new _ polled.1 (stands_met match world i from there before old polled.0 at)
  polled_stands before after old new (Err OtherSession) polled at =
      subst (λ (p : Peered). Stands match world i after p) (sym polled.1)
      (subst (λ (s : Seen). Stands match world i s old) (sym polled.2) at)
  polled_stands before after old new (Err (Session why)) polled at =
      polls_stand before after (meeting before old) new _ polled.1 (stands_met match world i from there before old polled.0 at)
