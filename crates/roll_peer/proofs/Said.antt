-- What the definitions say that stand closed in the contracts of a peer.
use Rattle.std.proofs.Common.{◌≡◌, ℕ, List, refl}
use Rattle.std.specs.Prelude.{true, false, ◌-◌, ◌&&◌, ◌==◌, not, is_some, if◌then◌else◌, slice_set}
use Rattle.std.specs.Option.{option_map}
use Rattle.roll_member.specs.Telling.{queued}
use Rattle.roll_peer.specs.Events.{pushed}
use Rattle.roll_peer.specs.Notices.{told}
use Rattle.roll_peer.specs.Paces.{paced, wait_of}
use Rattle.roll_peer.specs.Peered.{contact_at, Peered}
use Rattle.roll_peer.specs.Receiving.{byte_at, deaf_to, ignored_sized, key_of, moment_of, open_by, opened, sender_of, unheard_in}
use Rattle.roll_peer.specs.Sending.{after_send, is_lost, stats_of, with_sent}
use Rattle.roll_peer.specs.declared.receiving.TheConstants.{KIND_AT}
use Rattle.roll_peer.specs.Turning.{are_ready, begun, is_mistaken, lead_in, over, strangers_told}
use Rattle.roll_peer.specs.declared.event.PeerEvent.TheVariants.{Running, Strangers, TimeSync}

pub opened_is : (peer : Peered) (bytes : List ℕ)
    → opened peer bytes ≡ open_by peer.settings.takes_marks (key_of peer (sender_of bytes) (byte_at bytes KIND_AT)) bytes
unfolding opened
opened_is peer bytes = refl

pub ignored_is : (peer : Peered) (bytes : List ℕ) → ignored_sized peer bytes
    ≡ (if is_some (deaf_to peer (sender_of bytes)) then deaf_to peer (sender_of bytes)
    else unheard_in peer (sender_of bytes) (opened peer bytes))
unfolding ignored_sized
ignored_is peer bytes = refl

pub over_is : (peer : Peered) → over peer ≡ record peer {
  pace = paced (lead_in peer) peer.pace;
  waiting = told peer.waiting (option_map TimeSync (wait_of (lead_in peer) peer.pace));
}
unfolding over
over_is peer = refl

pub begun_is : (peer : Peered) → begun peer
    ≡ (if not peer.running && are_ready peer peer.member.mesh
    then record peer { running = true; waiting = pushed peer.waiting Running } else peer)
unfolding begun
begun_is peer = refl

pub strangers_told_is : (now : ℕ) (peer : Peered) → strangers_told now peer
    ≡ (if is_mistaken peer now
    then record peer {
      strangers = record peer.strangers { told = true };
      waiting = pushed peer.waiting (Strangers peer.strangers.count);
    } else peer)
unfolding strangers_told
strangers_told_is now peer = refl

pub after_send_is : (peer : Peered) (m : ℕ) → after_send peer m
    ≡ (if is_lost peer m then peer
    else record peer { contacts = slice_set peer.contacts m (with_sent (moment_of peer) (contact_at peer m)) })
unfolding after_send
after_send_is peer m = refl

pub after_send_to : (peer : Peered) (m : ℕ) → is_lost peer m ≡ false → after_send peer m
    ≡ record peer { contacts = slice_set peer.contacts m (with_sent (moment_of peer) (contact_at peer m)) }
after_send_to peer m e = rw (after_send_is peer m, e) refl

pub stats_are : (peer : Peered) (m : ℕ) → stats_of peer m ≡ record {
  round_trip = (contact_at peer m).round_trip;
  sent = (contact_at peer m).sent;
  received = (contact_at peer m).received;
  lost = (contact_at peer m).expected - (contact_at peer m).received;
  words_queued = if is_lost peer m then 0 else queued peer.member.mesh m;
  frames_behind = (contact_at peer m).behind;
  their_frames_behind = (contact_at peer m).their_behind;
  refused = (contact_at peer m).refused;
  dropped = (contact_at peer m).dropped;
  restarted = not ((contact_at peer m).restarted == 0);
}
unfolding stats_of
stats_are peer m = refl
