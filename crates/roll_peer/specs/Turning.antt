-- A turn: silent machines are gone, players leave, and the session rolls.
use Rattle.std.specs.Prelude.{◌≡◌, ◌⊎◌, ℕ, zero, suc, ℤ, ◌+◌, ◌-◌, ◌^◌, min, List, filter, Bool, true, false, not, ◌&&◌, ◌||◌, ◌==◌, nat_lt, Option, Some, None, is_none, Result, Ok, Err, if◌then◌else◌, slice_set}
use Rattle.std.specs.Option.{option_map, option_map_or}
use Rattle.std.specs.List.{last_or, list_all, range_with_len}
use Rattle.roll_frame.specs.Timeline.{timeline}
use Rattle.roll_frame.specs.declared.limits.TheConstants.{DELAY_LIMIT}
use Rattle.roll_frame.specs.declared.entry.Entry.{Entry}
use Rattle.roll_frame.specs.declared.entry.Entry.TheVariants.{Local, Remote, Disconnect, Sync, Advance, Graft, Partial}
use Rattle.roll_frame.specs.declared.refusal.Refusal.{Refusal}
use Rattle.roll_frame.specs.declared.refusal.Refusal.TheVariants.{LocalInputMissing}
use Rattle.roll_member.specs.Beside.{IsOf}
use Rattle.roll_member.specs.Leaving.{Leaves}
use Rattle.roll_member.specs.declared.leaving.Left.{Left as WhoLeft}
use Rattle.roll_mesh.specs.declared.limits.TheConstants.{MACHINE_LIMIT, PLAYER_LIMIT}
use Rattle.roll_mesh.specs.Machines.{is_fenced, is_in, leave}
use Rattle.roll_mesh.specs.Meshes.{leave_refusal, stepped, Seated}
use Rattle.roll_session.specs.Changes.{advance_refusal, after_advance, after_sync, reached_by, sync_refusal, IsRollRefused}
use Rattle.roll_session.specs.declared.event.Reached.{Reached}
use Rattle.roll_session.specs.Seen.{Seen}
use Rattle.roll_contact.specs.Clocks.{since}
use Rattle.roll_contact.specs.Contacts.{hushed, is_silent}
use Rattle.roll_mesh.specs.HoldingUp.{holds_up, is_free, lacks, most_of}
use Rattle.roll_peer.specs.Comparisons.{to_tell}
use Rattle.roll_peer.specs.CutOffs.{most_noted}
use Rattle.roll_peer.specs.Events.{pushed}
use Rattle.roll_peer.specs.Marks.{end_among}
use Rattle.roll_peer.specs.Notices.{interrupted, player_left, told, told_of}
use Rattle.roll_peer.specs.Paces.{paced, slowest, wait_of}
use Rattle.roll_peer.specs.declared.event.PeerEvent.TheVariants.{Desync, Running, TimeSync, Left, Missing, Stalled, Strangers}
use Rattle.roll_peer.specs.Peered.{beside, comparison_at, contact_at, stall_at, Peered}
use Rattle.roll_peer.specs.Receiving.{meeting, moment_of, IsOther}
use Rattle.roll_peer.specs.Settings.{farthest_of, patience_of}
use Rattle.roll_peer.specs.Stalls.{held_for, is_overdue, is_taking, is_to_tell, watched}
use Rattle.roll_peer.specs.Strangers.{are_to_tell}
use Rattle.roll_peer.specs.declared.stall.Wait.{Wait}
use Rattle.roll_peer.specs.declared.stall.Wait.TheVariants.{Coming, Giving, Taking}
use Rattle.roll_peer.specs.declared.refusal.PeerRefusal.{PeerRefusal}
use Rattle.roll_peer.specs.declared.refusal.PeerRefusal.TheVariants.{OtherSession, Session}

-- a machine is gone, unless it is this one, or there is no such machine
abbrev pub without : ℕ → Seated → Seated
without m mesh =
    if is_none (leave_refusal mesh m)
    then stepped (λ seat machine. leave seat m machine) mesh else mesh

-- whether a machine is ready to play, or needn't be: it is gone, or this one
abbrev pub is_ready_at : Peered → Seated → ℕ → Bool
is_ready_at peer mesh m =
    (m == mesh.seat.me) || (is_in mesh.machine.gone m || (contact_at peer m).confirmed)

abbrev pub are_ready : Peered → Seated → Bool
are_ready peer mesh = list_all (is_ready_at peer mesh) (range_with_len 0 mesh.seat.machines)

-- whether there are more words of a machine's players than it can have given at its first frame
abbrev pub gave_on : Seated → ℕ → Bool
gave_on mesh m = nat_lt (DELAY_LIMIT + 1) (most_of mesh.seat mesh.machine.has m PLAYER_LIMIT)

-- whether a machine has ever shown that it is past its first frame, by what it said or gave: in this epoch, or in one before that it
-- played too
unfoldable pub has_begun : Peered → ℕ → Bool
has_begun peer m =
    (stall_at peer m).begun
    || (option_map_or (λ theirs. nat_lt 0 theirs.frame) (contact_at peer m).their_clocks false
    || gave_on peer.member.mesh m)

-- whether a machine has told its clocks in this epoch, as it does with its plays: since this network was opened
unfoldable pub has_come : Peered → ℕ → ℕ → Bool
has_come peer now m =
    (stall_at peer m).came
    || option_map_or (λ theirs. nat_lt (since now theirs.heard_at) (since now peer.opened))
    (contact_at peer m).their_clocks false

-- whether a machine plays on in this epoch, or needn't: it has come, and has begun; or it is gone, or this one
abbrev pub plays_on : Peered → ℕ → ℕ → Bool
plays_on peer now m =
    is_fenced peer.member.mesh.seat peer.member.mesh.machine m
    || (has_come peer now m && has_begun peer m)

-- for how long this network has been open past the time after which one that was silent in the epoch before is gone
abbrev pub overtime : Peered → ℕ → ℕ
overtime peer now = since now peer.opened - patience_of peer.settings

-- whether a machine was never heard, and is waited for no longer: who brings it may have waited itself, in the epoch before, for one
-- that is silent
abbrev pub is_absent : Peered → ℕ → ℕ → Bool
is_absent peer now m =
    not (is_ready_at peer peer.member.mesh m)
    && nat_lt peer.settings.silent_after (overtime peer now)

-- whether who doesn't play on will be gone for that: in the first epoch nobody will
abbrev pub is_due : Peered → ℕ → ℕ → Bool
is_due peer now m =
    peer.follows && (not (plays_on peer now m) && nat_lt 0 peer.settings.stalled_after)

-- whether a machine doesn't play on, and whoever could keep it from that would be gone by now: in the epoch before, or as somebody
-- else comes, one that is silent or stalled
abbrev pub stays_behind : Peered → ℕ → ℕ → Bool
stays_behind peer now m =
    is_due peer now m
    && nat_lt (peer.settings.silent_after + peer.settings.stalled_after) (overtime peer now)

-- whether a machine hasn't come for too long: the match has begun, and goes on without it
abbrev pub is_late : Peered → ℕ → ℕ → Bool
is_late peer now m = peer.running && (is_absent peer now m || stays_behind peer now m)

-- whether a machine was silent for too long, or hasn't come for too long, for one that hears most
abbrev pub is_out : Peered → ℕ → ℕ → Bool
is_out peer now m =
    peer.cut_off.hears_most
    && (is_silent (contact_at peer m) now peer.settings.silent_after || is_late peer now m)

-- such a machine is gone
abbrev pub silenced_at : ℕ → ℕ → Peered → Peered
silenced_at now m peer =
    if is_out peer now m
    then record peer { member = record peer.member { mesh = without m peer.member.mesh } }
    else peer

unfoldable pub silenced_until : ℕ → ℕ → Peered → Peered
silenced_until now zero peer = peer
silenced_until now (suc m) peer = silenced_at now m (silenced_until now m peer)

-- whether a machine that was heard to greet in this epoch, or played in the one before, hasn't come to this one
abbrev pub is_coming : Peered → ℕ → ℕ → Bool
is_coming peer now m =
    peer.follows
    && (not (is_fenced peer.member.mesh.seat peer.member.mesh.machine m)
    && ((contact_at peer m).confirmed && not (has_come peer now m)))

-- so many words, if the epoch's last one isn't among them
abbrev pub before_end : (end : ℕ) → Option ℕ → Option ℕ
before_end end None = None
before_end end (Some words) = if nat_lt words end then Some words else None

abbrev pub or_taking : Option ℕ → Option ℕ → Option Wait
or_taking (Some given) taken = Some (Giving given)
or_taking None (Some taken) = Some (Taking taken)
or_taking None None = None

-- what of words a machine is waited for: it could give its next one, or lacks one of this machine's; not past the epoch's end
abbrev pub wait_of_words : Peered → Seated → ℕ → Option Wait
wait_of_words peer mesh m =
    let end = end_among peer.voids peer.marks PLAYER_LIMIT in
    or_taking (before_end end (holds_up mesh.seat mesh.machine peer.member.limits.threshold m))
    (before_end end (lacks mesh.seat mesh.machine m))

-- what a machine is waited for, if it holds up the match
abbrev pub waited_for : Peered → ℕ → ℕ → Option Wait
waited_for peer now m =
    if peer.running
    then (if is_coming peer now m then Some Coming else wait_of_words peer peer.member.mesh m)
    else None

-- for how many milliseconds a machine may hold up the match, 0 if it may for ever: where something may keep it that this one doesn't
-- see, until that would be gone. A mark that isn't known here may always keep it from taking words
abbrev pub stall_limit : Peered → Seated → ℕ → ℕ
stall_limit peer mesh m =
    if peer.settings.stalled_after == 0 then 0
    else if not (is_taking (stall_at peer m).wait)
    && is_free mesh.seat mesh.machine peer.member.limits.threshold m
    then peer.settings.stalled_after
    else min (2 ^ 32 - 1) (patience_of peer.settings + peer.settings.stalled_after)

-- after how many milliseconds more it is gone for holding up the match, 0 if it isn't at all
abbrev pub time_left : Peered → ℕ → ℕ → ℕ
time_left peer now m =
    if is_due peer now m then farthest_of peer.settings - since now peer.opened
    else if has_begun peer m
    then stall_limit peer peer.member.mesh m - held_for (stall_at peer m) now else 0

-- that is told, if it is due
abbrev pub stall_told : ℕ → ℕ → Peered → Peered
stall_told now m peer =
    if is_to_tell (stall_at peer m) now peer.settings.notify_after
    then record peer {
      stalls = slice_set peer.stalls m (record (stall_at peer m) { told = true });
      waiting = pushed peer.waiting (Stalled m (time_left peer now m));
    }
    else peer

-- whether a machine has done so for too long, and isn't kept from beginning or from coming, for one that hears most
abbrev pub is_stalled : Peered → ℕ → ℕ → Bool
is_stalled peer now m =
    peer.cut_off.hears_most
    && (has_begun peer m && (not (is_coming peer now m)
    && is_overdue (stall_at peer m) now (stall_limit peer peer.member.mesh m)))

-- such a machine is gone
abbrev pub stall_ended : ℕ → ℕ → Peered → Peered
stall_ended now m peer =
    if is_stalled peer now m
    then record peer { member = record peer.member { mesh = without m peer.member.mesh } }
    else peer

-- it is known for how long a machine has held up the match, and whether it has begun and come
abbrev pub timed : ℕ → ℕ → Peered → Peered
timed now m peer = record peer {
  stalls = slice_set peer.stalls m
      (record (watched (waited_for peer now m) now (stall_at peer m)) {
        begun = has_begun peer m;
        came = has_come peer now m;
      });
}

-- it is watched whether a machine holds up the match
unfoldable pub watched_at : ℕ → ℕ → Peered → Peered
watched_at now m peer = stall_ended now m (stall_told now m (timed now m peer))

-- of the first so many machines, in their order
unfoldable pub watched_until : ℕ → ℕ → Peered → Peered
watched_until now zero peer = peer
watched_until now (suc m) peer = watched_at now m (watched_until now m peer)

-- the silence of a machine is told, if that is due
abbrev pub hushed_at : ℕ → ℕ → Peered → Peered
hushed_at now m peer = record peer {
  contacts = slice_set peer.contacts m (hushed (contact_at peer m) now peer.settings.notify_after);
  waiting = told peer.waiting
      (interrupted peer.settings peer.member.mesh.machine.gone (contact_at peer m) now m);
}

-- that of the first so many machines, in their order
unfoldable pub hushed_until : ℕ → ℕ → Peered → Peered
hushed_until now zero peer = peer
hushed_until now (suc m) peer = hushed_at now m (hushed_until now m peer)

-- whether this network was opened so long ago that the others should have come
abbrev pub has_waited : Peered → ℕ → Bool
has_waited peer now =
    nat_lt 0 peer.settings.silent_after
    && nat_lt peer.settings.silent_after (since now peer.opened)

-- whether it is to be told that a machine hasn't come
abbrev pub is_missed : Peered → ℕ → ℕ → Bool
is_missed peer now m =
    has_waited peer now
    && (not (stall_at peer m).missed && not (is_ready_at peer peer.member.mesh m))

abbrev pub missed_at : ℕ → ℕ → Peered → Peered
missed_at now m peer =
    if is_missed peer now m
    then record peer {
      stalls = slice_set peer.stalls m (record (stall_at peer m) { missed = true });
      waiting = pushed peer.waiting (Missing m);
    }
    else peer

unfoldable pub missed_until : ℕ → ℕ → Peered → Peered
missed_until now zero peer = peer
missed_until now (suc m) peer = missed_at now m (missed_until now m peer)

-- the frame of which it is to be told that a machine's state differs there
abbrev pub desync_in : Peered → ℕ → ℕ → Option ℕ
desync_in peer now m =
    to_tell peer.digests now (is_in peer.member.mesh.machine.gone m) (comparison_at peer m) (comparison_at peer m).differs

abbrev pub desync_told : ℕ → Option ℕ → Peered → Peered
desync_told m None peer = peer
desync_told m (Some frame) peer = record peer {
  comparisons = slice_set peer.comparisons m (record (comparison_at peer m) { told = true });
  waiting = pushed peer.waiting (Desync m frame);
}

abbrev pub desync_at : ℕ → ℕ → Peered → Peered
desync_at now m peer = desync_told m (desync_in peer now m) peer

-- of the first so many machines, in their order
unfoldable pub desync_until : ℕ → ℕ → Peered → Peered
desync_until now zero peer = peer
desync_until now (suc m) peer = desync_at now m (desync_until now m peer)

-- whether it is to be told that strangers came: some did, and a machine didn't that should have
abbrev pub is_mistaken : Peered → ℕ → Bool
is_mistaken peer now =
    has_waited peer now
    && (are_to_tell peer.strangers && not (are_ready peer peer.member.mesh))

unfoldable pub strangers_told : ℕ → Peered → Peered
strangers_told now peer =
    if is_mistaken peer now
    then record peer {
      strangers = record peer.strangers { told = true };
      waiting = pushed peer.waiting (Strangers peer.strangers.count);
    }
    else peer

-- a machine is told to be gone, once, with what its bye said
abbrev pub farewell_at : ℕ → Peered → Peered
farewell_at m peer =
    if is_in peer.member.mesh.machine.gone m && not (is_in peer.known_gone m)
    then record peer {
      known_gone = slice_set peer.known_gone m true;
      waiting = pushed peer.waiting (Left m (contact_at peer m).bye);
    }
    else peer

unfoldable pub farewell_until : ℕ → Peered → Peered
farewell_until zero peer = peer
farewell_until (suc m) peer = farewell_at m (farewell_until m peer)

-- the players of who is gone leave, if they may
pub record IsParted (before after : Seen) (old new : Peered) (refusal : Option Refusal) : Type 0 where
  pub who : WhoLeft
  pub leaves : Leaves (beside before old) (beside after new) who
  pub limits : new.member.limits ≡ old.member.limits
  pub why : refusal ≡ who.refusal
  pub rest : new ≡ record old {
    member = new.member;
    waiting = told_of (player_left who.players) PLAYER_LIMIT old.waiting;
  }

-- the match begins once all are ready
unfoldable pub begun : Peered → Peered
begun peer =
    if not peer.running && are_ready peer peer.member.mesh
    then record peer { running = true; waiting = pushed peer.waiting Running }
    else peer

-- how far the machine that this one is furthest ahead of is behind
abbrev pub lead_in : Peered → Option (ℤ × ℤ)
lead_in peer = slowest peer.member.mesh.machine.gone peer.contacts MACHINE_LIMIT

-- a frame is over: it is noted how far the machines are from one another, and now and then told how long to wait
unfoldable pub over : Peered → Peered
over peer = record peer {
  pace = paced (lead_in peer) peer.pace;
  waiting = told peer.waiting (option_map TimeSync (wait_of (lead_in peer) peer.pace));
}

-- the session is at a frame: if it was at another when it was polled last, that one is over
abbrev pub moved_to : ℕ → Peered → Peered
moved_to frame peer = if frame == peer.frame then peer else over (record peer { frame = frame })

-- it is looked at whether this machine hears most; machine by machine: who was silent for too long is gone, and so is who held up the match for too long; what is due is told
abbrev pub looked_after : ℕ → ℕ → Peered → Peered
looked_after now machines peer =
    farewell_until machines (desync_until now machines (strangers_told now (missed_until now machines
    (hushed_until now machines (watched_until now machines (silenced_until now machines (most_noted now peer)))))))

-- a poll of a session that was met, and why a player who is to leave is still there
pub record Polls (before after : Seen) (old new : Peered) (refusal : Option Refusal) : Type 0 where
  pub parted : Peered
  pub parts : IsParted before after
      (looked_after (moment_of old) old.settings.machines (moved_to before.core.frame old)) parted refusal
  pub begins : new ≡ begun parted

-- a poll, or why there is none: the session is another, and nothing changes
abbrev pub IsPolled : (before after : Seen) → (old new : Peered) → Result Unit PeerRefusal → Type 0
IsPolled before after old new (Ok done) =
    IsOf before old.member × Polls before after (meeting before old) new None
IsPolled before after old new (Err OtherSession) =
    IsOther before old × (new ≡ old) × (after ≡ before)
IsPolled before after old new (Err (Session why)) =
    IsOf before old.member × Polls before after (meeting before old) new (Some why)

-- ---- the game

-- whether an entry is a roll that went to its end
abbrev pub is_roll : Entry → Bool
is_roll Sync = true
is_roll Advance = true
is_roll (Local player word) = false
is_roll (Remote player frame word) = false
is_roll (Disconnect player) = false
is_roll (Graft ticket route) = false
is_roll (Partial to made) = false

-- whether an entry took in a branch, which changes nothing of what is shown
abbrev pub is_graft : Entry → Bool
is_graft Sync = false
is_graft Advance = false
is_graft (Local player word) = false
is_graft (Remote player frame word) = false
is_graft (Disconnect player) = false
is_graft (Graft ticket route) = true
is_graft (Partial to made) = false

-- whether nothing was accepted since one, but branches: the last entry that is none is a roll that went to its end
abbrev pub ends_in_roll : List Entry → Bool
ends_in_roll log =
    option_map_or is_roll (last_or None (filter (λ entry. not (is_graft entry)) log)) false

-- the state shown is that of what is known of the players, and of the predictions for the rest
abbrev pub IsUpToDate : Seen → Type 0
IsUpToDate s = s.core.shown ≡ Some (timeline s.core.players s.core.frame)

-- the session goes to the next frame, if its words are there; else it rolls back, unless nothing but branches was accepted since
-- it did
abbrev pub Plays : (before after : Seen) → Result (Option Reached) Refusal → Type 0
Plays before after (Ok (Some reached)) =
    (advance_refusal before ≡ None) × (reached ≡ reached_by before.core)
    × (after ≡ after_advance before)
Plays before after (Ok None) =
    (advance_refusal before ≡ Some LocalInputMissing)
    × (after ≡ (if ends_in_roll before.log then before else after_sync before))
Plays before after (Err why) =
    IsRollRefused (advance_refusal before) before after (before.core.frame + 1) why
    ⊎ IsRollRefused (sync_refusal before) before after before.core.frame why

-- nothing is played before the match has begun
abbrev pub PlaysIf : Bool → (before after : Seen) → Result (Option Reached) Refusal → Type 0
PlaysIf true before after result = Plays before after result
PlaysIf false before after result = (after ≡ before) × (result ≡ Ok None)

-- what follows a poll
abbrev pub GoesOn : Result Unit PeerRefusal → Bool → (before after : Seen)
    → Result (Option Reached) PeerRefusal → Type 0
GoesOn (Ok done) running before after (Ok reached) = PlaysIf running before after (Ok reached)
GoesOn (Ok done) running before after (Err (Session why)) = PlaysIf running before after (Err why)
GoesOn (Ok done) running before after (Err OtherSession) = ⊥
GoesOn (Err why) running before after result = (after ≡ before) × (result ≡ Err why)

-- a turn: a poll, and then the game
pub record Turns (before after : Seen) (old new : Peered) (result : Result (Option Reached) PeerRefusal)
    : Type 0 where
  pub polled : Seen
  pub poll : Result Unit PeerRefusal
  pub polls : IsPolled before polled old new poll
  pub plays : GoesOn poll new.running polled after result
