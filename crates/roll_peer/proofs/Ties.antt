-- A session stays tied to what is known of the others, whoever is regarded as gone.
use Rattle.std.proofs.Common.{ℕ, zero, suc, sym, subst, Bool, true, false, Option, None, Some}
use Rattle.std.specs.Prelude.{is_none, if◌then◌else◌}
use Rattle.roll_member.proofs.Tied.{leave_tied}
use Rattle.roll_member.specs.Joined.{IsTied}
use Rattle.roll_mesh.specs.Meshes.{leave_refusal, stepped, Seated}
use Rattle.roll_mesh.specs.Machines.{leave}
use Rattle.roll_session.specs.Seen.{Seen}
use Rattle.roll_peer.specs.Peered.{Peered}
use Rattle.roll_peer.specs.CutOffs.{cut_off_since, most_noted}
use Rattle.roll_peer.specs.Turning.{begun, desync_in, desync_told, desync_until, farewell_until, hushed_until, looked_after, missed_until, moved_to, silenced_until, stall_told, strangers_told, timed, watched_at, watched_until, without}
use Rattle.roll_peer.proofs.Said.{begun_is, over_is, strangers_told_is}

module _ (s : Seen) where
  abbrev IsTiedTo : Peered → Type 0
  IsTiedTo peer = IsTied s peer.member.mesh

  without_tied : (m : ℕ) (mesh : Seated) → IsTied s mesh → IsTied s (without m mesh)
  without_tied m mesh tied = go (is_none (leave_refusal mesh m))
    where
      go : (b : Bool) → IsTied s (if b then stepped (λ seat here. leave seat m here) mesh else mesh)
      go true = leave_tied s mesh m tied
      go false = tied

  -- one of two peers, each of them tied
  either : (b : Bool) (p q : Peered) → IsTiedTo p → IsTiedTo q → IsTiedTo (if b then p else q)
  either true p q h k = h
  either false p q h k = k

  silenced_tied : (now k : ℕ) (peer : Peered) → IsTiedTo peer → IsTiedTo (silenced_until now k peer)
  unfolding silenced_until
  silenced_tied now zero peer h = h
  silenced_tied now (suc m) peer h =
      let before = silenced_tied now m peer h in
      either _ _ _ (without_tied m (silenced_until now m peer).member.mesh before) before

  watched_tied : (now k : ℕ) (peer : Peered) → IsTiedTo peer → IsTiedTo (watched_until now k peer)
  unfolding watched_until watched_at
  watched_tied now zero peer h = h
  watched_tied now (suc m) peer h =
      let before = watched_tied now m peer h in
      let told : IsTiedTo (stall_told now m (timed now m (watched_until now m peer))) = either _ _ _ before before in
      either _ _ _ (without_tied m (stall_told now m (timed now m (watched_until now m peer))).member.mesh told) told

  hushed_tied : (now k : ℕ) (peer : Peered) → IsTiedTo peer → IsTiedTo (hushed_until now k peer)
  unfolding hushed_until
  hushed_tied now zero peer h = h
  hushed_tied now (suc m) peer h = hushed_tied now m peer h

  missed_tied : (now k : ℕ) (peer : Peered) → IsTiedTo peer → IsTiedTo (missed_until now k peer)
  unfolding missed_until
  missed_tied now zero peer h = h
  missed_tied now (suc m) peer h =
      let before = missed_tied now m peer h in either _ _ _ before before

  strangers_tied : (now : ℕ) (peer : Peered) → IsTiedTo peer → IsTiedTo (strangers_told now peer)
  strangers_tied now peer h =
      subst (λ (p : Peered). IsTiedTo p) (sym (strangers_told_is now peer)) (either _ _ _ h h)

  desync_tied : (m : ℕ) (frame : Option ℕ) (peer : Peered) → IsTiedTo peer → IsTiedTo (desync_told m frame peer)
  desync_tied m None peer h = h
  desync_tied m (Some frame) peer h = h

  desyncs_tied : (now k : ℕ) (peer : Peered) → IsTiedTo peer → IsTiedTo (desync_until now k peer)
  unfolding desync_until
  desyncs_tied now zero peer h = h
  desyncs_tied now (suc m) peer h =
      let before : Peered = desync_until now m peer in
      desync_tied m (desync_in before now m) before (desyncs_tied now m peer h)

  farewell_tied : (k : ℕ) (peer : Peered) → IsTiedTo peer → IsTiedTo (farewell_until k peer)
  unfolding farewell_until
  farewell_tied zero peer h = h
  farewell_tied (suc m) peer h =
      let before = farewell_tied m peer h in either _ _ _ before before

  most_tied : (now : ℕ) (peer : Peered) → IsTiedTo peer → IsTiedTo (most_noted now peer)
  most_tied now peer h = either _ _ _ (since_tied now peer.cut_off.since _ h) h
    where
      since_tied : (now : ℕ) (at : Option ℕ) (p : Peered) → IsTiedTo p → IsTiedTo (cut_off_since now at p)
      since_tied now None p h = h
      since_tied now (Some at) p h = h

  moved_tied : (frame : ℕ) (peer : Peered) → IsTiedTo peer → IsTiedTo (moved_to frame peer)
  moved_tied frame peer h =
      either _ _ _ h (subst (λ (p : Peered). IsTiedTo p) (sym (over_is (record peer { frame = frame }))) h)

  pub looked_tied : (now k frame : ℕ) (peer : Peered) → IsTiedTo peer
      → IsTiedTo (looked_after now k (moved_to frame peer))
  looked_tied now k frame peer h =
      farewell_tied k _ (desyncs_tied now k _ (strangers_tied now _ (missed_tied now k _ (hushed_tied now k _ (watched_tied now k _
      (silenced_tied now k (most_noted now (moved_to frame peer)) (most_tied now (moved_to frame peer) (moved_tied frame peer h))))))))

  pub begun_tied : (peer : Peered) → IsTiedTo peer → IsTiedTo (begun peer)
  begun_tied peer h = subst (λ (p : Peered). IsTiedTo p) (sym (begun_is peer)) (either _ _ _ h h)
