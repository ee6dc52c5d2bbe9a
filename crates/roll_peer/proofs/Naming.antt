-- Each event names a machine of the match.
use Rattle.std.proofs.Common.{◌≡◌, ◌∙◌, ◌≤◌, ℕ, zero, suc, List, [], ◌∷◌, length, drop, refl, sym, subst, arith, Bool, true, false, Option, Some, None}
use Rattle.std.specs.Prelude.{◌==◌, ◌&&◌, is_some, not, nat_le, nat_lt, if◌then◌else◌, All, IfSome}
use Rattle.std.specs.Option.{option_map}
use Rattle.std.proofs.lemmas.Bool.{leb-false, lt-ltb}
use Rattle.std.proofs.lemmas.List.Elements.{All-push, All-tail}
use Rattle.roll_contact.specs.Contacts.{heard_too, refused}
use Rattle.roll_contact.specs.declared.contact.Contact.{Contact}
use Rattle.roll_contact.specs.declared.contact.Stage.{Stage}
use Rattle.roll_contact.specs.declared.contact.Stage.TheVariants.{Silent, Greeted, Playing, Mismatched}
use Rattle.roll_contact.specs.declared.terms.Field.{Field}
use Rattle.roll_frame.specs.declared.refusal.Refusal.{Refusal}
use Rattle.roll_mesh.proofs.Changes.{none_some}
use Rattle.roll_mesh.specs.declared.limits.TheConstants.{PLAYER_LIMIT}
use Rattle.roll_session.specs.Seen.{Seen, Step}
use Rattle.roll_wire.specs.Spelling.{Content, Greets, Leaves, Plays}
use Rattle.roll_peer.specs.Events.{pushed}
use Rattle.roll_peer.specs.Disputes.{dispute_at, dispute_told, disputed, found_two, newly_found}
use Rattle.roll_peer.specs.Following.{dispute_beside, heard_beside}
use Rattle.roll_peer.specs.Laws.{AreNamed, EventsNameMachines, IsNamed}
use Rattle.roll_peer.specs.Notices.{after_heard, came, found_out, mismatched, newly, only_if, player_left, refusing, restarting, resumed, told, told_of}
use Rattle.roll_peer.specs.Paces.{wait_of}
use Rattle.roll_peer.specs.Peered.{contact_at, Peered}
use Rattle.roll_peer.specs.Receiving.{after_ignored, after_words, ignored, ignored_sized, is_dropped, is_refusal, is_sized, knowing, knowing_of, marks_after, moment_of, refused_of, sender_of, Hears}
use Rattle.roll_peer.specs.Sending.{is_lost}
use Rattle.roll_peer.specs.CutOffs.{cut_off_since, hears_most, most_noted}
use Rattle.roll_peer.specs.Turning.{desync_in, desync_told, desync_until, farewell_until, hushed_until, lead_in, looked_after, missed_until, moved_to, over, silenced_until, stall_ended, stall_told, strangers_told, timed, watched_at, watched_until, Polls}
use Rattle.roll_peer.specs.Waiting.{Waiting}
use Rattle.roll_peer.specs.declared.event.PeerEvent.{PeerEvent}
use Rattle.roll_peer.specs.declared.event.PeerEvent.TheVariants.{Dropped, TimeSync, TwoMarks}
use Rattle.roll_peer.specs.declared.event.TheConstants.{EVENT_LIMIT}
use Rattle.roll_peer.specs.declared.received.Ignored.{Ignored}
use Rattle.roll_peer.specs.declared.received.Ignored.TheVariants.{InvalidMachine, NotSealed}
use Rattle.roll_peer.specs.declared.received.Received.{Received}
use Rattle.roll_peer.specs.declared.received.Received.TheVariants.{Hello as HelloHeard, Play as PlayHeard, Bye as ByeHeard}
use Rattle.roll_peer.proofs.Said.{begun_is, ignored_is, over_is, strangers_told_is}

-- ---- one more event

module _ (n : ℕ) where
  kept : (events : List PeerEvent) → All (IsNamed n) events → All (IsNamed n) (drop 1 events)
  kept [] h = h
  kept (event ∷ events) h = All-tail (IsNamed n) event events h

  push_named : (waiting : Waiting) (event : PeerEvent) → AreNamed n waiting → IsNamed n event
      → AreNamed n (pushed waiting event)
  push_named waiting event h e = go (length waiting.events == EVENT_LIMIT) refl
    where
      go : (b : Bool) → (length waiting.events == EVENT_LIMIT) ≡ b → AreNamed n (pushed waiting event)
      go true f = rw f (All-push (IsNamed n) (drop 1 waiting.events) event (kept waiting.events h) e)
      go false f = rw f (All-push (IsNamed n) waiting.events event h e)

  told_named : (waiting : Waiting) (event : Option PeerEvent) → AreNamed n waiting
      → IfSome event (IsNamed n) → AreNamed n (told waiting event)
  told_named waiting None h e = h
  told_named waiting (Some event) h e = push_named waiting event h e

  only_named : (b : Bool) (event : PeerEvent) → IsNamed n event → IfSome (only_if b event) (IsNamed n)
  only_named true event e = e
  only_named false event e = tt

  module _ (m : ℕ) (l : nat_lt m n ≡ true) where
    came_named : (before after : Stage) → IfSome (came m before after) (IsNamed n)
    came_named Playing after = tt
    came_named Silent Playing = l
    came_named Silent Greeted = l
    came_named Silent Silent = tt
    came_named Silent (Mismatched field) = tt
    came_named Greeted Playing = l
    came_named Greeted Greeted = tt
    came_named Greeted Silent = tt
    came_named Greeted (Mismatched field) = tt
    came_named (Mismatched was) Playing = l
    came_named (Mismatched was) Greeted = tt
    came_named (Mismatched was) Silent = tt
    came_named (Mismatched was) (Mismatched field) = tt

    mismatch_named : (field : Option Field) → IfSome (mismatched m field) (IsNamed n)
    mismatch_named None = tt
    mismatch_named (Some field) = l

    heard_named : (before after : Contact) (waiting : Waiting) → AreNamed n waiting
        → AreNamed n (after_heard m before after waiting)
    unfolding after_heard
    heard_named before after waiting h =
        told_named _ (refusing m before after)
        (told_named _ (restarting m before after)
        (told_named _ (found_out m before.differs after.differs)
        (told_named _ (came m before.stage after.stage)
        (told_named waiting (resumed m before after) h
        (only_named (before.interrupted && not after.interrupted) _ l))
        (came_named before.stage after.stage))
        (mismatch_named (newly before.differs after.differs)))
        (only_named _ _ l))
        (only_named _ _ l)

  either : (b : Bool) (p q : Peered) → AreNamed n p.waiting → AreNamed n q.waiting
      → AreNamed n (if b then p else q).waiting
  either true p q h k = h
  either false p q h k = k

  two_named : (m : ℕ) (before player : Option ℕ) → nat_lt m n ≡ true
      → IfSome (option_map (TwoMarks m) (newly_found before player)) (IsNamed n)
  two_named m None None l = tt
  two_named m None (Some player) l = l
  two_named m (Some before) player l = tt

  dispute_named : (m : ℕ) (player : Option ℕ) (peer : Peered) → nat_lt m n ≡ true → AreNamed n peer.waiting
      → AreNamed n (dispute_told m player peer).waiting
  dispute_named m player peer l h =
      told_named peer.waiting (option_map (TwoMarks m) (newly_found (dispute_at peer m) player)) h
      (two_named m (dispute_at peer m) player l)

  -- ---- what is heard

  module _ (old : Peered) (bytes : List ℕ) (seated : old.member.mesh.seat.machines ≡ n) where
    stranger : nat_le old.member.mesh.seat.machines (sender_of bytes) ≡ true → ignored_sized old bytes ≡ Some InvalidMachine
    stranger e = ignored_is old bytes ∙ rw e refl

    within : nat_le old.member.mesh.seat.machines (sender_of bytes) ≡ false → nat_lt (sender_of bytes) n ≡ true
    within e =
        let less = leb-false old.member.mesh.seat.machines (sender_of bytes) e in
        lt-ltb (sender_of bytes) n (omega (arith, less, seated))

    known_sized : ignored_sized old bytes ≡ None → nat_lt (sender_of bytes) n ≡ true
    known_sized h = go (nat_le old.member.mesh.seat.machines (sender_of bytes)) refl
      where
        go : (b : Bool) → nat_le old.member.mesh.seat.machines (sender_of bytes) ≡ b → nat_lt (sender_of bytes) n ≡ true
        go true e = absurd (none_some InvalidMachine (sym h ∙ stranger e))
        go false e = within e

    known : ignored old bytes ≡ None → nat_lt (sender_of bytes) n ≡ true
    known h = go (is_sized bytes) h
      where
        go : (b : Bool) → (if b then ignored_sized old bytes else Some NotSealed) ≡ None → nat_lt (sender_of bytes) n ≡ true
        go true h = known_sized h
        go false h = absurd (none_some NotSealed (sym h))

    sized_named : (why : Ignored) → AreNamed n old.waiting → ignored_sized old bytes ≡ Some why
        → AreNamed n (after_ignored (sender_of bytes) why old).waiting
    sized_named why h i = go (nat_le old.member.mesh.seat.machines (sender_of bytes)) refl
      where
        same : (a b : Ignored) → Some a ≡ Some b → a ≡ b
        same a b e = cc

        counted : (b : Bool) → nat_lt (sender_of bytes) n ≡ true
            → AreNamed n (if b then refused_of (sender_of bytes) old else old).waiting
        counted true l =
            heard_named (sender_of bytes) l (contact_at old (sender_of bytes))
            (refused (contact_at old (sender_of bytes))) old.waiting h
        counted false l = h

        go : (b : Bool) → nat_le old.member.mesh.seat.machines (sender_of bytes) ≡ b
            → AreNamed n (after_ignored (sender_of bytes) why old).waiting
        go true e =
            subst (λ (w : Ignored). AreNamed n (after_ignored (sender_of bytes) w old).waiting)
            (same InvalidMachine why (sym (stranger e) ∙ i)) h
        go false e = counted (is_refusal why) (within e)

    refusal_named : (why : Ignored) → AreNamed n old.waiting → ignored old bytes ≡ Some why
        → AreNamed n (after_ignored (sender_of bytes) why old).waiting
    refusal_named why h i = go (is_sized bytes) i
      where
        same : (a b : Ignored) → Some a ≡ Some b → a ≡ b
        same a b e = cc

        go : (b : Bool) → (if b then ignored_sized old bytes else Some NotSealed) ≡ Some why
            → AreNamed n (after_ignored (sender_of bytes) why old).waiting
        go true i = sized_named why h i
        go false i =
            subst (λ (w : Ignored). AreNamed n (after_ignored (sender_of bytes) w old).waiting) (same NotSealed why i) h

    hearing_named : (step : Step) (before after : Seen) (new : Peered) (what : Content) (received : Received) → AreNamed n old.waiting
        → nat_lt (sender_of bytes) n ≡ true → Hears step before after old new (sender_of bytes) what received
        → AreNamed n new.waiting
    hearing_named step before after new (Greets hello) (HelloHeard from) h l hears =
        subst (λ (p : Peered). AreNamed n p.waiting) (sym hears.2) (heard_named (sender_of bytes) l _ _ old.waiting h)
    hearing_named step before after new (Plays t) (PlayHeard from taken) h l hears =
        let m : ℕ = sender_of bytes in
        let contact : Contact =
        after_words (is_some taken.refusal) (is_dropped taken.heard) t.head before.core.frame (moment_of old) (contact_at old m) in
        let known : Peered =
        knowing t m contact (record old { member = new.member; marks = marks_after old new.member t }) in
        subst (λ (p : Peered). AreNamed n p.waiting) (sym hears.1.rest)
        (told_named (disputed m t known).waiting (only_if (is_dropped taken.heard && not known.cut_off.is_over) Dropped)
        (dispute_named m (found_two known t) known l (heard_named m l (contact_at old m) contact old.waiting h))
        (only_named (is_dropped taken.heard && not known.cut_off.is_over) Dropped tt))
    hearing_named step before after new (Leaves why) (ByeHeard from) h l hears =
        subst (λ (p : Peered). AreNamed n p.waiting) (sym hears.2) h
    hearing_named step before after new (Greets hello) (PlayHeard from taken) h l hears = absurd hears
    hearing_named step before after new (Greets hello) (ByeHeard from) h l hears = absurd hears
    hearing_named step before after new (Plays t) (HelloHeard from) h l hears = absurd hears
    hearing_named step before after new (Plays t) (ByeHeard from) h l hears = absurd hears
    hearing_named step before after new (Leaves why) (HelloHeard from) h l hears = absurd hears
    hearing_named step before after new (Leaves why) (PlayHeard from taken) h l hears = absurd hears

  -- ---- what is heard by another network

  module _ (old other : Peered) (m : ℕ) (seated : old.member.mesh.seat.machines ≡ n) where
    lost : nat_le old.member.mesh.seat.machines m ≡ true → is_lost old m ≡ true
    lost e = rw e refl

    inside : is_lost old m ≡ false → nat_lt m n ≡ true
    inside h = go (nat_le old.member.mesh.seat.machines m) refl
      where
        go : (b : Bool) → nat_le old.member.mesh.seat.machines m ≡ b → nat_lt m n ≡ true
        go true e = let clash : true ≡ false = sym (lost e) ∙ h in cc
        go false e =
            let less = leb-false old.member.mesh.seat.machines m e in
            lt-ltb m n (omega (arith, less, seated))

    abbrev contact : Contact
    contact = heard_too (contact_at other m) (moment_of old) (contact_at old m)

    abbrev heard : Peered
    heard = knowing_of m contact old

    beside_named : AreNamed n old.waiting → AreNamed n (heard_beside m other old).waiting
    beside_named h = go (is_lost old m) refl
      where
        go : (b : Bool) → is_lost old m ≡ b → AreNamed n (heard_beside m other old).waiting
        go true e = rw e h
        go false e = rw e (dispute_named m (dispute_beside old other m) heard (inside e) (heard_named m (inside e) (contact_at old m) contact old.waiting h))

  -- ---- polls

  below : (m : ℕ) → suc m ≤ n → nat_lt m n ≡ true
  below m l = lt-ltb m n (omega (arith, l))

  silenced_named : (now k : ℕ) (peer : Peered) → AreNamed n peer.waiting
      → AreNamed n (silenced_until now k peer).waiting
  unfolding silenced_until
  silenced_named now zero peer h = h
  silenced_named now (suc m) peer h =
      let before = silenced_named now m peer h in either _ _ _ before before

  stall_named : (now m : ℕ) (peer : Peered) → nat_lt m n ≡ true → AreNamed n peer.waiting
      → AreNamed n (stall_told now m peer).waiting
  stall_named now m peer l h = either _ _ _ (push_named peer.waiting _ h l) h

  ended_named : (now m : ℕ) (peer : Peered) → AreNamed n peer.waiting
      → AreNamed n (stall_ended now m peer).waiting
  ended_named now m peer h = either _ _ _ h h

  watched_named : (now k : ℕ) (peer : Peered) → k ≤ n → AreNamed n peer.waiting
      → AreNamed n (watched_until now k peer).waiting
  unfolding watched_until watched_at
  watched_named now zero peer l h = h
  watched_named now (suc m) peer l h =
      let before = watched_named now m peer (omega (arith, l)) h in
      let was : Peered = timed now m (watched_until now m peer) in
      ended_named now m (stall_told now m was) (stall_named now m was (below m l) before)

  hushed_named : (now k : ℕ) (peer : Peered) → k ≤ n → AreNamed n peer.waiting
      → AreNamed n (hushed_until now k peer).waiting
  unfolding hushed_until
  hushed_named now zero peer l h = h
  hushed_named now (suc m) peer l h =
      told_named _ _ (hushed_named now m peer (omega (arith, l)) h) (only_named _ _ (below m l))

  missed_named : (now k : ℕ) (peer : Peered) → k ≤ n → AreNamed n peer.waiting
      → AreNamed n (missed_until now k peer).waiting
  unfolding missed_until
  missed_named now zero peer l h = h
  missed_named now (suc m) peer l h =
      let before = missed_named now m peer (omega (arith, l)) h in
      either _ _ _ (push_named _ _ before (below m l)) before

  strangers_named : (now : ℕ) (peer : Peered) → AreNamed n peer.waiting → AreNamed n (strangers_told now peer).waiting
  strangers_named now peer h =
      subst (λ (p : Peered). AreNamed n p.waiting) (sym (strangers_told_is now peer))
      (either _ _ _ (push_named peer.waiting _ h tt) h)

  desync_named : (m : ℕ) (frame : Option ℕ) (peer : Peered) → nat_lt m n ≡ true → AreNamed n peer.waiting
      → AreNamed n (desync_told m frame peer).waiting
  desync_named m None peer l h = h
  desync_named m (Some frame) peer l h = push_named peer.waiting _ h l

  desyncs_named : (now k : ℕ) (peer : Peered) → k ≤ n → AreNamed n peer.waiting
      → AreNamed n (desync_until now k peer).waiting
  unfolding desync_until
  desyncs_named now zero peer l h = h
  desyncs_named now (suc m) peer l h =
      let before : Peered = desync_until now m peer in
      desync_named m (desync_in before now m) before (below m l) (desyncs_named now m peer (omega (arith, l)) h)

  farewell_named : (k : ℕ) (peer : Peered) → k ≤ n → AreNamed n peer.waiting
      → AreNamed n (farewell_until k peer).waiting
  unfolding farewell_until
  farewell_named zero peer l h = h
  farewell_named (suc m) peer l h =
      let before = farewell_named m peer (omega (arith, l)) h in
      either _ _ _ (push_named _ _ before (below m l)) before

  parted_named : (players : List Bool) (k : ℕ) (waiting : Waiting) → AreNamed n waiting
      → AreNamed n (told_of (player_left players) k waiting)
  unfolding told_of
  parted_named players zero waiting h = h
  parted_named players (suc k) waiting h =
      told_named (told_of (player_left players) k waiting) (player_left players k)
      (parted_named players k waiting h) (only_named _ _ tt)

  most_named : (now : ℕ) (peer : Peered) → AreNamed n peer.waiting → AreNamed n (most_noted now peer).waiting
  most_named now peer h = either _ _ _ (since_named peer.cut_off.since) h
    where
      since_named : (at : Option ℕ) → AreNamed n (cut_off_since now at
          (record peer { cut_off = record peer.cut_off { hears_most = hears_most peer now } })).waiting
      since_named None = push_named peer.waiting _ h tt
      since_named (Some at) = told_named peer.waiting _ h (only_named _ Dropped tt)

  looked_named : (peer : Peered) (now : ℕ) → AreNamed n peer.waiting
      → AreNamed n (looked_after now n peer).waiting
  looked_named peer now h =
      let all : n ≤ n = omega arith in
      farewell_named n _ all (desyncs_named now n _ all (strangers_named now _ (missed_named now n _ all (hushed_named now n _ all
      (watched_named now n _ all (silenced_named now n (most_noted now peer) (most_named now peer h)))))))

  time_named : (frames : Option ℕ) → IfSome (option_map TimeSync frames) (IsNamed n)
  time_named None = tt
  time_named (Some frames) = tt

  over_named : (peer : Peered) → AreNamed n peer.waiting → AreNamed n (over peer).waiting
  over_named peer h =
      subst (λ (p : Peered). AreNamed n p.waiting) (sym (over_is peer))
      (told_named _ _ h (time_named (wait_of (lead_in peer) peer.pace)))

  moved_named : (frame : ℕ) (peer : Peered) → AreNamed n peer.waiting → AreNamed n (moved_to frame peer).waiting
  moved_named frame peer h = either _ _ _ h (over_named (record peer { frame = frame }) h)

  polled_named : (before after : Seen) (old new : Peered) (refusal : Option Refusal) → old.settings.machines ≡ n
      → AreNamed n old.waiting → Polls before after old new refusal → AreNamed n new.waiting
  polled_named before after old new refusal same h p =
      let at : Peered = moved_to before.core.frame old in
      let seen = subst (λ (k : ℕ). AreNamed n (looked_after old.clock.moment k at).waiting) (sym same)
      (looked_named at old.clock.moment (moved_named before.core.frame old h)) in
      let parted = subst (λ (peer : Peered). AreNamed n peer.waiting) (sym p.parts.rest)
      (parted_named p.parts.who.players PLAYER_LIMIT _ seen) in
      subst (λ (peer : Peered). AreNamed n peer.waiting) (sym (p.begins ∙ begun_is p.parted))
      (either _ _ _ (push_named _ _ parted tt) parted)

pub events_name_machines : EventsNameMachines
events_name_machines = record {
  heard = λ step before after old new bytes received seated h i r.
      hearing_named old.settings.machines old bytes seated step before after new r.what received h
      (known old.settings.machines old bytes seated i) r.hears;
  refused = λ old bytes why seated h i.
      either old.settings.machines _ _ _ (refusal_named old.settings.machines old bytes seated why h i)
      (refusal_named old.settings.machines old bytes seated why h i);
  polled = λ before after old new refusal h p.
      polled_named old.settings.machines before after old new refusal refl h p;
  heard_beside = λ old other machine seated h. beside_named old.settings.machines old other machine seated h;
}
