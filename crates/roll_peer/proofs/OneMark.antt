-- Whatever machines call, who has a word knows the mark that its player's owner put on it.
use Rattle.std.proofs.Common.{◌≡◌, ◌∙◌, ◌⊎◌, ◌≢◌, ℕ, zero, suc, ◌+◌, ◌<◌, ◌≤◌, List, [], ◌∷◌, ◌++◌, length, refl, ap, sym, subst, arith, Bool, true, false, inl, inr, Option, Some, None, Result, Ok, Err}
use Rattle.std.specs.Prelude.{◌==◌, ◌&&◌, ◌-◌, if◌then◌else◌, is_some, nat_lt, not, slice_get, slice_index, slice_index_or, slice_set}
use Rattle.std.proofs.lemmas.Bool.{and_parts, cases_eq, eqb-false, eqb-true, ltb-false, ne_eqb, not-true}
use Rattle.std.proofs.lemmas.List.{get_or-replicate, get_or-set_other, get_or-set_same, length-replicate, length-set}
use Rattle.roll_contact.specs.Seals.{message_by}
use Rattle.roll_mesh.proofs.Changes.{leave_has, none_some, some_same}
use Rattle.roll_mesh.proofs.Handed.{count, counts_most, found_handed, parcel_end, Kept}
use Rattle.roll_mesh.proofs.Invariant.{tells_had}
use Rattle.roll_mesh.proofs.Seats.{match_of}
use Rattle.roll_mesh.specs.Laws.{owner_in}
use Rattle.roll_mesh.specs.declared.limits.TheConstants.{PLAYER_LIMIT}
use Rattle.roll_mesh.specs.declared.machine.Machine.{Machine}
use Rattle.roll_mesh.specs.declared.packet.Offer.{Offer}
use Rattle.roll_mesh.specs.declared.packet.Packet.{Packet}
use Rattle.roll_mesh.specs.declared.seat.Seat.{Seat}
use Rattle.roll_mesh.specs.Groups.{first_of}
use Rattle.roll_mesh.specs.Machines.{hear, leave, none_offered, offer_at, owner_of, tell, trimmed}
use Rattle.roll_mesh.specs.Meshes.{stepped, Seated}
use Rattle.roll_mesh.specs.Words.{Holder, Parcel, WordWorld}
use Rattle.roll_mesh.specs.Worlds.{seat_of, Match}
use Rattle.roll_session.specs.Headline.{words_of}
use Rattle.roll_session.specs.Seen.{Seen, Step}
use Rattle.roll_member.specs.Beside.{IsOf}
use Rattle.roll_member.specs.Taking.{shares}
use Rattle.roll_member.specs.Telling.{room_for}
use Rattle.roll_member.specs.declared.member.Taken.{Taken}
use Rattle.roll_member.proofs.Beside.{near_at}
use Rattle.roll_member.proofs.Joining.{no_words}
use Rattle.roll_member.proofs.Known.{known_few, known_other}
use Rattle.roll_member.proofs.Tied.{seated_fine}
use Rattle.roll_wire.specs.Spelling.{has_players, Content, Fits, Greets, Leaves, Plays, Turn}
use Rattle.roll_wire.specs.declared.datagram.Mark.{Mark}
use Rattle.roll_wire.specs.declared.datagram.Marked.{Marked}
use Rattle.roll_peer.specs.Marking.{is_numbered, is_own_first, mark_refusal, IsMarkedAs}
use Rattle.roll_peer.specs.MarkLaws.{has_of, mark_for, mark_of_word, TheyKnowOneMark, WhatWasPutIsKnown, WhoHasTheWordHasItsMark}
use Rattle.roll_peer.specs.Marks.{mark_at, offered_marks}
use Rattle.roll_peer.specs.PeerWorlds.{nobody, IsPlayedTo, sent_in, Acts, AreSteps, Calls, CallsHolding, Deed, Disconnects, Does, HearsToo, IsStep, NotesSettled, NotesStateAt, Opens, PeerWorld, Polls, PutsMark, Receives, SaysBye, Sends, SendsNone, TakesEvent, TakesTurn, VoidsMark}
use Rattle.roll_peer.specs.Peered.{without_all, Peered}
use Rattle.roll_peer.specs.Receiving.{meeting, opened, packet_of, sender_of, ticking, Hears, HearsTurn, IsIgnored}
use Rattle.roll_peer.specs.Requests.{Beside, HearsBytes}
use Rattle.roll_peer.specs.Sending.{after_send, is_lost, key_for, text_for, IsContentFor, IsPlayFor}
use Rattle.roll_peer.specs.Settings.{seat_of as seat_in}
use Rattle.roll_peer.specs.declared.refusal.MarkRefusal.TheVariants.{NotTaken, NotOwn, Marked as MarkedAlready, NoPlayer}
use Rattle.roll_peer.specs.declared.received.Ignored.{Ignored}
use Rattle.roll_peer.specs.declared.received.Received.{Received}
use Rattle.roll_peer.specs.declared.received.Received.TheVariants.{Hello as HelloHeard, Play as PlayHeard, Bye as ByeHeard}
use Rattle.roll_peer.proofs.Genuine.{genuine}
use Rattle.roll_peer.proofs.Keeping.{is_own, stays_left, stays_like, stays_met, stays_on, stays_polled, Stays}
use Rattle.roll_peer.proofs.Mirrors.{in_either, mirrors, mirrors_nobody, step_mirrors, text_is, IsAt, IsMirrored, IsToldAs, Mirrors, WasTold}
use Rattle.roll_peer.proofs.Noted.{heard_in, heard_more, mark_here, mark_other, noted, noted_alike, noted_early, noted_is, noted_many, noted_there, offered_alike, shortened_in, told_alike, IsIn}
use Rattle.roll_peer.proofs.Polling.{either_like, ignored_like, like, like_as, AreLike}
use Rattle.roll_peer.proofs.Rising.{rise}
use Rattle.roll_peer.proofs.Said.{after_send_is}
use Rattle.roll_peer.proofs.Standing.{from_kept}

-- ---- what holds of each world

-- the mark that a player's owner knows of it, if its network is open
abbrev pub known_by : Option Beside → ℕ → Option Marked
known_by None p = None
known_by (Some b) p = mark_at b.peer.marks p

abbrev pub owners : Match → PeerWorld → ℕ → Option Marked
owners match world p = known_by (world.machines (owner_in match p)) p

-- machine i knows the owners' marks of the words that it has, and of others' players no mark of other words
pub record IsMarked (match : Match) (world : PeerWorld) (i : ℕ) (peer : Peered) : Type 0 where
  pub sized : length peer.marks ≡ PLAYER_LIMIT
  pub same : (p f : ℕ) → p < PLAYER_LIMIT → f < has_of peer p → mark_of_word peer p f ≡ mark_for (owners match world p) f
  pub there : (p : ℕ) (m : Marked) → p < PLAYER_LIMIT → owner_in match p ≢ i → mark_at peer.marks p ≡ Some m
      → m.frame < has_of peer p

-- a turn offers a word
abbrev Offers : Turn → ℕ → ℕ → Type 0
Offers t p f = IsIn (slice_index_or t.head.offers p none_offered) f

-- bytes that are opened as a turn tell the owners' marks of the words that it offers
abbrev TellsMarks : Match → PeerWorld → List ℕ → Type 0
TellsMarks match world bytes =
    (peer : Peered) (t : Turn) → opened peer bytes ≡ Ok (Plays t) → (p f : ℕ) → p < PLAYER_LIMIT → Offers t p f
    → mark_for (mark_at t.marks p) f ≡ mark_for (owners match world p) f

pub record AreMarked (match : Match) (world : PeerWorld) : Type 0 where
  pub each : (i : ℕ) (b : Beside) → world.machines i ≡ Some b → IsMarked match world i b.peer
  pub told : (place : ℕ) (bytes : List ℕ) → slice_get world.sent place ≡ Some bytes → TellsMarks match world bytes

-- and it comes of another, in which the owners knew the same of each word that was there; a mark that is known stays
pub record AreMarkedOn (match : Match) (old new : PeerWorld) (m : Mirrors match old) : Type 0 where
  pub marked : AreMarked match new
  pub still : (p f : ℕ) → p < PLAYER_LIMIT → f < count m.world (owner_in match p) p
      → mark_for (owners match new p) f ≡ mark_for (owners match old p) f
  pub keeps : (j p : ℕ) (k : Marked) → p < PLAYER_LIMIT → known_by (old.machines j) p ≡ Some k → known_by (new.machines j) p ≡ Some k

-- ---- how many words there are

module _ (match : Match) (peers : PeerWorld) (m : Mirrors match peers) where
  kept : Kept match m.world
  kept = from_kept match m.world m.from

  abbrev at_owner : ℕ → ℕ
  at_owner p = count m.world (owner_in match p) p

  here : (i : ℕ) (b : Beside) → peers.machines i ≡ Some b → IsMirrored match m.world i b
  here i b is = subst (λ (o : Option Beside). IsAt match m.world i o) is (m.each i)

  count_is : (i : ℕ) (b : Beside) (p : ℕ) → peers.machines i ≡ Some b → count m.world i p ≡ has_of b.peer p
  count_is i b p is = ap (λ (h : Holder). slice_index h.mesh.has p) (sym (here i b is).holds)

  -- nobody has more than the owner
  pub has_few : (i : ℕ) (b : Beside) (p : ℕ) → peers.machines i ≡ Some b → has_of b.peer p ≤ at_owner p
  has_few i b p is = omega (arith, count_is i b p is, counts_most match m.world i p kept, kept.many p)

  -- nor offers more
  offers_few : (place : ℕ) (bytes : List ℕ) → slice_get peers.sent place ≡ Some bytes → (peer : Peered) (t : Turn)
      → opened peer bytes ≡ Ok (Plays t) → (p f : ℕ) → Offers t p f → f < at_owner p
  offers_few place bytes e peer t opens p f inside =
      omega (
        arith,
        (shortened_in told.packet p f (subst (λ (os : List Offer). IsIn (slice_index_or os p none_offered) f) told.offers inside)).1,
        parcel_end match m.world parcel p kept (found_handed m.world.sent told.place parcel told.there),
        kept.many p,
      )
    where
      was : WasTold m.world bytes
      was = m.told place bytes e

      found : Plays t ≡ was.what
      found = genuine peer was.key was.sender was.what (Plays t) was.fits (sym (ap (opened peer) was.text) ∙ opens)

      told : IsToldAs m.world was.sender t
      told = was.told t (sym found)

      parcel : Parcel
      parcel = record { packet = told.packet; words = shares told.packet.offers t.words }

-- ---- what becomes of one machine

-- a mark that it knows stays; it learns of none of words that were there of its own players, and of others' of the owners'
record Changes (match : Match) (world : PeerWorld) (i : ℕ) (old new : Peered) : Type 0 where
  sized : length new.marks ≡ PLAYER_LIMIT
  keeps : (p : ℕ) (m : Marked) → p < PLAYER_LIMIT → mark_at old.marks p ≡ Some m → mark_at new.marks p ≡ Some m
  own : (p f : ℕ) → p < PLAYER_LIMIT → owner_in match p ≡ i → f < has_of old p
      → mark_of_word new p f ≡ mark_of_word old p f
  others : (p f : ℕ) → p < PLAYER_LIMIT → owner_in match p ≢ i → f < has_of new p
      → mark_of_word new p f ≡ mark_for (owners match world p) f
  there : (p : ℕ) (m : Marked) → p < PLAYER_LIMIT → owner_in match p ≢ i → mark_at new.marks p ≡ Some m
      → m.frame < has_of new p

-- what a mark is accepted by
accepted_is : (peer : Peered) (player : ℕ) (mark : Mark) → mark_refusal peer player mark ≡ None
    → (1 ≤ player) × (player ≤ PLAYER_LIMIT) × ((owner_of peer.member.mesh.seat (player - 1) == peer.member.mesh.seat.me) ≡ true)
    × (mark_at peer.marks (player - 1) ≡ None)
unfolding mark_refusal
accepted_is peer player mark accepted =
    let a = go peer.settings.takes_marks (is_numbered player && is_own_first peer.member.mesh.seat (player - 1))
    (mark_at peer.marks (player - 1)) (has_players mark.newcomer) accepted in
    let b = and_parts (is_numbered player) (is_own_first peer.member.mesh.seat (player - 1)) a.0 in
    let place = and_parts (not (player == 0)) (not (nat_lt PLAYER_LIMIT player)) b.0 in (
      omega (arith, eqb-false player 0 (not-true (player == 0) place.0)),
      ltb-false PLAYER_LIMIT player (not-true (nat_lt PLAYER_LIMIT player) place.1),
      (and_parts (owner_of peer.member.mesh.seat (player - 1) == peer.member.mesh.seat.me)
          (first_of peer.member.mesh.seat.words (player - 1) == player - 1) b.1).0,
      a.1,
    )
  where
    go : (takes own : Bool) (o : Option Marked) (some : Bool) → (if not takes then Some NotTaken
        else (if not own then Some NotOwn
        else (if is_some o then Some MarkedAlready
        else (if some then None else Some NoPlayer)))) ≡ None → (own ≡ true) × (o ≡ None)
    go true true None some e = (refl, refl)
    go true true (Some m) some e = absurd (none_some MarkedAlready (sym e))
    go true false o some e = absurd (none_some NotOwn (sym e))
    go false own o some e = absurd (none_some NotTaken (sym e))

module _ (match : Match) (world : PeerWorld) (i : ℕ) (old : Peered) (seat : old.member.mesh.seat ≡ seat_of match i)
    (marked : IsMarked match world i old) where
  others_own : (p : ℕ) → owner_in match p ≢ i → is_own old p ≡ false
  others_own p other = ap (λ (s : Seat). owner_of s p == s.me) seat ∙ ne_eqb (owner_in match p) i other

  same_mark : (new : Peered) (p f : ℕ) → new.marks ≡ old.marks → mark_of_word new p f ≡ mark_of_word old p f
  same_mark new p f e = ap (λ (ms : List (Option Marked)). mark_for (mark_at ms p) f) e

  -- no mark is put or heard
  stays_change : (new : Peered) → Stays old new → Changes match world i old new
  stays_change new stays = record {
    sized = ap (λ (ms : List (Option Marked)). length ms) stays.marks ∙ marked.sized;
    keeps = λ p m l e. ap (λ (ms : List (Option Marked)). mark_at ms p) stays.marks ∙ e;
    own = λ p f l e lt. same_mark new p f stays.marks;
    others = λ p f l other lt.
        same_mark new p f stays.marks ∙ marked.same p f l (omega (arith, lt, stays.counts p l (others_own p other)));
    there = λ p m l other e. omega (
      arith,
      marked.there p m l other (sym (ap (λ (ms : List (Option Marked)). mark_at ms p) stays.marks) ∙ e),
      stays.counts p l (others_own p other),
    );
  }

  -- a turn is heard, once a session was met
  module _ (step : Step) (before after : Seen) (mid new : Peered) (sender : ℕ) (t : Turn) (taken : Taken)
      (stays : Stays old mid) (heard : HearsTurn step before after mid new sender t taken) where
    abbrev packet : Packet
    packet = packet_of sender t

    hear_is : (p : ℕ) → has_of new p
        ≡ slice_index (hear mid.member.mesh.seat (trimmed new.member.mesh.machine.has packet) mid.member.mesh.machine).has p
    hear_is p = ap (λ (mesh : Seated). slice_index mesh.machine.has p) heard.member.mesh

    more : (p : ℕ) → has_of mid p ≤ has_of new p
    more p =
        omega (
          arith,
          hear_is p,
          heard_more mid.member.mesh.seat new.member.mesh.machine.has packet mid.member.mesh.machine p,
        )

    offered : (p f : ℕ) → has_of mid p ≤ f → f < has_of new p → Offers t p f
    offered p f low l =
        shortened_in (record { sender = sender; view = t.head.view; offers = t.head.offers }) p f
        (heard_in mid.member.mesh.seat new.member.mesh.machine.has packet mid.member.mesh.machine p f low
        (omega (arith, l, hear_is p)))

    -- the mark that it tells of a word that it offers
    abbrev heard_mark : ℕ → Option Marked
    heard_mark p = mark_at (offered_marks t.head.offers t.marks) p

    now : (p : ℕ) → p < PLAYER_LIMIT
        → mark_at new.marks p ≡ noted (mark_at mid.marks p) (heard_mark p) (has_of mid p) (has_of new p)
    now p l =
        ap (λ (peer : Peered). mark_at peer.marks p) heard.rest ∙ noted_is mid new.member t p l

    first : Changes match world i old mid
    first = stays_change mid stays

    turn_changes : ((p f : ℕ) → p < PLAYER_LIMIT → Offers t p f → mark_for (mark_at t.marks p) f ≡ mark_for (owners match world p) f)
        → Changes match world i old new
    turn_changes told = record {
      sized = ap (λ (peer : Peered). length peer.marks) heard.rest ∙ noted_many mid new.member t;
      keeps = λ p m l e.
          now p l ∙ ap (λ o. noted o (heard_mark p) (has_of mid p) (has_of new p)) (first.keeps p m l e);
      own = λ p f l e lt.
          ap (λ o. mark_for o f) (now p l)
          ∙ noted_early (mark_at mid.marks p) (heard_mark p) (has_of mid p) (has_of new p) f
          (omega (arith, lt, stays.more p l))
          ∙ first.own p f l e lt;
      others = λ p f l other lt.
          ap (λ o. mark_for o f) (now p l)
          ∙ noted_alike (mark_at mid.marks p) (heard_mark p) (owners match world p) (has_of mid p) (has_of new p) f
          (λ g below. first.others p g l other below)
          (λ m e. first.there p m l other e)
          (λ low. offered_alike t.head.offers t.marks p f l (offered p f low lt) ∙ told p f l (offered p f low lt))
          lt;
      there = λ p m l other e.
          noted_there (mark_at mid.marks p) (heard_mark p) (has_of mid p) (has_of new p) m (sym (now p l) ∙ e)
          (λ was. first.there p m l other was) (more p);
    }

  -- bytes are heard, or ignored
  content_changes : (step : Step) (before after : Seen) (mid new : Peered) (bytes : List ℕ) (what : Content) (received : Received)
      → Stays old mid → opened mid bytes ≡ Ok what
      → ((t : Turn) → opened mid bytes ≡ Ok (Plays t) → TellsMarks match world bytes)
      → Hears step before after mid new (sender_of bytes) what received → Changes match world i old new
  content_changes step before after mid new bytes (Plays t) (PlayHeard sender taken) stays opens told hears =
      turn_changes step before after mid new (sender_of bytes) t taken stays hears.1 (told t opens mid t opens)
  content_changes step before after mid new bytes (Greets hello) (HelloHeard sender) stays opens told hears =
      stays_change new (stays_on old mid new stays
      (stays_like mid new (like_as mid _ new hears.2 (refl, refl, refl))))
  content_changes step before after mid new bytes (Leaves why) (ByeHeard sender) stays opens told hears =
      let gone : Peered = record mid {
        member = record mid.member {
          mesh = stepped (λ seat machine. leave seat (sender_of bytes) machine) mid.member.mesh;
        };
      } in
      stays_change new (stays_on old mid new stays
      (stays_on mid gone new (stays_left mid (sender_of bytes)) (stays_like gone new (like_as gone _ new hears.2 (refl, refl, refl)))))
  content_changes step before after mid new bytes (Greets hello) (PlayHeard sender taken) stays opens told hears = absurd hears
  content_changes step before after mid new bytes (Greets hello) (ByeHeard sender) stays opens told hears = absurd hears
  content_changes step before after mid new bytes (Plays t) (HelloHeard sender) stays opens told hears = absurd hears
  content_changes step before after mid new bytes (Plays t) (ByeHeard sender) stays opens told hears = absurd hears
  content_changes step before after mid new bytes (Leaves why) (HelloHeard sender) stays opens told hears = absurd hears
  content_changes step before after mid new bytes (Leaves why) (PlayHeard sender taken) stays opens told hears = absurd hears

  -- a mark is put on the next word of an own player
  module _ (s : Seen) (new : Peered) (player frame : ℕ) (mark : Mark) (word : 1 ≤ match.words)
      (own : IsOf s old.member) (is : IsMarkedAs s old new player mark frame)
      (accepted : mark_refusal old player mark ≡ None) where
    abbrev q : ℕ
    q = player - 1

    abbrev put : Marked
    put = record { frame = frame; mark = mark }

    marks_are : new.marks ≡ slice_set old.marks q (Some put)
    marks_are = ap (λ (p : Peered). p.marks) is.known

    may : (1 ≤ player) × (player ≤ PLAYER_LIMIT) × (owner_in match q ≡ i) × (mark_at old.marks q ≡ None)
    may =
        let a = accepted_is old player mark accepted in (
          a.0,
          a.1,
          eqb-true (owner_in match q) i (sym (ap (λ (s : Seat). owner_of s q == s.me) seat) ∙ a.2),
          a.3,
        )

    met : Stays old (meeting s old)
    met = stays_met s old own

    other_mark : (p : ℕ) → p ≢ q → mark_at new.marks p ≡ mark_at old.marks p
    other_mark p apart =
        ap (λ (ms : List (Option Marked)). mark_at ms p) marks_are ∙ get_or-set_other old.marks q p (Some put) None apart

    mesh_is : new.member.mesh ≡ (meeting s old).member.mesh
    mesh_is = ap (λ (p : Peered). p.member.mesh) is.known

    others_count : (p : ℕ) → p < PLAYER_LIMIT → owner_in match p ≢ i → has_of new p ≡ has_of old p
    others_count p l other =
        ap (λ (m : Seated). slice_index m.machine.has p) mesh_is ∙ met.counts p l (others_own p other)

    not_this : (p : ℕ) → owner_in match p ≢ i → p ≢ q
    not_this p other e = other (ap (owner_in match) e ∙ may.2)

    -- its frame is past all words that the machine tells
    past : q < PLAYER_LIMIT → has_of old q ≤ frame
    past l =
        let next : q + 1 ≡ player = omega (arith, may.0) in
        let one : 1 ≤ old.member.mesh.seat.words = subst (λ (x : Seat). 1 ≤ x.words) (sym seat) word in
        omega (
          arith,
          (near_at s old.member.mesh own.near q l).few,
          known_few s old.member.mesh.seat q one,
          ap (λ n. length (words_of s n)) next,
          is.next,
        )

    is_put : mark_at new.marks q ≡ Some put
    is_put =
        ap (λ (ms : List (Option Marked)). mark_at ms q) marks_are
        ∙ get_or-set_same old.marks q (Some put) None (omega (arith, may.0, may.1, marked.sized))

    put_changes : Changes match world i old new
    put_changes = record {
      sized = ap (λ (ms : List (Option Marked)). length ms) marks_are ∙ length-set old.marks q (Some put) ∙ marked.sized;
      keeps = λ p m l e. keeps p m e (cases_eq p q);
      own = λ p f l e lt. own_mark p f l lt (cases_eq p q);
      others = λ p f l other lt.
          ap (λ o. mark_for o f) (other_mark p (not_this p other))
          ∙ marked.same p f l (omega (arith, lt, others_count p l other));
      there = λ p m l other e. omega (
        arith,
        marked.there p m l other (sym (other_mark p (not_this p other)) ∙ e),
        others_count p l other,
      );
    }
      where
        own_mark : (p f : ℕ) → p < PLAYER_LIMIT → f < has_of old p → (p ≡ q) ⊎ (p ≡ q → ⊥)
            → mark_of_word new p f ≡ mark_of_word old p f
        own_mark p f l lt (inl e) =
            ap (λ k. mark_of_word new k f) e
            ∙ ap (λ o. mark_for o f) is_put
            ∙ mark_other put f (λ g. omega (
              arith,
              g,
              past (subst (λ k. k < PLAYER_LIMIT) e l),
              subst (λ k. f < has_of old k) e lt,
            ))
            ∙ sym (ap (λ o. mark_for o f) may.3)
            ∙ sym (ap (λ k. mark_of_word old k f) e)
        own_mark p f l lt (inr apart) = ap (λ o. mark_for o f) (other_mark p apart)

        keeps : (p : ℕ) (m : Marked) → mark_at old.marks p ≡ Some m → (p ≡ q) ⊎ (p ≡ q → ⊥) → mark_at new.marks p ≡ Some m
        keeps p m e (inl here) =
            absurd (none_some m (sym may.3 ∙ ap (λ k. mark_at old.marks k) (sym here) ∙ e))
        keeps p m e (inr apart) = other_mark p apart ∙ e

-- ---- a call

sent_as : (peer new : Peered) (m : ℕ) → new ≡ after_send peer m → AreLike peer new
sent_as peer new m e = like_as peer _ new (e ∙ after_send_is peer m) (either_like (is_lost peer m) peer peer _ (like peer) (like peer))

module _ (match : Match) (world : PeerWorld) (i : ℕ) (old : Beside) (seat : old.peer.member.mesh.seat ≡ seat_of match i)
    (word : 1 ≤ match.words) (marked : IsMarked match world i old.peer) where
  abbrev To : Beside → Type 0
  To new = Changes match world i old.peer new.peer

  quiet : (new : Beside) → Stays old.peer new.peer → To new
  quiet new stays = stays_change match world i old.peer seat marked new.peer stays

  -- all that a call may change are other things
  alike : (new : Beside) (mid : Peered) → new.peer ≡ mid → AreLike old.peer mid → To new
  alike new mid e same = quiet new (stays_like old.peer new.peer (like_as old.peer mid new.peer e same))

  -- it is met first
  met_alike : (new : Beside) (now : Peered) → AreLike old.peer now → IsOf old.session now.member
      → AreLike (meeting old.session now) new.peer → Stays old.peer new.peer
  met_alike new now same own after =
      stays_on old.peer now new.peer (stays_like old.peer now same)
      (stays_on now (meeting old.session now) new.peer (stays_met old.session now own)
      (stays_like (meeting old.session now) new.peer after))

  heard_changes : (step : Step) (new : Beside) (now : ℕ) (bytes : List ℕ) (said : Result Received Ignored)
      → HearsBytes step old new now bytes said
      → ((t : Turn) → opened (meeting old.session (ticking now old.peer)) bytes ≡ Ok (Plays t) → TellsMarks match world bytes)
      → To new
  heard_changes step new now bytes (Ok received) hears told =
      let mid : Peered = meeting old.session (ticking now old.peer) in
      content_changes match world i old.peer seat marked step old.session new.session mid new.peer bytes hears.1.what received
      (stays_on old.peer (ticking now old.peer) mid (stays_like old.peer (ticking now old.peer) (refl, refl, refl))
      (stays_met old.session (ticking now old.peer) hears.0))
      hears.1.is_opened told hears.1.hears
  heard_changes step new now bytes (Err why) hears told = go hears.0
    where
      ticked : Peered
      ticked = ticking now old.peer

      go : IsIgnored old.session ticked new.peer bytes why → To new
      go (inl other) = alike new ticked other.2 (refl, refl, refl)
      go (inr own) =
          quiet new (met_alike new ticked (refl, refl, refl) own.0
          (like_as (meeting old.session ticked) _ new.peer own.2
          (ignored_like bytes why (meeting old.session ticked))))

  acts_change : (step : Step) (sent : List (List ℕ)) (deed : Deed) (new : Beside)
      → ((place : ℕ) (bytes : List ℕ) → slice_get sent place ≡ Some bytes → TellsMarks match world bytes)
      → Does step sent deed old new → To new
  acts_change step sent Calls new told does = alike new old.peer does.1 (like old.peer)
  acts_change step sent CallsHolding new told does = alike new old.peer does.1 (like old.peer)
  acts_change step sent (Receives bytes now said) new told does =
      heard_changes step new now bytes said does.0 (λ t e. let at = does.1 t e in told at.0 bytes at.1)
  acts_change step sent (Polls now said) new told does =
      quiet new (stays_on old.peer (ticking now old.peer) new.peer (stays_like old.peer (ticking now old.peer) (refl, refl, refl))
      (stays_polled old.session new.session (ticking now old.peer) new.peer said does))
  acts_change step sent (TakesTurn now said) new told does =
      quiet new (stays_on old.peer (ticking now old.peer) new.peer (stays_like old.peer (ticking now old.peer) (refl, refl, refl))
      (stays_polled old.session does.polled (ticking now old.peer) new.peer does.poll does.polls))
  acts_change step sent (Sends machine now bytes) new told does =
      quiet new (met_alike new (ticking now old.peer) (refl, refl, refl) does.0
      (sent_as (meeting old.session (ticking now old.peer)) new.peer machine does.2))
  acts_change step sent (SendsNone now) new told does = alike new (ticking now old.peer) does.0 (refl, refl, refl)
  acts_change step sent (SaysBye machine why bytes) new told does =
      alike new old.peer (ap (λ (b : Beside). b.peer) does.2) (like old.peer)
  acts_change step sent (Disconnects machine) new told does =
      quiet new (subst (λ (p : Peered). Stays old.peer p) (sym does.0) (stays_left old.peer machine))
  acts_change step sent (NotesSettled digest) new told does =
      quiet new (met_alike new old.peer (like old.peer) does.0
      (like_as (meeting old.session old.peer) _ new.peer does.1 (refl, refl, refl)))
  acts_change step sent (NotesStateAt frame digest) new told does = alike new _ does.0 (refl, refl, refl)
  acts_change step sent (PutsMark player mark frame) new told does =
      put_changes match world i old.peer seat marked old.session new.peer player frame mark word does.0 does.1 does.3
  acts_change step sent (VoidsMark player) new told does =
      alike new _ does.0 (either_like (is_numbered player) old.peer _ _ (like old.peer) (like old.peer))
  acts_change step sent (HearsToo machine other) new told does =
      alike new _ does.0 (either_like (is_lost old.peer machine) old.peer _ _ (like old.peer) (like old.peer))
  acts_change step sent TakesEvent new told does = alike new _ does.0 (refl, refl, refl)

-- ---- what is said

tell_few : (seat : Seat) (m : ℕ) (room : List ℕ) (machine : Machine) (p : ℕ)
    → (offer_at (tell seat m room machine) p).end ≤ slice_index machine.has p
tell_few seat m room machine p = tells_had (match_of seat) seat.me m room machine p

module _ (match : Match) (world : PeerWorld) (i : ℕ) (now : Peered) (marked : IsMarked match world i now) where
  -- a play tells the marks of the words that it offers
  play_tells : (s : Seen) (peer : Peered) (m : ℕ) (t : Turn) → AreLike peer now → IsPlayFor s peer m t
      → (p f : ℕ) → p < PLAYER_LIMIT → Offers t p f → mark_for (mark_at t.marks p) f ≡ mark_for (owners match world p) f
  play_tells s peer m t same play p f l inside =
      ap (λ (ms : List (Option Marked)). mark_for (mark_at ms p) f) play.marks
      ∙ told_alike t.head.offers peer.member.mesh.machine.has peer.marks p f l inside
      ∙ ap (λ (ms : List (Option Marked)). mark_for (mark_at ms p) f) (sym same.2)
      ∙ marked.same p f l (omega (
        arith,
        (shortened_in play.packet p f (subst (λ (os : List Offer). IsIn (slice_index_or os p none_offered) f) play.offers inside)).1,
        ap (λ (packet : Packet). (offer_at packet p).end) play.told.packet_is,
        tell_few peer.member.mesh.seat m (room_for peer.member.mesh m) peer.member.mesh.machine p,
        ap (λ (mesh : Seated). slice_index mesh.machine.has p) same.0,
      ))

  content_tells : (s : Seen) (peer : Peered) (m : ℕ) (what : Content) (bytes : List ℕ) → AreLike peer now
      → IsContentFor s peer m what → Fits (message_by (key_for peer m what) peer.settings.me what)
      → bytes ≡ text_for peer m what → TellsMarks match world bytes
  content_tells s peer m what bytes same fits spelled text reader t opens = go what fits found
    where
      found : Plays t ≡ what
      found = genuine reader (key_for peer m what) peer.settings.me what (Plays t) spelled
          (sym (ap (opened reader) (text ∙ text_is peer m what)) ∙ opens)

      one : (x y : Turn) → Plays x ≡ Plays y → y ≡ x
      one x y e = cc

      go : (c : Content) → IsContentFor s peer m c → Plays t ≡ c → (p f : ℕ) → p < PLAYER_LIMIT → Offers t p f
          → mark_for (mark_at t.marks p) f ≡ mark_for (owners match world p) f
      go (Plays u) fits e = play_tells s peer m t same (subst (λ (x : Turn). IsPlayFor s peer m x) (one t u e) fits.1)
      go (Greets hello) fits e = absurd cc
      go (Leaves why) fits e = absurd fits

  bye_tells : (peer : Peered) (m why : ℕ) (bytes : List ℕ)
      → Fits (message_by (key_for peer m (Leaves why)) peer.settings.me (Leaves why))
      → bytes ≡ text_for peer m (Leaves why) → TellsMarks match world bytes
  bye_tells peer m why bytes spelled text reader t opens = absurd (no_play found)
    where
      found : Plays t ≡ Leaves why
      found = genuine reader (key_for peer m (Leaves why)) peer.settings.me (Leaves why) (Plays t) spelled
          (sym (ap (opened reader) (text ∙ text_is peer m (Leaves why))) ∙ opens)

      no_play : Plays t ≡ Leaves why → ⊥
      no_play e = cc

-- what a deed says
only_said : (match : Match) (world : PeerWorld) (place : ℕ) (one bytes : List ℕ) → slice_get (one ∷ []) place ≡ Some bytes
    → TellsMarks match world one → TellsMarks match world bytes
only_said match world zero one bytes e tells = subst (TellsMarks match world) (some_same one bytes e) tells
only_said match world (suc place) one bytes e tells = absurd (none_some bytes e)

said_tells : (match : Match) (world : PeerWorld) (i : ℕ) (step : Step) (sent : List (List ℕ)) (deed : Deed) (old new : Beside)
    → IsMarked match world i new.peer → Does step sent deed old new
    → (place : ℕ) (bytes : List ℕ) → slice_get (sent_in deed) place ≡ Some bytes → TellsMarks match world bytes
said_tells match world i step sent (Sends machine now (Some said)) old new marked does place bytes e =
    let mid : Peered = meeting old.session (ticking now old.peer) in
    only_said match world place said bytes e
    (content_tells match world i new.peer marked old.session mid machine does.1.content said (sent_as mid new.peer machine does.2)
    does.1.fits does.1.spelled does.1.text)
said_tells match world i step sent (SaysBye machine why said) old new marked does place bytes e =
    only_said match world place said bytes e
    (bye_tells match world i new.peer marked old.peer machine why said does.1 does.0)
said_tells match world i step sent (Sends machine now None) old new marked does place bytes e = absurd (none_some bytes e)
said_tells match world i step sent Calls old new marked does place bytes e = absurd (none_some bytes e)
said_tells match world i step sent CallsHolding old new marked does place bytes e = absurd (none_some bytes e)
said_tells match world i step sent (Receives heard now said) old new marked does place bytes e = absurd (none_some bytes e)
said_tells match world i step sent (Polls now said) old new marked does place bytes e = absurd (none_some bytes e)
said_tells match world i step sent (TakesTurn now said) old new marked does place bytes e = absurd (none_some bytes e)
said_tells match world i step sent (SendsNone now) old new marked does place bytes e = absurd (none_some bytes e)
said_tells match world i step sent (Disconnects machine) old new marked does place bytes e = absurd (none_some bytes e)
said_tells match world i step sent (NotesSettled digest) old new marked does place bytes e = absurd (none_some bytes e)
said_tells match world i step sent (NotesStateAt frame digest) old new marked does place bytes e = absurd (none_some bytes e)
said_tells match world i step sent (PutsMark player mark frame) old new marked does place bytes e = absurd (none_some bytes e)
said_tells match world i step sent (VoidsMark player) old new marked does place bytes e = absurd (none_some bytes e)
said_tells match world i step sent (HearsToo machine other) old new marked does place bytes e = absurd (none_some bytes e)
said_tells match world i step sent TakesEvent old new marked does place bytes e = absurd (none_some bytes e)

-- ---- a network is opened

has_without : (gone : List ℕ) (mesh : Seated) → (without_all gone mesh).machine.has ≡ mesh.machine.has
has_without [] mesh = refl
has_without (m ∷ gone) mesh =
    has_without gone (stepped (λ seat here. leave seat m here) mesh) ∙ leave_has mesh.seat m mesh.machine

module _ (match : Match) (old new : PeerWorld) (i : ℕ) (o : Opens match old new i) where
  no_marks : length o.peer.marks ≡ PLAYER_LIMIT
  no_marks = ap (λ (ms : List (Option Marked)). length ms) o.begins.marks ∙ length-replicate PLAYER_LIMIT none_known
    where
      none_known : Option Marked
      none_known = None

  no_mark : (p : ℕ) → p < PLAYER_LIMIT → mark_at o.peer.marks p ≡ None
  no_mark p l =
      ap (λ (ms : List (Option Marked)). mark_at ms p) o.begins.marks ∙ get_or-replicate PLAYER_LIMIT p None None l

  no_words_yet : (p : ℕ) → p < PLAYER_LIMIT → owner_in match p ≢ i → has_of o.peer p ≡ 0
  no_words_yet p l other =
      ap (λ (mesh : Seated). slice_index mesh.machine.has p) o.begins.mesh
      ∙ ap (λ (has : List ℕ). slice_index has p) (has_without o.gone o.begins.first)
      ∙ o.begins.joined.counts p l
      ∙ known_other o.session (seat_in o.settings) p isnt
      ∙ no_words o.session p l (seated_fine o.session (seat_in o.settings) o.begins.accepted).1
      ((o.begins.tied.players p l).own ∙ ap (λ (m : Seated). owner_of m.seat p == m.seat.me) o.begins.joined.mesh ∙ isnt)
    where
      isnt : (owner_of (seat_in o.settings) p == (seat_in o.settings).me) ≡ false
      isnt = ap (λ (s : Seat). owner_of s p == s.me) o.seat ∙ ne_eqb (owner_in match p) i other

-- ---- a world after a step

-- of one machine
record Alters (match : Match) (old new : PeerWorld) (m : Mirrors match old) (i : ℕ) (b : Beside) (said : List (List ℕ)) : Type 0 where
  sized : length b.peer.marks ≡ PLAYER_LIMIT
  own : (p f : ℕ) → p < PLAYER_LIMIT → owner_in match p ≡ i → f < count m.world (owner_in match p) p
      → mark_for (mark_at b.peer.marks p) f ≡ mark_for (known_by (old.machines i) p) f
  others : (p f : ℕ) → p < PLAYER_LIMIT → owner_in match p ≢ i → f < has_of b.peer p
      → mark_of_word b.peer p f ≡ mark_for (owners match old p) f
  there : (p : ℕ) (k : Marked) → p < PLAYER_LIMIT → owner_in match p ≢ i → mark_at b.peer.marks p ≡ Some k
      → k.frame < has_of b.peer p
  keeps : (p : ℕ) (k : Marked) → p < PLAYER_LIMIT → known_by (old.machines i) p ≡ Some k → mark_at b.peer.marks p ≡ Some k
  told : IsMarked match new i b.peer → (place : ℕ) (bytes : List ℕ) → slice_get said place ≡ Some bytes
      → TellsMarks match new bytes

module _ (match : Match) (old new : PeerWorld) (m : Mirrors match old) (marked : AreMarked match old) (i : ℕ) (b : Beside)
    (said : List (List ℕ)) (a : Alters match old new m i b said) (is : new.machines i ≡ Some b)
    (apart : (j : ℕ) → j ≢ i → new.machines j ≡ old.machines j) (sent : new.sent ≡ said ++ old.sent) where
  now_own : (p : ℕ) → owner_in match p ≡ i → owners match new p ≡ mark_at b.peer.marks p
  now_own p e = ap (λ j. known_by (new.machines j) p) e ∙ ap (λ o. known_by o p) is

  still_others : (p : ℕ) → owner_in match p ≢ i → owners match new p ≡ owners match old p
  still_others p other = ap (λ o. known_by o p) (apart (owner_in match p) other)

  -- what the owners know of words that any machine has stays
  still : (p f : ℕ) → p < PLAYER_LIMIT → f < count m.world (owner_in match p) p
      → mark_for (owners match new p) f ≡ mark_for (owners match old p) f
  still p f l lt = go (cases_eq (owner_in match p) i)
    where
      go : (owner_in match p ≡ i) ⊎ (owner_in match p ≡ i → ⊥)
          → mark_for (owners match new p) f ≡ mark_for (owners match old p) f
      go (inl e) =
          ap (λ o. mark_for o f) (now_own p e) ∙ a.own p f l e lt
          ∙ ap (λ j. mark_for (known_by (old.machines j) p) f) (sym e)
      go (inr other) = ap (λ o. mark_for o f) (still_others p other)

  here_marked : IsMarked match new i b.peer
  here_marked = record {
    sized = a.sized;
    same = λ p f l lt. same p f l lt (cases_eq (owner_in match p) i);
    there = a.there;
  }
    where
      same : (p f : ℕ) → p < PLAYER_LIMIT → f < has_of b.peer p → (owner_in match p ≡ i) ⊎ (owner_in match p ≡ i → ⊥)
          → mark_of_word b.peer p f ≡ mark_for (owners match new p) f
      same p f l lt (inl e) = ap (λ o. mark_for o f) (sym (now_own p e))
      same p f l lt (inr other) = a.others p f l other lt ∙ ap (λ o. mark_for o f) (sym (still_others p other))

  still_marked : (j : ℕ) (x : Beside) → old.machines j ≡ Some x → IsMarked match new j x.peer
  still_marked j x was = record {
    sized = (marked.each j x was).sized;
    same = λ p f l lt.
        (marked.each j x was).same p f l lt
        ∙ sym (still p f l (omega (arith, lt, has_few match old m j x p was)));
    there = (marked.each j x was).there;
  }

  each : (j : ℕ) (x : Beside) → new.machines j ≡ Some x → (j ≡ i) ⊎ (j ≡ i → ⊥) → IsMarked match new j x.peer
  each j x e (inl same) =
      let one : b ≡ x = some_same b x (sym is ∙ ap new.machines (sym same) ∙ e) in
      subst (λ (k : ℕ). IsMarked match new k x.peer) (sym same)
      (subst (λ (y : Beside). IsMarked match new i y.peer) one here_marked)
  each j x e (inr other) = still_marked j x (sym (apart j other) ∙ e)

  tells : (bytes : List ℕ) → ((k : ℕ) × (slice_get said k ≡ Some bytes)) ⊎ ((k : ℕ) × (slice_get old.sent k ≡ Some bytes))
      → TellsMarks match new bytes
  tells bytes (inl h) = a.told here_marked h.0 bytes h.1
  tells bytes (inr h) = λ peer t opens p f l inside.
      marked.told h.0 bytes h.1 peer t opens p f l inside
      ∙ sym (still p f l (offers_few match old m h.0 bytes h.1 peer t opens p f inside))

  keeps : (j p : ℕ) (k : Marked) → p < PLAYER_LIMIT → known_by (old.machines j) p ≡ Some k → (j ≡ i) ⊎ (j ≡ i → ⊥)
      → known_by (new.machines j) p ≡ Some k
  keeps j p k l e (inl same) =
      ap (λ n. known_by (new.machines n) p) same ∙ ap (λ o. known_by o p) is
      ∙ a.keeps p k l (ap (λ n. known_by (old.machines n) p) (sym same) ∙ e)
  keeps j p k l e (inr other) = ap (λ o. known_by o p) (apart j other) ∙ e

  altered : AreMarkedOn match old new m
  altered = record {
    marked = record {
      each = λ j x e. each j x e (cases_eq j i);
      told = λ place bytes e.
          tells bytes (in_either said old.sent place bytes (ap (λ (bs : List (List ℕ)). slice_get bs place) (sym sent) ∙ e));
    };
    still = still;
    keeps = λ j p k l e. keeps j p k l e (cases_eq j i);
  }

module _ (match : Match) (games : ℕ → Step) where
  changed : (old new : PeerWorld) (m : Mirrors match old) → AreMarked match old → (i : ℕ) (a : Acts (games i) old new i)
      → Changes match old i a.before.peer a.after.peer
  changed old new m marked i a =
      let was = here match old m i a.before a.was in
      acts_change match old i a.before was.seat was.word (marked.each i a.before a.was) (games i) old.sent a.deed a.after
      marked.told a.does

  step_marked : (old new : PeerWorld) (m : Mirrors match old) → AreMarked match old → IsStep match games old new
      → AreMarkedOn match old new m
  step_marked old new m marked step = go step.step_is
    where
      i : ℕ
      i = step.machine

      go : Opens match old new i ⊎ Acts (games i) old new i → AreMarkedOn match old new m
      go (inl o) =
          altered match old new m marked i (record { session = o.session; peer = o.peer }) [] (record {
            sized = no_marks match old new i o;
            own = λ p f l e lt. ap (λ k. mark_for k f) (no_mark match old new i o p l ∙ sym (ap (λ x. known_by x p) o.fresh));
            others = λ p f l other lt. absurd (omega (arith, lt, no_words_yet match old new i o p l other));
            there = λ p k l other e. absurd (none_some k (sym (no_mark match old new i o p l) ∙ e));
            keeps = λ p k l e. absurd (none_some k (sym (ap (λ x. known_by x p) o.fresh) ∙ e));
            told = λ here place bytes e. absurd (none_some bytes e);
          }) o.there step.others o.sent
      go (inr a) =
          let changes = changed old new m marked i a in
          altered match old new m marked i a.after (sent_in a.deed) (record {
            sized = changes.sized;
            own = λ p f l e lt.
                changes.own p f l e (omega (arith, lt, ap (λ j. count m.world j p) e, count_is match old m i a.before p a.was))
                ∙ ap (λ x. mark_for (known_by x p) f) (sym a.was);
            others = changes.others;
            there = changes.there;
            keeps = λ p k l e. changes.keeps p k l (sym (ap (λ x. known_by x p) a.was) ∙ e);
            told = λ now. said_tells match new i (games i) old.sent a.deed a.before a.after now a.does;
          }) a.is step.others a.sent

  pub steps_marked : (old : PeerWorld) (worlds : List PeerWorld) (new : PeerWorld) (m : Mirrors match old) → AreMarked match old
      → AreSteps match games old worlds new → AreMarkedOn match old new m
  steps_marked old [] new m marked steps =
      subst (λ (w : PeerWorld). AreMarkedOn match old w m) (sym steps)
      (record { marked = marked; still = λ p f l lt. refl; keeps = λ j p k l e. e })
  steps_marked old (next ∷ more) new m marked steps =
      let on = step_mirrors match games old next m steps.0 in
      let first = step_marked old next m marked steps.0 in
      let rest = steps_marked next more new on.mirrors first.marked steps.1 in
      let grown : (p : ℕ) → count m.world (owner_in match p) p ≤ count on.mirrors.world (owner_in match p) p =
      λ p. omega (
        arith,
        rise match m.world m.from on.comes.0 (owner_in match p) p,
        ap (λ (w : WordWorld). count w (owner_in match p) p) on.comes.1,
      ) in
      record {
        marked = rest.marked;
        still = λ p f l lt. rest.still p f l (omega (arith, lt, grown p)) ∙ first.still p f l lt;
        keeps = λ j p k l e. rest.keeps j p k l (first.keeps j p k l e);
      }

  pub always_marked : (world : PeerWorld) → IsPlayedTo match games world → AreMarked match world
  always_marked world played =
      (steps_marked nobody played.0 world (mirrors_nobody match games) (record {
        each = λ i b e. absurd (none_some b e);
        told = λ place bytes e. absurd (none_some bytes e);
      }) played.1).marked

pub who_has_the_word_has_its_mark : WhoHasTheWordHasItsMark
who_has_the_word_has_its_mark match games world i p frame a owner played l has opened =
    ((always_marked match games world played).each i a has.is).same p frame l has.there
    ∙ ap (λ o. mark_for (known_by o p) frame) opened

pub they_know_one_mark : TheyKnowOneMark
they_know_one_mark match games world i j p frame a b played l has_a has_b =
    let marked = always_marked match games world played in
    (marked.each i a has_a.is).same p frame l has_a.there ∙ sym ((marked.each j b has_b.is).same p frame l has_b.there)

-- what a step puts is known to the owner
record IsPut (match : Match) (next : PeerWorld) (player frame : ℕ) (mark : Mark) : Type 0 where
  inside : player - 1 < PLAYER_LIMIT
  known : owners match next (player - 1) ≡ Some (record { frame = frame; mark = mark })

acts_put : (match : Match) (games : ℕ → Step) (old next : PeerWorld) (m : Mirrors match old) → AreMarked match old
    → (i : ℕ) (a : Acts (games i) old next i) (player frame : ℕ) (mark : Mark) → a.deed ≡ PutsMark player mark frame
    → IsPut match next player frame mark
acts_put match games old next m marked i a player frame mark deed =
    let was = here match old m i a.before a.was in
    let does : Does (games i) old.sent (PutsMark player mark frame) a.before a.after =
    subst (λ d. Does (games i) old.sent d a.before a.after) deed a.does in
    let each = marked.each i a.before a.was in
    let allowed = may match old i a.before.peer was.seat each a.before.session a.after.peer player frame mark was.word does.0 does.1
    does.3 in
    record {
      inside = omega (arith, allowed.0, allowed.1);
      known = ap (λ k. known_by (next.machines k) (player - 1)) allowed.2
          ∙ ap (λ x. known_by x (player - 1)) a.is
          ∙ is_put match old i a.before.peer was.seat each a.before.session a.after.peer player frame mark was.word does.0 does.1
          does.3;
    }

pub what_was_put_is_known : WhatWasPutIsKnown
what_was_put_is_known match games old next world worlds player frame i mark b played puts steps has =
    (on.marked.each i b has.is).same (player - 1) frame put.inside has.there
    ∙ ap (λ o. mark_for o frame)
    (on.keeps (owner_in match (player - 1)) (player - 1) (record { frame = frame; mark = mark }) put.inside put.known)
    ∙ mark_here (record { frame = frame; mark = mark })
  where
    m : Mirrors match old
    m = mirrors match games old played

    before : AreMarked match old
    before = always_marked match games old played

    later : Mirrors match next
    later = (step_mirrors match games old next m puts.step).mirrors

    marked : AreMarked match next
    marked = (step_marked match games old next m before puts.step).marked

    on : AreMarkedOn match next world later
    on = steps_marked match games next worlds world later marked steps

    put : IsPut match next player frame mark
    put = acts_put match games old next m before puts.step.machine puts.acts player frame mark puts.deed
