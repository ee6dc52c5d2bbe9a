-- Whatever machines call, what they hold is what one world of the laws over words has.
use Rattle.std.proofs.Common.{◌≡◌, ◌∙◌, ◌⊎◌, ◌≢◌, ℕ, zero, suc, ◌+◌, ◌<◌, ◌≤◌, List, [], ◌∷◌, ◌++◌, length, map, refl, ap, sym, subst, arith, true, false, inl, inr, Option, Some, None, Result, Ok, Err}
use Rattle.std.specs.Prelude.{◌==◌, ◌&&◌, nat_le, slice_get}
use Rattle.std.proofs.lemmas.Bool.{and_parts, cases_eq, eqb-true, ne_eqb}
use Rattle.std.proofs.lemmas.List.{get_or-replicate, get_or-set_other, length-set}
use Rattle.std.proofs.lemmas.Option.{slice_get-get_or}
use Rattle.roll_contact.specs.Seals.{message_by, said_by}
use Rattle.roll_contact.specs.declared.key.Key.{Key}
use Rattle.roll_mesh.proofs.Changes.{none_some, some_same}
use Rattle.roll_mesh.specs.declared.limits.TheConstants.{PLAYER_LIMIT}
use Rattle.roll_mesh.specs.declared.machine.Machine.{Machine}
use Rattle.roll_mesh.specs.declared.packet.Packet.{Packet}
use Rattle.roll_mesh.specs.declared.seat.Seat.{Seat}
use Rattle.roll_mesh.specs.Machines.{at_places, kept_offer, leave, owner_of, shortened, tell}
use Rattle.roll_mesh.specs.Meshes.{is_seat, stepped, Seated}
use Rattle.roll_mesh.specs.Words.{first_holder, first_words, hear_words, holder_at, no_holder, tell_words, words_after, words_after_all, words_told, Holder, Parcel, Tells, WordStep, WordWorld}
use Rattle.roll_mesh.specs.Worlds.{first_machine, seat_of, Match}
use Rattle.roll_session.specs.Headline.{words_of}
use Rattle.roll_session.specs.Seen.{FollowsLog, Seen, Step}
use Rattle.roll_member.specs.Joined.{are_fresh, are_seated, held, is_local_at, join_refusal, known, IsJoinedAs, IsTied}
use Rattle.roll_member.specs.Taking.{shares, words_heard}
use Rattle.roll_member.specs.declared.member.Taken.{Taken}
use Rattle.roll_member.specs.Telling.{room_for}
use Rattle.roll_member.proofs.Joining.{no_words}
use Rattle.roll_member.proofs.Known.{known_few, known_other}
use Rattle.roll_member.proofs.Tied.{seated_fine, seat_inputs}
use Rattle.roll_wire.specs.Spelling.{are_offers, count_of, Content, Fits, Greets, Leaves, Plays, Turn}
use Rattle.roll_wire.specs.declared.limits.TheConstants.{WORD_LIMIT}
use Rattle.roll_peer.specs.PeerWorlds.{nobody, IsPlayedTo, sent_in, Acts, AreSteps, Calls, CallsHolding, Deed, Disconnects, Does, HearsToo, IsStep, NotesSettled, NotesStateAt, Opens, PeerWorld, Polls, PutsMark, Receives, SaysBye, Sends, SendsNone, TakesEvent, TakesTurn, VoidsMark}
use Rattle.roll_peer.specs.Peered.{beside, without_all, Peered}
use Rattle.roll_peer.specs.Marking.{is_numbered}
use Rattle.roll_peer.specs.Receiving.{end_for, meeting, opened, packet_of, sender_of, ticking, Hears, HearsTurn, IsIgnored}
use Rattle.roll_peer.specs.Requests.{Beside, HearsBytes}
use Rattle.roll_peer.specs.Sending.{after_send, is_lost, key_for, text_for, IsContentFor, IsPlayFor}
use Rattle.roll_peer.specs.Settings.{seat_of as seat_in}
use Rattle.roll_peer.specs.declared.received.Ignored.{Ignored}
use Rattle.roll_peer.specs.declared.received.Received.{Received}
use Rattle.roll_peer.specs.declared.received.Received.TheVariants.{Hello as HelloHeard, Play as PlayHeard, Bye as ByeHeard}
use Rattle.roll_peer.specs.declared.settings.MatchSettings.{MatchSettings}
use Rattle.roll_peer.proofs.Coming.{after_both, comes_already, gives_all, held_to, with_holder, Comes}
use Rattle.roll_peer.proofs.Genuine.{genuine, sender_is}
use Rattle.roll_peer.proofs.Later.{called_on, goes_on}
use Rattle.roll_peer.proofs.Parcels.{heard_alike, shares_kept, shortened_again, whole_heard}
use Rattle.roll_peer.proofs.Polling.{either_like, ignored_like, like, like_as, polled_stands, AreLike}
use Rattle.roll_peer.proofs.Said.{after_send_is}
use Rattle.roll_peer.proofs.Standing.{from_holder, from_more, held_by, here_is, holds, inside_of, stands_as, stands_heard, stands_left, stands_met, stands_on, IsFrom, Stands}

-- ---- what was told

-- a play is what a parcel was sent as
pub record IsToldAs (world : WordWorld) (sender : ℕ) (t : Turn) : Type 0 where
  pub place : ℕ
  pub packet : Packet
  pub there : slice_get world.sent place ≡ Some (record { packet = packet; words = shares packet.offers t.words })
  pub sender_is : packet.sender ≡ sender
  pub view : t.head.view ≡ packet.view
  pub offers : t.head.offers ≡ (shortened packet).offers
  pub whole : count_of packet.offers ≡ length t.words

-- bytes are what a machine said, which, if it was a play, was a parcel
pub record WasTold (world : WordWorld) (bytes : List ℕ) : Type 0 where
  pub key : Key
  pub sender : ℕ
  pub what : Content
  pub text : bytes ≡ said_by key sender what
  pub fits : Fits (message_by key sender what)
  pub told : (t : Turn) → what ≡ Plays t → IsToldAs world sender t

-- each parcel that was sent still is
abbrev pub KeepsSent : WordWorld → WordWorld → Type 0
KeepsSent old new = (place : ℕ) (parcel : Parcel) → slice_get old.sent place ≡ Some parcel
    → (later : ℕ) × (slice_get new.sent later ≡ Some parcel)

still_told : (old new : WordWorld) (bytes : List ℕ) → KeepsSent old new → WasTold old bytes → WasTold new bytes
still_told old new bytes keeps was = record {
  key = was.key;
  sender = was.sender;
  what = was.what;
  text = was.text;
  fits = was.fits;
  told = λ t e.
      let told = was.told t e in
      let now = keeps told.place (record { packet = told.packet; words = shares told.packet.offers t.words }) told.there in
      record {
        place = now.0;
        packet = told.packet;
        there = now.1;
        sender_is = told.sender_is;
        view = told.view;
        offers = told.offers;
        whole = told.whole;
      };
}

-- ---- what one machine comes to

pub record IsMirrored (match : Match) (world : WordWorld) (i : ℕ) (b : Beside) : Type 0 where
  pub inside : i < match.machines
  pub seat : b.peer.member.mesh.seat ≡ seat_of match i
  pub me : b.peer.settings.me ≡ i
  pub word : 1 ≤ match.words
  pub holds : held (beside b.session b.peer) ≡ holder_at world i

-- a world of words after a machine made a call
record Follows (match : Match) (old : WordWorld) (i : ℕ) (b : Beside) (said : List (List ℕ)) : Type 0 where
  new : WordWorld
  from : IsFrom match new
  here : IsMirrored match new i b
  others : (j : ℕ) → j ≢ i → holder_at new j ≡ holder_at old j
  keeps : KeepsSent old new
  told : (place : ℕ) (bytes : List ℕ) → slice_get said place ≡ Some bytes → WasTold new bytes
  comes : (steps : List WordStep) × (words_after_all match old steps ≡ new)

none_said : (world : WordWorld) (place : ℕ) (bytes : List ℕ) → slice_get {X = List ℕ} [] place ≡ Some bytes → WasTold world bytes
none_said world place bytes e = absurd (none_some bytes e)

told_by_me : (seat : Seat) (m : ℕ) (room : List ℕ) (machine : Machine) → (tell seat m room machine).sender ≡ seat.me
unfolding tell
told_by_me seat m room machine = refl

pub text_is : (peer : Peered) (m : ℕ) (what : Content) → text_for peer m what ≡ said_by (key_for peer m what) peer.settings.me what
unfolding text_for
text_is peer m what = refl

module _ (match : Match) (world : WordWorld) (i : ℕ) (from : IsFrom match world) (there : i < match.machines) where
  pub stands_of : (b : Beside) → IsMirrored match world i b → Stands match world i b.session b.peer
  stands_of b m = record {
    seat = m.seat;
    me = m.me;
    word = m.word;
    comes = subst (λ (h : Holder). Comes match world i h) (sym m.holds) (comes_already match world i);
  }

  -- nothing was said
  silent : (b : Beside) → Stands match world i b.session b.peer → Follows match world i b []
  silent b stands = record {
    new = with_holder world i (held (beside b.session b.peer));
    from = from_holder match world i (held (beside b.session b.peer)) from stands.comes;
    here = record {
      inside = there;
      seat = stands.seat;
      me = stands.me;
      word = stands.word;
      holds = sym (here_is world i (held (beside b.session b.peer)) (inside_of match world i from there));
    };
    others = λ j apart. get_or-set_other world.holders i j (held (beside b.session b.peer)) no_holder apart;
    keeps = λ place parcel e. (place, e);
    told = none_said (with_holder world i (held (beside b.session b.peer)));
    comes = stands.comes;
  }

  -- something was said that is no play
  other_said : (b : Beside) (bytes : List ℕ) → Stands match world i b.session b.peer
      → ((w : WordWorld) → WasTold w bytes) → Follows match world i b (bytes ∷ [])
  other_said b bytes stands was =
      let quiet = silent b stands in
      record {
        new = quiet.new;
        from = quiet.from;
        here = quiet.here;
        others = quiet.others;
        keeps = quiet.keeps;
        told = λ place other e. said place other e quiet.new;
        comes = quiet.comes;
      }
    where
      said : (place : ℕ) (other : List ℕ) → slice_get (bytes ∷ []) place ≡ Some other → (w : WordWorld) → WasTold w other
      said zero other e w = subst (λ (bs : List ℕ). WasTold w bs) (some_same bytes other e) (was w)
      said (suc place) other e w = absurd (none_some other e)

  -- a play was said: it is a parcel that is told
  tell_is : (h : Holder) (m : ℕ) (room : List ℕ)
      → words_after match (with_holder world i h) (Tells i m room)
      ≡ record (with_holder world i h) { sent = tell_words (seat_of match i) m room h ∷ world.sent }
  unfolding words_after words_told
  tell_is h m room =
      let many : i < length (with_holder world i h).holders =
      omega (arith, inside_of match world i from there, length-set world.holders i h) in
      rw (
        slice_get-get_or (with_holder world i h).holders i no_holder many,
        here_is world i h (inside_of match world i from there),
      )
      refl

  play_said : (b : Beside) (s : Seen) (peer : Peered) (m : ℕ) (t : Turn) → Stands match world i s peer
      → IsPlayFor s peer m t → Fits (message_by (key_for peer m (Plays t)) peer.settings.me (Plays t))
      → b.session ≡ s → AreLike peer b.peer
      → Follows match world i b (text_for peer m (Plays t) ∷ [])
  play_said b s peer m t stands play fits session same = record {
    new = next;
    from = subst (IsFrom match) (tell_is h m room)
        (from_more match (with_holder world i h) (Tells i m room ∷ [])
        (from_holder match world i h from stands.comes));
    here = record {
      inside = there;
      seat = ap (λ (mesh : Seated). mesh.seat) same.0 ∙ stands.seat;
      me = ap (λ (x : MatchSettings). x.me) same.1 ∙ stands.me;
      word = stands.word;
      holds = (λ k. held_by (session k) (same.0 k)) ∙ sym (here_is world i h (inside_of match world i from there));
    };
    others = λ j apart. get_or-set_other world.holders i j h no_holder apart;
    keeps = λ place parcel e. (suc place, e);
    told = said;
    comes = (
      stands.comes.0 ++ Tells i m room ∷ [],
      after_both match world stands.comes.0 (Tells i m room ∷ [])
          ∙ ap (λ (w : WordWorld). words_after_all match w (Tells i m room ∷ [])) stands.comes.1 ∙ tell_is h m room,
    );
  }
    where
      h : Holder
      h = held (beside s peer)

      room : List ℕ
      room = room_for peer.member.mesh m

      next : WordWorld
      next = record (with_holder world i h) { sent = tell_words (seat_of match i) m room h ∷ world.sent }

      whole : count_of play.packet.offers ≡ length t.words
      whole =
          let outer = and_parts (are_offers play.packet.offers && (count_of play.packet.offers == length t.words))
          (nat_le (length t.words) WORD_LIMIT) play.told.whole in
          eqb-true (count_of play.packet.offers) (length t.words)
          (and_parts (are_offers play.packet.offers) (count_of play.packet.offers == length t.words) outer.0).1

      told_as : (u : Turn) → Plays t ≡ Plays u → IsToldAs next peer.settings.me u
      told_as u e = subst (λ (x : Turn). IsToldAs next peer.settings.me x) (one t u e) (record {
        place = 0;
        packet = play.packet;
        there = ap (λ (parcel : Parcel). Some parcel)
            (sym (play.told.parcel ∙ ap (λ (seat : Seat). tell_words seat m room h) stands.seat));
        sender_is = ap (λ (p : Packet). p.sender) play.told.packet_is
            ∙ told_by_me peer.member.mesh.seat m room peer.member.mesh.machine
            ∙ ap (λ (seat : Seat). seat.me) stands.seat ∙ sym stands.me;
        view = play.view;
        offers = play.offers;
        whole = whole;
      })
        where
          one : (x y : Turn) → Plays x ≡ Plays y → x ≡ y
          one x y e = cc

      was : WasTold next (text_for peer m (Plays t))
      was = record {
        key = key_for peer m (Plays t);
        sender = peer.settings.me;
        what = Plays t;
        text = text_is peer m (Plays t);
        fits = fits;
        told = told_as;
      }

      said : (place : ℕ) (other : List ℕ) → slice_get (text_for peer m (Plays t) ∷ []) place ≡ Some other → WasTold next other
      said zero other e = subst (λ (bs : List ℕ). WasTold next bs) (some_same (text_for peer m (Plays t)) other e) was
      said (suc place) other e = absurd (none_some other e)

-- ---- calls

module _ (match : Match) (world : WordWorld) (i : ℕ) (from : IsFrom match world) (there : i < match.machines) where
  -- a session is told of some of its network's events alone
  ticked : (s : Seen) (now : ℕ) (peer : Peered) → Stands match world i s peer → Stands match world i s (ticking now peer)
  ticked s now peer stands = stands_as match world i from there s peer (ticking now peer) refl refl stands

  -- a play that is heard is a parcel
  turn_heard : (step : Step) (before after : Seen) (old new : Peered) (bytes : List ℕ) (t : Turn) (taken : Taken)
      → WasTold world bytes → opened old bytes ≡ Ok (Plays t)
      → HearsTurn step before after old new (sender_of bytes) t taken
      → Stands match world i before old → Stands match world i after new
  turn_heard step before after old new bytes t taken was opens heard stands =
      stands_heard match world i from there step before after old new (packet_of (sender_of bytes) t) t.words (end_for old t) taken heard.member
      (ap (λ (p : Peered). p.settings) heard.rest) told.place parcel told.there now stands
    where
      found : Plays t ≡ was.what
      found = genuine old was.key was.sender was.what (Plays t) was.fits (sym (ap (opened old) was.text) ∙ opens)

      told : IsToldAs world was.sender t
      told = was.told t (sym found)

      parcel : Parcel
      parcel = record { packet = told.packet; words = shares told.packet.offers t.words }

      said_by_it : sender_of bytes ≡ told.packet.sender
      said_by_it = ap sender_of was.text ∙ sender_is was.key was.sender was.what ∙ sym told.sender_is

      packet-is : packet_of (sender_of bytes) t ≡ shortened told.packet
      packet-is =
          (λ k. shortened (record { sender = said_by_it k; view = told.view k; offers = told.offers k }))
          ∙ shortened_again told.packet

      input : ℕ
      input = old.member.mesh.seat.words

      words-are : (packet : Packet) → packet ≡ shortened told.packet
          → shares packet.offers (words_heard input packet.offers t.words) ≡ shares told.packet.offers t.words
      words-are packet e =
          ap (λ (p : Packet). shares p.offers (words_heard input p.offers t.words)) e
          ∙ ap (shares (map kept_offer told.packet.offers)) (whole_heard input told.packet.offers t.words told.whole)
          ∙ shares_kept told.packet.offers t.words

      now : held (beside after new)
          ≡ hear_words old.member.mesh.seat new.member.mesh.machine.has parcel (held (beside before old))
      now =
          heard.member.step_is
          ∙ (λ k. hear_words old.member.mesh.seat new.member.mesh.machine.has
          (record { packet = packet-is k; words = words-are (packet_of (sender_of bytes) t) packet-is k })
          (held (beside before old)))
          ∙ heard_alike old.member.mesh.seat new.member.mesh.machine.has told.packet t.words (held (beside before old))

  hears_content : (step : Step) (before after : Seen) (old new : Peered) (bytes : List ℕ) (what : Content) (received : Received)
      → opened old bytes ≡ Ok what → ((t : Turn) → opened old bytes ≡ Ok (Plays t) → WasTold world bytes)
      → Hears step before after old new (sender_of bytes) what received
      → Stands match world i before old → Stands match world i after new
  hears_content step before after old new bytes (Plays t) (PlayHeard sender taken) opens was hears stands =
      turn_heard step before after old new bytes t taken (was t opens) opens hears.1 stands
  hears_content step before after old new bytes (Greets hello) (HelloHeard sender) opens was hears stands =
      subst (λ (s : Seen). Stands match world i s new) (sym hears.1)
      (stands_as match world i from there before old new (ap (λ (p : Peered). p.member.mesh) hears.2)
      (ap (λ (p : Peered). p.settings) hears.2) stands)
  hears_content step before after old new bytes (Leaves why) (ByeHeard sender) opens was hears stands =
      let gone = stands_left match world i from there before old (sender_of bytes) stands in
      subst (λ (s : Seen). Stands match world i s new) (sym hears.1)
      (stands_as match world i from there before _ new (ap (λ (p : Peered). p.member.mesh) hears.2)
      (ap (λ (p : Peered). p.settings) hears.2) gone)
  hears_content step before after old new bytes (Greets hello) (PlayHeard sender taken) opens was hears stands = absurd hears
  hears_content step before after old new bytes (Greets hello) (ByeHeard sender) opens was hears stands = absurd hears
  hears_content step before after old new bytes (Plays t) (HelloHeard sender) opens was hears stands = absurd hears
  hears_content step before after old new bytes (Plays t) (ByeHeard sender) opens was hears stands = absurd hears
  hears_content step before after old new bytes (Leaves why) (HelloHeard sender) opens was hears stands = absurd hears
  hears_content step before after old new bytes (Leaves why) (PlayHeard sender taken) opens was hears stands = absurd hears

  ignored_stands : (s : Seen) (old new : Peered) (bytes : List ℕ) (why : Ignored) → IsIgnored s old new bytes why
      → Stands match world i s old → Stands match world i s new
  ignored_stands s old new bytes why (inl other) stands =
      subst (λ (p : Peered). Stands match world i s p) (sym other.2) stands
  ignored_stands s old new bytes why (inr own) stands =
      let met = stands_met match world i from there s old own.0 stands in
      let same = ignored_like bytes why (meeting s old) in
      stands_as match world i from there s (meeting s old) new
      (ap (λ (p : Peered). p.member.mesh) own.2 ∙ same.0) (ap (λ (p : Peered). p.settings) own.2 ∙ same.1) met

  heard_stands : (step : Step) (old new : Beside) (now : ℕ) (bytes : List ℕ) (said : Result Received Ignored)
      → HearsBytes step old new now bytes said
      → ((t : Turn) → opened (meeting old.session (ticking now old.peer)) bytes ≡ Ok (Plays t) → WasTold world bytes)
      → Stands match world i old.session old.peer → Stands match world i new.session new.peer
  heard_stands step old new now bytes (Ok received) hears was stands =
      hears_content step old.session new.session (meeting old.session (ticking now old.peer)) new.peer bytes hears.1.what received
      hears.1.is_opened was hears.1.hears
      (stands_met match world i from there old.session (ticking now old.peer) hears.0 (ticked old.session now old.peer stands))
  heard_stands step old new now bytes (Err why) hears was stands =
      subst (λ (s : Seen). Stands match world i s new.peer) (sym hears.1)
      (ignored_stands old.session (ticking now old.peer) new.peer bytes why hears.0 (ticked old.session now old.peer stands))

  -- what a send makes of the network, beside what it says
  pub sent_like : (peer new : Peered) (m : ℕ) → new ≡ after_send peer m → AreLike peer new
  sent_like peer new m e =
      like_as peer _ new (e ∙ after_send_is peer m) (either_like (is_lost peer m) peer peer _ (like peer) (like peer))

  said_content : (b : Beside) (s : Seen) (peer : Peered) (m : ℕ) (bytes : List ℕ) (what : Content) → Stands match world i s peer
      → IsContentFor s peer m what → Fits (message_by (key_for peer m what) peer.settings.me what)
      → bytes ≡ text_for peer m what → b.session ≡ s → AreLike peer b.peer → Follows match world i b (bytes ∷ [])
  said_content b s peer m bytes (Plays t) stands fits spelled text session same =
      subst (λ (bs : List ℕ). Follows match world i b (bs ∷ [])) (sym text)
      (play_said match world i from there b s peer m t stands fits.1 spelled session same)
  said_content b s peer m bytes (Greets hello) stands fits spelled text session same =
      other_said match world i from there b bytes now (λ w. record {
        key = key_for peer m (Greets hello);
        sender = peer.settings.me;
        what = Greets hello;
        text = text ∙ text_is peer m (Greets hello);
        fits = spelled;
        told = λ t e. absurd (no_play t e);
      })
    where
      no_play : (t : Turn) → Greets hello ≡ Plays t → ⊥
      no_play t e = cc

      now : Stands match world i b.session b.peer
      now = subst (λ (x : Seen). Stands match world i x b.peer) (sym session)
          (stands_as match world i from there s peer b.peer same.0 same.1 stands)
  said_content b s peer m bytes (Leaves why) stands fits spelled text session same = absurd fits

  -- what a call makes of a machine
  acts : (step : Step) (sent : List (List ℕ)) (deed : Deed) (old new : Beside) → FollowsLog step old.session
      → ((place : ℕ) (bytes : List ℕ) → slice_get sent place ≡ Some bytes → WasTold world bytes)
      → Does step sent deed old new → Stands match world i old.session old.peer → Follows match world i new (sent_in deed)
  acts step sent Calls old new follows was does stands =
      silent match world i from there new
      (subst (λ (p : Peered). Stands match world i new.session p) (sym does.1)
      (stands_on match world i from there old.session new.session old.peer
      (called_on step old.session new.session follows does.0).words stands))
  acts step sent CallsHolding old new follows was does stands =
      silent match world i from there new
      (subst (λ (p : Peered). Stands match world i new.session p) (sym does.1)
      (stands_on match world i from there old.session new.session old.peer does.0.words stands))
  acts step sent (Receives bytes now said) old new follows was does stands =
      silent match world i from there new
      (heard_stands step old new now bytes said does.0
      (λ t e. let at = does.1 t e in was at.0 bytes at.1) stands)
  acts step sent (Polls now said) old new follows was does stands =
      silent match world i from there new
      (polled_stands match world i from there old.session new.session (ticking now old.peer) new.peer said does
      (ticked old.session now old.peer stands))
  acts step sent (TakesTurn now said) old new follows was does stands =
      silent match world i from there new
      (stands_on match world i from there does.polled new.session new.peer
      (goes_on does.poll new.peer.running does.polled new.session said does.plays).words
      (polled_stands match world i from there old.session does.polled (ticking now old.peer) new.peer does.poll does.polls
      (ticked old.session now old.peer stands)))
  acts step sent (Sends machine now None) old new follows was does stands =
      let met = stands_met match world i from there old.session (ticking now old.peer) does.0
      (ticked old.session now old.peer stands) in
      let same = sent_like (meeting old.session (ticking now old.peer)) new.peer machine does.2 in
      silent match world i from there new
      (subst (λ (s : Seen). Stands match world i s new.peer) (sym does.3)
      (stands_as match world i from there old.session (meeting old.session (ticking now old.peer)) new.peer same.0 same.1 met))
  acts step sent (Sends machine now (Some bytes)) old new follows was does stands =
      let met = stands_met match world i from there old.session (ticking now old.peer) does.0
      (ticked old.session now old.peer stands) in
      said_content new old.session (meeting old.session (ticking now old.peer)) machine bytes does.1.content met does.1.fits
      does.1.spelled does.1.text does.3 (sent_like (meeting old.session (ticking now old.peer)) new.peer machine does.2)
  acts step sent (SendsNone now) old new follows was does stands =
      silent match world i from there new
      (subst (λ (b : Beside). Stands match world i b.session b.peer) (λ k. record { session = sym does.1 k; peer = sym does.0 k })
      (ticked old.session now old.peer stands))
  acts step sent (SaysBye machine why bytes) old new follows was does stands =
      other_said match world i from there new bytes
      (subst (λ (b : Beside). Stands match world i b.session b.peer) (sym does.2) stands)
      (λ w. record {
        key = key_for old.peer machine (Leaves why);
        sender = old.peer.settings.me;
        what = Leaves why;
        text = does.0 ∙ text_is old.peer machine (Leaves why);
        fits = does.1;
        told = λ t e. absurd (no_play t e);
      })
    where
      no_play : (t : Turn) → Leaves why ≡ Plays t → ⊥
      no_play t e = cc
  acts step sent (Disconnects machine) old new follows was does stands =
      silent match world i from there new
      (subst (λ (b : Beside). Stands match world i b.session b.peer) (λ k. record { session = sym does.1 k; peer = sym does.0 k })
      (stands_left match world i from there old.session old.peer machine stands))
  acts step sent (NotesSettled digest) old new follows was does stands =
      silent match world i from there new
      (subst (λ (s : Seen). Stands match world i s new.peer) (sym does.2)
      (stands_as match world i from there old.session (meeting old.session old.peer) new.peer
      (ap (λ (p : Peered). p.member.mesh) does.1) (ap (λ (p : Peered). p.settings) does.1)
      (stands_met match world i from there old.session old.peer does.0 stands)))
  acts step sent (NotesStateAt frame digest) old new follows was does stands =
      silent match world i from there new
      (subst (λ (s : Seen). Stands match world i s new.peer) (sym does.1)
      (stands_as match world i from there old.session old.peer new.peer
      (ap (λ (p : Peered). p.member.mesh) does.0) (ap (λ (p : Peered). p.settings) does.0) stands))
  acts step sent (PutsMark player mark frame) old new follows was does stands =
      silent match world i from there new
      (subst (λ (s : Seen). Stands match world i s new.peer) (sym does.2)
      (stands_as match world i from there old.session (meeting old.session old.peer) new.peer
      (ap (λ (p : Peered). p.member.mesh) does.1.known) (ap (λ (p : Peered). p.settings) does.1.known)
      (stands_met match world i from there old.session old.peer does.0 stands)))
  acts step sent (VoidsMark player) old new follows was does stands =
      let same = like_as old.peer _ new.peer does.0 (either_like (is_numbered player) old.peer _ _ (like old.peer) (like old.peer)) in
      silent match world i from there new
      (subst (λ (s : Seen). Stands match world i s new.peer) (sym does.1)
      (stands_as match world i from there old.session old.peer new.peer same.0 same.1 stands))
  acts step sent (HearsToo machine other) old new follows was does stands =
      let same = like_as old.peer _ new.peer does.0 (either_like (is_lost old.peer machine) old.peer _ _ (like old.peer) (like old.peer)) in
      silent match world i from there new
      (subst (λ (s : Seen). Stands match world i s new.peer) (sym does.1)
      (stands_as match world i from there old.session old.peer new.peer same.0 same.1 stands))
  acts step sent TakesEvent old new follows was does stands =
      silent match world i from there new
      (subst (λ (s : Seen). Stands match world i s new.peer) (sym does.1)
      (stands_as match world i from there old.session old.peer new.peer
      (ap (λ (p : Peered). p.member.mesh) does.0) (ap (λ (p : Peered). p.settings) does.0) stands))

  -- ---- a network is opened

  first_is : (words : ℕ → List ℕ) → held_to words first_machine (λ p. 0) ≡ first_holder
  unfolding at_places
  first_is words = refl

  -- a machine that regards others as gone
  stands_without : (s : Seen) (gone : List ℕ) (peer after : Peered) → after.member.mesh ≡ without_all gone peer.member.mesh
      → after.settings ≡ peer.settings → Stands match world i s peer → Stands match world i s after
  stands_without s [] peer after mesh settings stands = stands_as match world i from there s peer after mesh settings stands
  stands_without s (m ∷ gone) peer after mesh settings stands =
      stands_without s gone
      (record peer { member = record peer.member { mesh = stepped (λ seat here. leave seat m here) peer.member.mesh } })
      after mesh settings (stands_left match world i from there s peer m stands)

  -- a machine that has taken its seat
  stands_first : (s : Seen) (settings : MatchSettings) (first : Peered)
      → IsJoinedAs s (seat_in settings) (beside s first) → IsTied s first.member.mesh → join_refusal s (seat_in settings) ≡ None
      → first.settings ≡ settings → seat_in settings ≡ seat_of match i → holder_at world i ≡ first_holder
      → Stands match world i s first
  stands_first s settings first joined tied accepted settings_are at fresh = record {
    seat = ap (λ (m : Seated). m.seat) joined.mesh ∙ at;
    me = ap (λ (x : MatchSettings). x.me) settings_are ∙ ap (λ (x : Seat). x.me) at;
    word = subst (λ (x : Seat). 1 ≤ x.words) at (seat_inputs seat fine.2).word;
    comes = subst (λ (h : Holder). Comes match world i h) (sym now)
        (gives_all match world i (λ p. words_of s (p + 1)) first_machine (inside_of match world i from there)
        (λ p. 0) (known s seat)
        (λ p l. omega arith)
        (λ p l. known_few s seat p (seat_inputs seat fine.2).word)
        (λ p l other. sym (none p l other))
        (subst (λ (h : Holder). Comes match world i h) (fresh ∙ sym (first_is (λ p. words_of s (p + 1))))
        (comes_already match world i)));
  }
    where
      seat : Seat
      seat = seat_in settings

      fine : (are_seated s seat ≡ true) × (are_fresh s ≡ true) × (is_seat seat ≡ true)
      fine = seated_fine s seat accepted

      isnt : (p : ℕ) → owner_of (seat_of match i) p ≢ i → (owner_of seat p == seat.me) ≡ false
      isnt p other = ap (λ (x : Seat). owner_of x p == x.me) at ∙ ne_eqb (owner_of (seat_of match i) p) i other

      local : (p : ℕ) → p < PLAYER_LIMIT → (owner_of seat p == seat.me) ≡ false → is_local_at s p ≡ false
      local p l other = (tied.players p l).own ∙ ap (λ (m : Seated). owner_of m.seat p == m.seat.me) joined.mesh ∙ other

      none : (p : ℕ) → p < PLAYER_LIMIT → owner_of (seat_of match i) p ≢ i → known s seat p ≡ 0
      none p l other =
          known_other s seat p (isnt p other) ∙ no_words s p l fine.1 (local p l (isnt p other))

      now : held_by s first.member.mesh ≡ held_to (λ p. words_of s (p + 1)) first_machine (known s seat)
      now = holds s first.member.mesh first_machine (known s seat) (ap (λ (m : Seated). m.machine) joined.mesh) tied.sized
          (λ k l. joined.counts k l)

  opens : (old new : PeerWorld) (o : Opens match old new i) → holder_at world i ≡ first_holder
      → Follows match world i (record { session = o.session; peer = o.peer }) []
  opens old new o fresh =
      let b = o.begins in
      let first : Peered = record o.peer { member = record o.peer.member { mesh = b.first } } in
      silent match world i from there (record { session = o.session; peer = o.peer })
      (stands_without o.session o.gone first o.peer b.mesh refl
      (stands_first o.session o.settings first b.joined b.tied b.accepted b.settings_are o.seat fresh))

-- ---- a world of peers

-- what there is of a machine
abbrev pub IsAt : Match → WordWorld → ℕ → Option Beside → Type 0
IsAt match world i None = i < match.machines → holder_at world i ≡ first_holder
IsAt match world i (Some b) = IsMirrored match world i b

-- the same as a world of the laws over words has
pub record Mirrors (match : Match) (peers : PeerWorld) : Type 0 where
  pub world : WordWorld
  pub from : IsFrom match world
  pub each : (i : ℕ) → IsAt match world i (peers.machines i)
  pub told : (place : ℕ) (bytes : List ℕ) → slice_get peers.sent place ≡ Some bytes → WasTold world bytes

-- and so has one that comes of another by these steps
pub record MirrorsOn (match : Match) (old : WordWorld) (peers : PeerWorld) : Type 0 where
  pub mirrors : Mirrors match peers
  pub comes : (steps : List WordStep) × (words_after_all match old steps ≡ mirrors.world)

same_at : (match : Match) (old new : WordWorld) (i : ℕ) (o : Option Beside) → holder_at new i ≡ holder_at old i
    → IsAt match old i o → IsAt match new i o
same_at match old new i None e at = λ l. e ∙ at l
same_at match old new i (Some b) e at = record {
  inside = at.inside;
  seat = at.seat;
  me = at.me;
  word = at.word;
  holds = at.holds ∙ sym e;
}

pub in_either : (xs ys : List (List ℕ)) (place : ℕ) (bytes : List ℕ) → slice_get (xs ++ ys) place ≡ Some bytes
    → ((k : ℕ) × (slice_get xs k ≡ Some bytes)) ⊎ ((k : ℕ) × (slice_get ys k ≡ Some bytes))
in_either [] ys place bytes e = inr (place, e)
in_either (x ∷ xs) ys zero bytes e = inl (0, e)
in_either (x ∷ xs) ys (suc place) bytes e = go (in_either xs ys place bytes e)
  where
    go : ((k : ℕ) × (slice_get xs k ≡ Some bytes)) ⊎ ((k : ℕ) × (slice_get ys k ≡ Some bytes))
        → ((k : ℕ) × (slice_get (x ∷ xs) k ≡ Some bytes)) ⊎ ((k : ℕ) × (slice_get ys k ≡ Some bytes))
    go (inl h) = inl (suc h.0, h.1)
    go (inr h) = inr h

module _ (match : Match) (games : ℕ → Step) where
  follow : (old new : PeerWorld) (m : Mirrors match old) (i : ℕ) (b : Beside) (said : List (List ℕ))
      → Follows match m.world i b said
      → new.machines i ≡ Some b → ((j : ℕ) → j ≢ i → new.machines j ≡ old.machines j) → new.sent ≡ said ++ old.sent
      → MirrorsOn match m.world new
  follow old new m i b said f here others sent = record {
    mirrors = record {
      world = f.new;
      from = f.from;
      each = λ j. each j (cases_eq j i);
      told = λ place bytes e.
          told bytes (in_either said old.sent place bytes (ap (λ (bs : List (List ℕ)). slice_get bs place) (sym sent) ∙ e));
    };
    comes = f.comes;
  }
    where
      each : (j : ℕ) → (j ≡ i) ⊎ (j ≡ i → ⊥) → IsAt match f.new j (new.machines j)
      each j (inl e) =
          subst (λ (k : ℕ). IsAt match f.new k (new.machines k)) (sym e)
          (subst (λ (o : Option Beside). IsAt match f.new i o) (sym here) f.here)
      each j (inr apart) =
          subst (λ (o : Option Beside). IsAt match f.new j o) (sym (others j apart))
          (same_at match m.world f.new j (old.machines j) (f.others j apart) (m.each j))

      told : (bytes : List ℕ) → ((k : ℕ) × (slice_get said k ≡ Some bytes)) ⊎ ((k : ℕ) × (slice_get old.sent k ≡ Some bytes))
          → WasTold f.new bytes
      told bytes (inl h) = f.told h.0 bytes h.1
      told bytes (inr h) = still_told m.world f.new bytes f.keeps (m.told h.0 bytes h.1)

  pub step_mirrors : (old new : PeerWorld) (m : Mirrors match old) → IsStep match games old new → MirrorsOn match m.world new
  step_mirrors old new m step = go step.step_is
    where
      i : ℕ
      i = step.machine

      go : Opens match old new i ⊎ Acts (games i) old new i → MirrorsOn match m.world new
      go (inl o) =
          let fresh = subst (λ (x : Option Beside). IsAt match m.world i x) o.fresh (m.each i) in
          follow old new m i (record { session = o.session; peer = o.peer }) []
          (opens match m.world i m.from step.inside old new o (fresh step.inside)) o.there step.others o.sent
      go (inr a) =
          let before = subst (λ (x : Option Beside). IsAt match m.world i x) a.was (m.each i) in
          follow old new m i a.after (sent_in a.deed)
          (acts match m.world i m.from step.inside (games i) old.sent a.deed a.before a.after a.follows m.told a.does
          (stands_of match m.world i m.from step.inside a.before before))
          a.is step.others a.sent

  pub steps_mirror : (old : PeerWorld) (worlds : List PeerWorld) (new : PeerWorld) (m : Mirrors match old)
      → AreSteps match games old worlds new → MirrorsOn match m.world new
  steps_mirror old [] new m steps =
      subst (MirrorsOn match m.world) (sym steps) (record { mirrors = m; comes = ([], refl) })
  steps_mirror old (next ∷ more) new m steps =
      let first = step_mirrors old next m steps.0 in
      let rest = steps_mirror next more new first.mirrors steps.1 in
      record {
        mirrors = rest.mirrors;
        comes = (
          first.comes.0 ++ rest.comes.0,
          after_both match m.world first.comes.0 rest.comes.0
              ∙ ap (λ (w : WordWorld). words_after_all match w rest.comes.0) first.comes.1 ∙ rest.comes.1,
        );
      }

  pub mirrors_nobody : Mirrors match nobody
  mirrors_nobody = record {
    world = first_words match;
    from = ([], refl);
    each = λ i l. get_or-replicate match.machines i first_holder no_holder l;
    told = λ place bytes e. absurd (none_some bytes e);
  }

  pub mirrors : (peers : PeerWorld) → IsPlayedTo match games peers → Mirrors match peers
  mirrors peers played = (steps_mirror nobody played.0 peers mirrors_nobody played.1).mirrors
