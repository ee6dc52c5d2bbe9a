-- The opening of a session stays, whatever is called.
use Rattle.std.proofs.Common.{◌≡◌, ◌∙◌, ◌⊎◌, ℕ, zero, suc, ◌+◌, List, [], ◌∷◌, refl, ap, sym, subst, Bool, true, false, inl, inr, Option, Some, Result, Ok, Err}
use Rattle.std.proofs.lemmas.Bool.{cases_Bool, cases_eq}
use Rattle.roll_frame.specs.Games.{Value}
use Rattle.roll_frame.specs.declared.refusal.Refusal.{Refusal}
use Rattle.roll_member.specs.Hearing.{HearsPacket}
use Rattle.roll_member.specs.Joined.{Joined}
use Rattle.roll_member.specs.Leaving.{disconnected}
use Rattle.roll_member.specs.Taking.{is_first, shares, up_to, words_heard, Hearing, TakesAll}
use Rattle.roll_member.specs.declared.member.Taken.{Taken}
use Rattle.roll_mesh.proofs.Changes.{none_some, some_same}
use Rattle.roll_mesh.specs.Machines.{hear}
use Rattle.roll_mesh.specs.Worlds.{Match}
use Rattle.roll_mesh.specs.declared.limits.TheConstants.{PLAYER_LIMIT}
use Rattle.roll_mesh.specs.declared.packet.Packet.{Packet}
use Rattle.roll_session.specs.Changes.{after_disconnect}
use Rattle.roll_session.specs.Seen.{FollowsLog, Seen, Step}
use Rattle.roll_wire.specs.Spelling.{Content, Greets, Leaves, Plays}
use Rattle.roll_peer.specs.Openings.{WhatOpenedStays}
use Rattle.roll_peer.specs.PeerWorlds.{Acts, AreSteps, Calls, CallsHolding, Deed, Disconnects, Does, HearsToo, IsStep, NotesSettled, NotesStateAt, Opens, PeerWorld, Polls, PutsMark, Receives, SaysBye, Sends, SendsNone, TakesEvent, TakesTurn, VoidsMark}
use Rattle.roll_peer.specs.Peered.{beside, Peered}
use Rattle.roll_peer.specs.Receiving.{end_for, meeting, packet_of, sender_of, ticking, Hears}
use Rattle.roll_peer.specs.Requests.{Beside, HearsBytes}
use Rattle.roll_peer.specs.Turning.{IsPolled}
use Rattle.roll_peer.specs.declared.received.Ignored.{Ignored}
use Rattle.roll_peer.specs.declared.received.Received.{Received}
use Rattle.roll_peer.specs.declared.received.Received.TheVariants.{Hello as HelloHeard, Play as PlayHeard, Bye as ByeHeard}
use Rattle.roll_peer.specs.declared.refusal.PeerRefusal.{PeerRefusal}
use Rattle.roll_peer.specs.declared.refusal.PeerRefusal.TheVariants.{OtherSession, Session}
use Rattle.roll_peer.proofs.Later.{called_on, goes_on}

-- ---- a call

taken_so : (step : Step) (h : Hearing) (old : Seen) (places : ℕ) (new : Seen) (led : ℕ) (why : Option Refusal)
    → TakesAll step h old places new led why → new.opening ≡ old.opening
taken_so step h old zero new led why takes = ap (λ (s : Seen). s.opening) takes.0
taken_so step h old (suc p) new led why takes =
    go (cases_Bool (is_first h.input p)) ∙ taken_so step h old p takes.0 takes.3 takes.1 takes.4
  where
    go : (is_first h.input p ≡ true) ⊎ (is_first h.input p ≡ false) → new.opening ≡ takes.0.opening
    go (inl e) = ap (λ (s : Seen). s.opening) (takes.5.lead e).taken.taken.played.seen
    go (inr e) = ap (λ (s : Seen). s.opening) (takes.5.follow e).0.played.seen

packet_so : (step : Step) (old new : Joined) (packet : Packet) (words : List ℕ) (end : ℕ) (taken : Taken)
    → HearsPacket step old new packet words end taken → new.session.opening ≡ old.session.opening
packet_so step old new packet words end taken hears = taken_so step
    (record {
      input = old.mesh.seat.words;
      offers = packet.offers;
      words = shares packet.offers (words_heard old.mesh.seat.words packet.offers words);
      has = old.mesh.machine.has;
      most = up_to old.mesh.seat old.mesh.machine end (hear old.mesh.seat packet old.mesh.machine).has;
    })
    old.session PLAYER_LIMIT new.session hears.led taken.refusal hears.session

left_so : (players : List Bool) (p : ℕ) (s : Seen) → (disconnected players p s).opening ≡ s.opening
left_so [] p s = refl
left_so (true ∷ more) p s = left_so more (p + 1) (after_disconnect s (p + 1))
left_so (false ∷ more) p s = left_so more (p + 1) s

polled_so : (before after : Seen) (old new : Peered) (said : Result Unit PeerRefusal) → IsPolled before after old new said
    → after.opening ≡ before.opening
polled_so before after old new (Ok done) polled =
    ap (λ (s : Seen). s.opening) polled.1.parts.leaves.session.session ∙ left_so polled.1.parts.who.players 0 before
polled_so before after old new (Err OtherSession) polled = ap (λ (s : Seen). s.opening) polled.2
polled_so before after old new (Err (Session why)) polled =
    ap (λ (s : Seen). s.opening) polled.1.parts.leaves.session.session ∙ left_so polled.1.parts.who.players 0 before

hears_so : (step : Step) (before after : Seen) (old new : Peered) (sender : ℕ) (what : Content) (received : Received)
    → Hears step before after old new sender what received → after.opening ≡ before.opening
hears_so step before after old new sender (Plays t) (PlayHeard from taken) hears =
    packet_so step (beside before old) (beside after new) (packet_of sender t) t.words (end_for old t) taken hears.1.member
hears_so step before after old new sender (Greets hello) (HelloHeard from) hears = ap (λ (s : Seen). s.opening) hears.1
hears_so step before after old new sender (Leaves why) (ByeHeard from) hears = ap (λ (s : Seen). s.opening) hears.1
hears_so step before after old new sender what received hears = absurd hears

heard_so : (step : Step) (old new : Beside) (now : ℕ) (bytes : List ℕ) (said : Result Received Ignored)
    → HearsBytes step old new now bytes said → new.session.opening ≡ old.session.opening
heard_so step old new now bytes (Ok received) heard =
    hears_so step old.session new.session (meeting old.session (ticking now old.peer)) new.peer (sender_of bytes) heard.1.what received heard.1.hears
heard_so step old new now bytes (Err why) heard = ap (λ (s : Seen). s.opening) heard.1

does_so : (step : Step) (sent : List (List ℕ)) (deed : Deed) (old new : Beside) → FollowsLog step old.session
    → Does step sent deed old new → new.session.opening ≡ old.session.opening
does_so step sent Calls old new follows does = (called_on step old.session new.session follows does.0).opening
does_so step sent CallsHolding old new follows does = does.0.opening
does_so step sent (Receives bytes now said) old new follows does = heard_so step old new now bytes said does.0
does_so step sent (Polls now said) old new follows does = polled_so old.session new.session (ticking now old.peer) new.peer said does
does_so step sent (TakesTurn now said) old new follows does =
    (goes_on does.poll new.peer.running does.polled new.session said does.plays).opening
    ∙ polled_so old.session does.polled (ticking now old.peer) new.peer does.poll does.polls
does_so step sent (Sends machine now bytes) old new follows does = ap (λ (s : Seen). s.opening) does.3
does_so step sent (SendsNone now) old new follows does = ap (λ (s : Seen). s.opening) does.1
does_so step sent (SaysBye machine why bytes) old new follows does = ap (λ (b : Beside). b.session.opening) does.2
does_so step sent (Disconnects machine) old new follows does = ap (λ (s : Seen). s.opening) does.1
does_so step sent (NotesSettled digest) old new follows does = ap (λ (s : Seen). s.opening) does.2
does_so step sent (NotesStateAt frame digest) old new follows does = ap (λ (s : Seen). s.opening) does.1
does_so step sent (PutsMark player mark frame) old new follows does = ap (λ (s : Seen). s.opening) does.2
does_so step sent (VoidsMark player) old new follows does = ap (λ (s : Seen). s.opening) does.1
does_so step sent (HearsToo machine other) old new follows does = ap (λ (s : Seen). s.opening) does.1
does_so step sent TakesEvent old new follows does = ap (λ (s : Seen). s.opening) does.1

-- ---- all calls

-- a machine's session has this opening
record Has (world : PeerWorld) (machine : ℕ) (opening : Value) : Type 0 where
  beside : Beside
  is : world.machines machine ≡ Some beside
  opening_is : beside.session.opening ≡ opening

module _ (match : Match) (games : ℕ → Step) (opening : Value) where
  -- an open network isn't opened again, and what it calls keeps the opening
  own_so : (old new : PeerWorld) (machine : ℕ) → Opens match old new machine ⊎ Acts (games machine) old new machine
      → Has old machine opening → Has new machine opening
  own_so old new machine (inl opens) has = absurd (none_some has.beside (sym opens.fresh ∙ has.is))
  own_so old new machine (inr acts) has = record {
    beside = acts.after;
    is = acts.is;
    opening_is = does_so (games machine) old.sent acts.deed acts.before acts.after acts.follows acts.does
        ∙ ap (λ (b : Beside). b.session.opening) (some_same acts.before has.beside (sym acts.was ∙ has.is)) ∙ has.opening_is;
  }

  step_so : (old new : PeerWorld) (machine : ℕ) → IsStep match games old new → Has old machine opening → Has new machine opening
  step_so old new machine step has = go (cases_eq machine step.machine)
    where
      go : (machine ≡ step.machine) ⊎ (machine ≡ step.machine → ⊥) → Has new machine opening
      go (inl here) =
          subst (λ (m : ℕ). Has new m opening) (sym here)
          (own_so old new step.machine step.step_is (subst (λ (m : ℕ). Has old m opening) here has))
      go (inr other) = record {
        beside = has.beside;
        is = step.others machine other ∙ has.is;
        opening_is = has.opening_is;
      }

  steps_so : (old : PeerWorld) (worlds : List PeerWorld) (new : PeerWorld) (machine : ℕ) → AreSteps match games old worlds new
      → Has old machine opening → Has new machine opening
  steps_so old [] new machine steps has = subst (λ (w : PeerWorld). Has w machine opening) (sym steps) has
  steps_so old (next ∷ more) new machine steps has =
      steps_so next more new machine steps.1 (step_so old next machine steps.0 has)

pub what_opened_stays : WhatOpenedStays
what_opened_stays match games world machine beside opening began is =
    let now = steps_so match games opening began.first began.worlds world machine began.steps
    (record {
      beside = record { session = began.opens.session; peer = began.opens.peer };
      is = began.opens.there;
      opening_is = began.opening_is;
    }) in
    ap (λ (b : Beside). b.session.opening) (some_same beside now.beside (sym is ∙ now.is)) ∙ now.opening_is
