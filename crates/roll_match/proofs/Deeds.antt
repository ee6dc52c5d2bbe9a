-- What is heard, and what is sent, are calls of the network.
use Rattle.std.proofs.Common.{◌≡◌, ◌⊎◌, ℕ, List, [], ◌∷◌, Bool, true, false, ap, subst, refl, sym, inl, inr, Option, Some, None}
use Rattle.std.specs.Prelude.{◌==◌, if◌then◌else◌, Result, Ok, Err}
use Rattle.roll_carry.specs.Carrying.{Carrying}
use Rattle.roll_carry.specs.Spelling.{datagram_of, ParcelValue}
use Rattle.roll_carry.specs.declared.limits.TheConstants.{CARRIED, MAP}
use Rattle.roll_relay.specs.Relayed.{SendsBy}
use Rattle.roll_member.specs.Beside.{IsOf}
use Rattle.roll_mesh.proofs.Changes.{none_some, some_same}
use Rattle.roll_peer.specs.PeerWorlds.{Deed, Does, Receives, Sends, SendsNone}
use Rattle.roll_peer.specs.Peered.{Peered}
use Rattle.roll_peer.specs.Receiving.{meeting, ticking}
use Rattle.roll_peer.specs.Requests.{Beside, HearsBytes}
use Rattle.roll_peer.specs.Sending.{after_send, is_lost}
use Rattle.roll_peer.specs.declared.received.Ignored.{Ignored}
use Rattle.roll_peer.specs.declared.received.Received.{Received}
use Rattle.roll_peer.specs.declared.refusal.OtherSession.{OtherSession}
use Rattle.roll_relay.specs.Relaying.{carried_of, is_at_once, is_of_lines, kind_of, taken_kind, Hears, HearsInside, HearsParcel, HearsParcels, IsIgnoredAs, IsMade, Relayed}
use Rattle.roll_relay.specs.declared.heard.Heard.{Heard}
use Rattle.roll_relay.specs.declared.heard.Heard.TheVariants.{Straight, Map, Carried}
use Rattle.roll_session.specs.Seen.{Seen, Step}
use Rattle.roll_match.specs.Deeds.{AreDeeds, AreGenuine, IsGenuineIn, IsGenuineTo, IsSentBy, WhatIsHeardIsCalled, WhatIsSentIsCalled}

module _ (step : Step) (sent : List (List ℕ)) (now : ℕ) where
  abbrev pub Called : Beside → Beside → Type 0
  Called old new = (deeds : List Deed) × AreDeeds step sent old deeds new

  -- nothing was called
  pub none : (old new : Beside) → new ≡ old → Called old new
  none old new same = ([], same)

  -- a datagram was received
  one : (old new : Beside) (bytes : List ℕ) (said : Result Received Ignored) → HearsBytes step old new now bytes said
      → IsGenuineTo sent now old bytes → Called old new
  one old new bytes said hears genuine = (Receives bytes now said ∷ [], (new, (hears, genuine), refl))

  -- one call after others
  pub both : (old mid new : Beside) (deeds : List Deed) → AreDeeds step sent old deeds mid → Called mid new → Called old new
  both old mid new [] same more = subst (λ (b : Beside). Called b new) same more
  both old mid new (deed ∷ deeds) first more =
      let rest = both first.0 mid new deeds first.2 more in
      (deed ∷ rest.0, (first.0, first.1, rest.1))

  -- what is inside a parcel for this machine
  inside : (lines : Bool) (old new : Beside) (bytes : List ℕ) → HearsInside step now lines old new bytes → IsGenuineTo sent now old bytes
      → Called old new
  inside true old new bytes same genuine = none old new same
  inside false old new bytes hears genuine = one old new bytes hears.0 hears.1 genuine

  parcel_is : (sender : ℕ) (old new : Relayed) (parcel : ParcelValue) → HearsParcel step now sender old new parcel
      → IsGenuineTo sent now old.beside (datagram_of parcel) → Called old.beside new.beside
  parcel_is sender old new parcel (inl own) genuine =
      inside (is_of_lines (kind_of (datagram_of parcel))) old.beside new.beside (datagram_of parcel) own.1 genuine
  parcel_is sender old new parcel (inr others) genuine = none old.beside new.beside others.1

  parcels_are : (sender : ℕ) (old : Relayed) (parcels : List ParcelValue) (new : Relayed) (hears : HearsParcels step now sender old parcels new)
      → AreGenuine sent step now sender old parcels new hears → Called old.beside new.beside
  parcels_are sender old [] new hears genuine = none old.beside new.beside (ap (λ (r : Relayed). r.beside) hears)
  parcels_are sender old (parcel ∷ more) new hears genuine =
      let first = parcel_is sender old hears.0 parcel hears.1 genuine.0 in
      both old.beside hears.0.beside new.beside first.0 first.1 (parcels_are sender hears.0 more new hears.2 genuine.1)

  heard_is : (old new : Relayed) (bytes : List ℕ) (heard : Heard) (hears : Hears step now old new bytes heard)
      → IsGenuineIn sent step now old new bytes heard hears → Called old.beside new.beside
  heard_is old new bytes (Straight received) hears genuine = one old.beside new.beside bytes (Ok received) hears.0 genuine
  heard_is old new bytes (Map sender) hears genuine = none old.beside new.beside hears.1
  heard_is old new bytes (Carried sender) hears genuine = parcels_are sender old hears.1.0 new hears.1.2 genuine

  unheard_is : (map carried : Bool) (old new : Beside) (bytes : List ℕ) (why : Ignored)
      → IsIgnoredAs step now map carried old new bytes why → IsGenuineTo sent now old bytes → Called old new
  unheard_is true carried old new bytes why ignored genuine = none old new ignored.1
  unheard_is false true old new bytes why ignored genuine = none old new ignored.1
  unheard_is false false old new bytes why ignored genuine = one old new bytes (Err why) ignored genuine

pub what_is_heard_is_called : WhatIsHeardIsCalled
what_is_heard_is_called step sent now old new bytes (Ok heard) hears genuine = heard_is step sent now old new bytes heard hears.heard genuine
what_is_heard_is_called step sent now old new bytes (Err why) hears genuine =
    unheard_is step sent now (taken_kind old.carrying bytes == MAP) (taken_kind old.carrying bytes == CARRIED) old.beside new.beside bytes why hears.ignored genuine

-- ---- what goes

module _ (step : Step) (sent : List (List ℕ)) (s : Seen) (now machine : ℕ) (old new : Peered) where
  abbrev Done : Deed → Type 0
  Done deed = Does step sent deed (record { session = s; peer = old }) (record { session = s; peer = new })

  -- what goes at once is the datagram, if anything does
  at_once_is : (at_once : Bool) (bytes gone : List ℕ) → Some gone ≡ (if at_once then Some bytes else None) → gone ≡ bytes
  at_once_is true bytes gone e = some_same gone bytes e
  at_once_is false bytes gone e = absurd (none_some gone (sym e))

  made_is : (here there : Carrying) (said : Option (List ℕ)) → IsOf s old.member → new ≡ after_send (meeting s (ticking now old)) machine
      → IsMade s now machine old new here there said → (deed : Deed) × Done deed × IsSentBy deed (Ok said)
  made_is here there None own after made = (Sends machine now (Some made.0), (own, made.1, after, refl), tt)
  made_is here there (Some gone) own after made = (
    Sends machine now (Some made.0),
    (own, made.1, after, refl),
    (λ k. sym (at_once_is (is_at_once new machine (carried_of here made.0) here) made.0 gone made.3) k ∷ []),
  )

  none_is : (said : Option (List ℕ)) → IsOf s old.member → new ≡ after_send (meeting s (ticking now old)) machine → said ≡ None
      → (deed : Deed) × Done deed × IsSentBy deed (Ok said)
  none_is None own after e = (Sends machine now None, (own, tt, after, refl), tt)
  none_is (Some gone) own after e = absurd (none_some gone (sym e))

  sent_is : (here there : Carrying) (said : Result (Option (List ℕ)) OtherSession) → SendsBy s now machine old new here there said
      → (deed : Deed) × Done deed × IsSentBy deed said
  sent_is here there (Err other) sends = (SendsNone now, (sends.ticked, refl), refl)
  sent_is here there (Ok said) sends = go sends.sent.2
    where
      go : ((is_lost old machine ≡ true) × (there ≡ here) × (said ≡ None))
          ⊎ ((is_lost old machine ≡ false) × IsMade s now machine old new here there said)
          → (deed : Deed) × Done deed × IsSentBy deed (Ok said)
      go (inl lost) = none_is said sends.sent.0 sends.sent.1 lost.2
      go (inr made) = made_is here there said sends.sent.0 sends.sent.1 made.1

pub what_is_sent_is_called : WhatIsSentIsCalled
what_is_sent_is_called step sent s now machine old new here there said sends = sent_is step sent s now machine old new here there said sends
