-- Calls of a match are calls of the network of one epoch, one after another.
use Rattle.std.specs.Prelude.{◌≡◌, ℕ, List, [], ◌∷◌, Option, Some, None, Result, Ok, Err}
use Rattle.roll_carry.specs.Carrying.{Carrying}
use Rattle.roll_carry.specs.Spelling.{datagram_of, ParcelValue}
use Rattle.roll_relay.specs.Heard.{beside, PollsHeld}
use Rattle.roll_relay.specs.Relayed.{HearsBy, SendsBy}
use Rattle.roll_relay.specs.Told.{as_told}
use Rattle.roll_inputs.specs.declared.remote_word.RemoteWord.{RemoteWord}
use Rattle.roll_peer.specs.PeerWorlds.{sent_in, Deed, Does, IsGenuine}
use Rattle.roll_peer.specs.Peered.{Peered}
use Rattle.roll_peer.specs.Receiving.{meeting, ticking}
use Rattle.roll_peer.specs.Requests.{Beside}
use Rattle.roll_peer.specs.declared.received.Ignored.{Ignored}
use Rattle.roll_peer.specs.declared.refusal.OtherSession.{OtherSession}
use Rattle.roll_peer.specs.declared.refusal.PeerRefusal.{PeerRefusal}
use Rattle.roll_relay.specs.Relaying.{Hears, HearsParcels, Relayed}
use Rattle.roll_relay.specs.declared.heard.Heard.{Heard}
use Rattle.roll_relay.specs.declared.heard.Heard.TheVariants.{Straight, Map, Carried}
use Rattle.roll_chain.specs.Epochs.{judged_in, shared_peer}
use Rattle.roll_chain.specs.declared.epochs.Epochs.{Epochs}
use Rattle.roll_session.specs.Seen.{Seen, Step}

-- ---- what comes

-- so many deeds of a machine, that send nothing, where so much was sent before
abbrev pub AreDeeds : Step → (sent : List (List ℕ)) → (old : Beside) → List Deed → (new : Beside) → Type 0
AreDeeds step sent old [] new = new ≡ old
AreDeeds step sent old (deed ∷ more) new =
    (next : Beside) × Does step sent deed old next × AreDeeds step sent next more new

-- if bytes are a play for the network as it stands, a machine of the match made them
abbrev pub IsGenuineTo : (sent : List (List ℕ)) → (now : ℕ) → Beside → List ℕ → Type 0
IsGenuineTo sent now it bytes = IsGenuine sent (meeting it.session (ticking now it.peer)) bytes

-- and so of each parcel, as it is its turn
abbrev pub AreGenuine : (sent : List (List ℕ)) → (step : Step) → (now sender : ℕ) → (old : Relayed) → (parcels : List ParcelValue) → (new : Relayed)
    → HearsParcels step now sender old parcels new → Type 0
AreGenuine sent step now sender old [] new hears = Unit {0}
AreGenuine sent step now sender old (parcel ∷ more) new hears =
    IsGenuineTo sent now old.beside (datagram_of parcel) × AreGenuine sent step now sender hears.0 more new hears.2

-- and so of what came
abbrev pub IsGenuineIn : (sent : List (List ℕ)) → (step : Step) → (now : ℕ) → (old new : Relayed) → (bytes : List ℕ) → (heard : Heard)
    → Hears step now old new bytes heard → Type 0
IsGenuineIn sent step now old new bytes (Straight received) hears = IsGenuineTo sent now old.beside bytes
IsGenuineIn sent step now old new bytes (Map sender) hears = Unit {0}
IsGenuineIn sent step now old new bytes (Carried sender) hears = AreGenuine sent step now sender old hears.1.0 new hears.1.2

abbrev pub IsGenuinelyHeard : (sent : List (List ℕ)) → (step : Step) → (now : ℕ) → (old new : Relayed) → (bytes : List ℕ)
    → (said : Result Heard Ignored) → HearsBy step now old new bytes said → Type 0
IsGenuinelyHeard sent step now old new bytes (Ok heard) hears = IsGenuineIn sent step now old new bytes heard hears.heard
IsGenuinelyHeard sent step now old new bytes (Err why) hears = IsGenuineTo sent now old.beside bytes

-- what a match makes of bytes that came: calls of its network in this epoch, whether they came straight or were carried, and whatever waits
abbrev pub WhatIsHeardIsCalled : Type 0
WhatIsHeardIsCalled =
    (step : Step) (sent : List (List ℕ)) (now : ℕ) (old new : Relayed) (bytes : List ℕ) (said : Result Heard Ignored)
    → (hears : HearsBy step now old new bytes said) → IsGenuinelyHeard sent step now old new bytes said hears
    → (deeds : List Deed) × AreDeeds step sent old.beside deeds new.beside

-- ---- a turn begins

-- what the start of a turn makes of a match, beside an epoch before of whatever kind: calls of its network in this epoch
abbrev pub WhatBeginsIsCalled : (P : Type 0) → Type 0
WhatBeginsIsCalled P =
    (step : Step) (sent : List (List ℕ)) (now : ℕ) (epochs : Epochs P) (peer next : Peered) (s after : Seen) (words held : List RemoteWord)
    (said : Result Unit PeerRefusal)
    → PollsHeld (beside s words (judged_in epochs (shared_peer epochs peer))) (beside after held next) now said
    → (room : ℕ) × (deeds : List Deed)
    × AreDeeds step sent (record { session = as_told s words 0; peer = peer }) deeds (record { session = as_told after held room; peer = next })

-- ---- what goes

-- what goes straight to a machine is what a deed sends; what is carried, or nothing, goes in another way
abbrev pub IsSentBy : Deed → Result (Option (List ℕ)) OtherSession → Type 0
IsSentBy deed (Ok (Some bytes)) = sent_in deed ≡ bytes ∷ []
IsSentBy deed (Ok None) = Unit {0}
IsSentBy deed (Err other) = sent_in deed ≡ []

-- what a match makes of a datagram for a machine: a call of its network in this epoch, beside the session as if it had heard what waits
abbrev pub WhatIsSentIsCalled : Type 0
WhatIsSentIsCalled =
    (step : Step) (sent : List (List ℕ)) (s : Seen) (now machine : ℕ) (old new : Peered) (here there : Carrying)
    (said : Result (Option (List ℕ)) OtherSession) → SendsBy s now machine old new here there said
    → (deed : Deed) × Does step sent deed (record { session = s; peer = old }) (record { session = s; peer = new }) × IsSentBy deed said
