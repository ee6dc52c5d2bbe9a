-- What a relay makes of what comes and goes.
use Rattle.std.specs.Prelude.{◌≡◌, ◌⊎◌, ℕ, List, [], ◌∷◌, replicate, take, Bool, true, false, not, ◌&&◌, ◌||◌, ◌==◌, nat_lt, Option, Some, None, Result, Ok, Err, if◌then◌else◌}
use Rattle.roll_carry.specs.Carrying.{after_carried, after_handed, after_sent, after_taken, after_told, first_owed, first_waited_for, goes_at_once, opened_carrying, Carrying}
use Rattle.roll_carry.specs.Mapping.{after_map, heard_straight}
use Rattle.roll_carry.specs.Reading.{map_of, parcels_of, tail_of}
use Rattle.roll_carry.specs.Spelling.{area_text, datagram_of, given_by, maker_of, said_by, Carries, IsParcel, Maps, ParcelValue, Says}
use Rattle.roll_carry.specs.Waiting.{lane_of}
use Rattle.roll_carry.specs.declared.datagram.Hearing.{Hearing}
use Rattle.roll_carry.specs.declared.limits.TheConstants.{CARRIED, MAP}
use Rattle.roll_contact.specs.Seals.{unsealed}
use Rattle.roll_contact.specs.declared.key.Key.{Key}
use Rattle.roll_member.specs.Beside.{IsOf}
use Rattle.roll_mesh.specs.Machines.{at_places}
use Rattle.std.specs.List.{slice_get, AllByRecursion}
use Rattle.roll_mesh.specs.declared.limits.TheConstants.{MACHINE_LIMIT}
use Rattle.roll_peer.specs.Peered.{contact_at, Peered}
use Rattle.roll_peer.specs.Receiving.{byte_at, meeting, moment_of, sender_of, ticking}
use Rattle.roll_peer.specs.Requests.{Beside, HearsBytes}
use Rattle.roll_peer.specs.Sending.{after_send, can_carry, carried_key, is_lost, text_for, with_draws, IsSent}
use Rattle.roll_peer.specs.declared.received.Ignored.{Ignored}
use Rattle.roll_peer.specs.declared.received.Ignored.TheVariants.{NotSealed, NoDatagram}
use Rattle.roll_peer.specs.declared.received.Received.{Received}
use Rattle.roll_peer.specs.declared.settings.MatchSettings.{MatchSettings}
use Rattle.roll_relay.specs.declared.relay.TheConstants.{KIND_AT}
use Rattle.roll_relay.specs.declared.heard.Heard.{Heard}
use Rattle.roll_relay.specs.declared.heard.Heard.TheVariants.{Straight, Map, Carried}
use Rattle.roll_session.specs.Seen.{Seen, Step}
use Rattle.roll_wire.specs.Spelling.{Leaves as LeavesMatch}
use Rattle.roll_wire.specs.declared.fault.WireFault.{WireFault}

-- a session with the network of its match, and what is carried
pub record Relayed : Type 0 where
  pub beside : Beside
  pub carrying : Carrying

-- no machine
abbrev pub nobody : List Bool
nobody = replicate MACHINE_LIMIT false

-- the machines with which this one hands on datagrams, and all others
abbrev pub ready_of : Peered → List Bool
ready_of peer = at_places (can_carry peer) nobody

abbrev pub is_shut : Peered → ℕ → Bool
is_shut peer m = not (can_carry peer m)

abbrev pub shut_of : Peered → List Bool
shut_of peer = at_places (is_shut peer) nobody

-- ---- who carries

-- how many machines of a match carry for one another: all, or none if it isn't played so, or has two
abbrev pub carriers_in : MatchSettings → ℕ
carriers_in settings = if settings.carries && nat_lt 2 settings.machines then settings.machines else 0

-- what a machine carries whose network has just been opened
abbrev pub opened_beside : Peered → Carrying
opened_beside peer = opened_carrying peer.settings.me (carriers_in peer.settings)

-- whether machines carry for this one
abbrev pub has_carriers : Carrying → Bool
has_carriers here = nat_lt 0 here.map.machines

-- ---- what comes

abbrev pub kind_of : List ℕ → ℕ
kind_of bytes = byte_at bytes KIND_AT

-- the kind as which bytes are taken that came: where nobody carries they all come straight, as a hello does
abbrev pub taken_kind : Carrying → List ℕ → ℕ
taken_kind here bytes = if has_carriers here then kind_of bytes else 0

-- whether it is a map, or has what is carried
abbrev pub is_of_lines : (kind : ℕ) → Bool
is_of_lines kind = (kind == MAP) || (kind == CARRIED)

-- whether a play of a machine was heard that is newer than all before: whatever else comes may be old, and kept by somebody
abbrev pub has_played : (before after : Peered) → (machine : ℕ) → Bool
has_played before after machine = nat_lt (contact_at before machine).after (contact_at after machine).after

-- then the machine was heard straight, at the moment that the peer's clock shows, if the play has come from it
abbrev pub hearing : (before after : Peered) → (machine : ℕ) → Carrying → Carrying
hearing before after machine here =
    if has_played before after machine
    then record here { map = heard_straight machine (moment_of after) here.map } else here

-- what bytes held before they were sealed, or why they aren't heard
abbrev pub opened_text : Option (List ℕ) → Result (List ℕ) Ignored
opened_text None = Err NotSealed
opened_text (Some text) = Ok text

-- what a machine that carries sealed as these bytes
abbrev pub text_by : Option Key → List ℕ → Result (List ℕ) Ignored
text_by None bytes = Err NotSealed
text_by (Some key) bytes = opened_text (unsealed key bytes)

abbrev pub text_in : Peered → List ℕ → Result (List ℕ) Ignored
text_in peer bytes = text_by (carried_key peer (sender_of bytes)) bytes

-- what reading gave, or why it gave nothing
abbrev pub seen : {X : Type 0} → Result X WireFault → Result X Ignored
seen (Ok x) = Ok x
seen (Err fault) = Err (NoDatagram fault)

abbrev pub read_by : {X : Type 0} → (List ℕ → Result X WireFault) → Result (List ℕ) Ignored → Result X Ignored
read_by read (Err why) = Err why
read_by read (Ok text) = seen (read text)

-- the map, and the parcels, that bytes hold
abbrev pub map_in : Peered → List ℕ → Result (List Hearing) Ignored
map_in peer bytes = read_by map_of (text_in peer bytes)

abbrev pub parcels_in : Peered → List ℕ → Result (List ParcelValue) Ignored
parcels_in peer bytes = read_by parcels_of (text_in peer bytes)

-- what a machine that carries sealed as these bytes are these parcels
abbrev pub HoldsParcels : Peered → List ℕ → List ParcelValue → Type 0
HoldsParcels peer bytes parcels =
    (text : List ℕ) × (text_in peer bytes ≡ Ok text) × Says text (Carries parcels)

-- whether the maker of a parcel and who it is for are both in the match, and not gone here
abbrev pub are_here : Peered → ParcelValue → Bool
are_here peer parcel = not (is_lost peer (maker_of parcel)) && not (is_lost peer parcel.to)

-- a parcel that is for another machine is handed on, unless either end is gone
abbrev pub handing : Peered → ParcelValue → Carrying → Carrying
handing peer parcel here =
    if are_here peer parcel then after_handed here (shut_of peer) parcel else here

-- what is inside is heard by the call that hears what comes straight; but a map, or what is carried, goes straight alone: it is dropped
abbrev pub HearsInside : Step → (now : ℕ) → (is_of_lines : Bool) → (old new : Beside) → List ℕ → Type 0
HearsInside step now true old new bytes = new ≡ old
HearsInside step now false old new bytes = (said : Result Received Ignored) × HearsBytes step old new now bytes said

-- of what a machine gave, this one's own parcel is heard here, and any other handed on: a play of that machine has come straight
abbrev pub HearsParcel : Step → (now sender : ℕ) → (old new : Relayed) → ParcelValue → Type 0
HearsParcel step now sender old new parcel =
    ((parcel.to ≡ old.beside.peer.settings.me)
    × HearsInside step now (is_of_lines (kind_of (datagram_of parcel))) old.beside new.beside (datagram_of parcel)
    × (new.carrying ≡ hearing old.beside.peer new.beside.peer sender old.carrying))
    ⊎ ((parcel.to ≡ old.beside.peer.settings.me → ⊥) × (new.beside ≡ old.beside)
    × (new.carrying ≡ handing old.beside.peer parcel old.carrying))

-- one parcel after another
abbrev pub HearsParcels : Step → (now sender : ℕ) → Relayed → List ParcelValue → Relayed → Type 0
HearsParcels step now sender old [] new = new ≡ old
HearsParcels step now sender old (parcel ∷ more) new =
    (next : Relayed) × HearsParcel step now sender old next parcel × HearsParcels step now sender next more new

-- bytes came, and this is said of them
abbrev pub Hears : Step → (now : ℕ) → (old new : Relayed) → List ℕ → Heard → Type 0
Hears step now old new bytes (Straight received) =
    HearsBytes step old.beside new.beside now bytes (Ok received)
    × (new.carrying ≡ hearing old.beside.peer new.beside.peer (sender_of bytes) old.carrying)
Hears step now old new bytes (Map sender) =
    (sender ≡ sender_of bytes) × (new.beside ≡ old.beside)
    × ((told : List Hearing) × (map_in old.beside.peer bytes ≡ Ok told)
    × (new.carrying ≡ record old.carrying { map = after_map told old.carrying.map }))
Hears step now old new bytes (Carried sender) =
    (sender ≡ sender_of bytes)
    × ((parcels : List ParcelValue) × HoldsParcels old.beside.peer bytes parcels
    × HearsParcels step now sender old parcels new)

-- what a kind is said to be, by who hears it
abbrev pub is_said : (kind : ℕ) → Heard → Bool
is_said kind (Straight received) = not (kind == MAP) && not (kind == CARRIED)
is_said kind (Map sender) = kind == MAP
is_said kind (Carried sender) = kind == CARRIED

-- why bytes aren't heard that are a map, are parcels, or are neither
abbrev pub IsIgnoredAs : Step → (now : ℕ) → (is_map is_carried : Bool) → (old new : Beside) → List ℕ → Ignored → Type 0
IsIgnoredAs step now true is_carried old new bytes why = (map_in old.peer bytes ≡ Err why) × (new ≡ old)
IsIgnoredAs step now false true old new bytes why = (parcels_in old.peer bytes ≡ Err why) × (new ≡ old)
IsIgnoredAs step now false false old new bytes why = HearsBytes step old new now bytes (Err why)

-- why bytes aren't heard that are taken as of such a kind
abbrev pub IsUnheard : Step → (now kind : ℕ) → (old new : Beside) → List ℕ → Ignored → Type 0
IsUnheard step now kind old new bytes why = IsIgnoredAs step now (kind == MAP) (kind == CARRIED) old new bytes why

-- ---- what goes

-- what is carried of a datagram, if it can be, and somebody carries
unfoldable pub carried_of : Carrying → List ℕ → Option (List ℕ)
carried_of here bytes = if has_carriers here then tail_of bytes else None

-- a datagram is for a machine, of which this is carried, if it can be
abbrev pub sending : Peered → (to : ℕ) → (tail : Option (List ℕ)) → Carrying → Carrying
sending peer to None here = here
sending peer to (Some tail) here = after_sent here (shut_of peer) to tail

-- whether it goes out at once: what can't be carried does
abbrev pub is_at_once : Peered → (to : ℕ) → (tail : Option (List ℕ)) → Carrying → Bool
is_at_once peer to None here = true
is_at_once peer to (Some tail) here = goes_at_once here (shut_of peer) to tail

-- what goes out at once of it
abbrev pub at_once : Peered → (to : ℕ) → List ℕ → Carrying → Option (List ℕ)
at_once peer to bytes here = if is_at_once peer to (carried_of here bytes) here then Some bytes else None

-- a bye is for a machine
abbrev pub leaving : Peered → (to : ℕ) → (tail : Option (List ℕ)) → Carrying → Carrying
leaving peer to None here = here
leaving peer to (Some tail) here = after_carried here (shut_of peer) to tail

-- what this machine tells another of who hears whom
abbrev pub told_map : Carrying → List Hearing
told_map here = take here.map.machines here.map.lines

-- a datagram of the peer is for a machine: it is what the peer sends, it is carried or waits, and is given if it goes out at once
abbrev pub IsMade : Seen → (now to : ℕ) → (before after : Peered) → (old new : Carrying) → Option (List ℕ) → Type 0
IsMade s now to before after old new sent =
    (bytes : List ℕ) × IsSent s (meeting s (ticking now before)) to bytes
    × (new ≡ sending after to (carried_of old bytes) old) × (sent ≡ at_once after to bytes old)

abbrev pub Sends : Seen → (now to : ℕ) → (before after : Peered) → (old new : Carrying) → Option (List ℕ) → Type 0
Sends s now to before after old new sent =
    IsOf s before.member × (after ≡ after_send (meeting s (ticking now before)) to)
    × (((is_lost before to ≡ true) × (new ≡ old) × (sent ≡ None))
    ⊎ ((is_lost before to ≡ false) × IsMade s now to before after old new sent))

-- a bye goes out at once, and is carried too if the line isn't whole
abbrev pub SaysBye : Peered → (to why : ℕ) → (old new : Carrying) → Option (List ℕ) → Type 0
SaysBye peer to why old new None = new ≡ old
SaysBye peer to why old new (Some bytes) =
    (bytes ≡ text_for peer to (LeavesMatch why)) × (new ≡ leaving peer to (carried_of old bytes) old)

-- the map goes to a machine
abbrev pub TellsMap : Peered → (old new : Carrying) → (to : ℕ) → Option (ℕ × List ℕ) → Type 0
TellsMap peer old new to said =
    (new ≡ after_told old (Some to))
    × (said ≡ Some (to, said_by (with_draws peer to) peer.settings.me (Maps (told_map old))))

-- parcels that wait for a machine go to it: a datagram that goes straight, and is alone, as it is
abbrev pub GivesParcels : Peered → (old new : Carrying) → (to : ℕ) → Option (ℕ × List ℕ) → Type 0
GivesParcels peer old new to said =
    (new ≡ after_taken old (Some to))
    × ((parcels : List ParcelValue) × AllByRecursion IsParcel parcels
    × (slice_get (lane_of old.lanes to) 0 ≡ Some (area_text parcels))
    × (said ≡ Some (to, given_by (with_draws peer to) peer.settings.me parcels)))

-- the map goes to a machine, if there is one
abbrev pub IsNextMap : Peered → (old new : Carrying) → (owed : Option ℕ) → Option (ℕ × List ℕ) → Type 0
IsNextMap peer old new (Some to) said = TellsMap peer old new to said
IsNextMap peer old new None said = (new ≡ old) × (said ≡ None)

-- parcels go to a machine, if there is one
abbrev pub IsNextParcels : Peered → (old new : Carrying) → (waited : Option ℕ) → Option (ℕ × List ℕ) → Type 0
IsNextParcels peer old new (Some to) said = GivesParcels peer old new to said
IsNextParcels peer old new None said = (new ≡ old) × (said ≡ None)

-- what goes out next: the map, to each machine to which it is still to go in this turn, and then what waits for others
abbrev pub IsNextOf : Peered → (old new : Carrying) → (owed waited : Option ℕ) → Option (ℕ × List ℕ) → Type 0
IsNextOf peer old new (Some to) waited said = TellsMap peer old new to said
IsNextOf peer old new None waited said = IsNextParcels peer old new waited said

abbrev pub IsNext : Peered → (old new : Carrying) → Option (ℕ × List ℕ) → Type 0
IsNext peer old new said =
    IsNextOf peer old new (first_owed old (ready_of peer)) (first_waited_for old (ready_of peer)) said
