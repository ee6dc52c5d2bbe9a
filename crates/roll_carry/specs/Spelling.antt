-- What maps and parcels say, and their one spelling: numbers with the highest byte first.
use Rattle.std.specs.Prelude.{◌≡◌, ◌≤◌, ℕ, List, [], ◌∷◌, ◌++◌, ◌==◌, length, Option, None, Some, if◌then◌else◌, slice_index_or, unwrap_or}
use Rattle.std.specs.List.{flat_map, AllByRecursion}
use Rattle.std.specs.Int.{w16, to_be_bytes}
use Rattle.roll_contact.specs.Seals.{sealed}
use Rattle.roll_contact.specs.declared.key.Key.{Key}
use Rattle.roll_mesh.specs.declared.limits.TheConstants.{MACHINE_LIMIT}
use Rattle.roll_wire.specs.Spelling.{byte, envelope, mask, number, IsByte, IsEnvelope, IsNumber}
use Rattle.roll_wire.specs.declared.datagram.Envelope.{Envelope}
use Rattle.roll_wire.specs.declared.limits.TheConstants.{MAGIC}
use Rattle.roll_carry.specs.declared.datagram.Hearing.{Hearing}
use Rattle.roll_carry.specs.declared.datagram.Parcel.{Parcel}
use Rattle.roll_carry.specs.declared.limits.TheConstants.{AREA_LIMIT, CARRIED, MAKER_AT, MAP, TAIL_LEAST, TAIL_LIMIT}

-- a parcel with its datagram as a list, without the letters that each begins with
pub record ParcelValue : Type 0 where
  pub to : ℕ
  pub steps : ℕ
  pub tail : List ℕ

abbrev pub parcel_value : Parcel → ParcelValue
parcel_value p = record { to = p.to; steps = p.steps; tail = p.tail.now }

-- its whole datagram, and who made that
abbrev pub datagram_of : ParcelValue → List ℕ
datagram_of p = number MAGIC ++ p.tail

abbrev pub maker_of : ParcelValue → ℕ
maker_of p = slice_index_or p.tail MAKER_AT 0

pub data Content : Type 0 where
  Maps : List Hearing → Content
  Carries : List ParcelValue → Content

pub record Message : Type 0 where
  pub envelope : Envelope
  pub content : Content

abbrev pub hearing_text : Hearing → List ℕ
hearing_text h = byte (mask h.hears) ++ number h.number

-- a map goes to the end, machine 0 first
abbrev pub map_text : List Hearing → List ℕ
map_text map = flat_map hearing_text map

-- a number in two bytes
abbrev pub pair : ℕ → List ℕ
pair n = to_be_bytes w16 n

-- its label stands in the place of the letters
abbrev pub parcel_text : ParcelValue → List ℕ
parcel_text p = byte p.to ++ (byte p.steps ++ (pair (length p.tail) ++ p.tail))

-- parcels go to the end
abbrev pub area_text : List ParcelValue → List ℕ
area_text parcels = flat_map parcel_text parcels

-- what a datagram of a kind begins with
abbrev pub head : (kind : ℕ) → Envelope → List ℕ
head kind e = number MAGIC ++ (envelope e ++ byte kind)

abbrev pub kind : Content → ℕ
kind (Maps map) = MAP
kind (Carries parcels) = CARRIED

-- what follows its kind
abbrev pub fields : Content → List ℕ
fields (Maps map) = map_text map
fields (Carries parcels) = area_text parcels

-- the bytes of a datagram
abbrev pub spelling : Message → List ℕ
spelling m = head (kind m.content) m.envelope ++ fields m.content

abbrev pub IsHearing : Hearing → Type 0
IsHearing h = (length h.hears ≡ MACHINE_LIMIT) × IsNumber h.number

abbrev pub IsMap : List Hearing → Type 0
IsMap map = (length map ≤ MACHINE_LIMIT) × AllByRecursion IsHearing map

-- a parcel that has a spelling: a datagram has no fewer bytes than each begins with
pub record IsParcel (p : ParcelValue) : Type 0 where
  pub to : IsByte p.to
  pub steps : IsByte p.steps
  pub least : TAIL_LEAST ≤ length p.tail
  pub most : length p.tail ≤ TAIL_LIMIT

-- parcels that one datagram has
abbrev pub AreParcels : List ParcelValue → Type 0
AreParcels parcels =
    (length (area_text parcels) ≤ AREA_LIMIT) × AllByRecursion IsParcel parcels

abbrev pub IsContent : Content → Type 0
IsContent (Maps map) = IsMap map
IsContent (Carries parcels) = AreParcels parcels

-- what has a spelling
pub record Fits (m : Message) : Type 0 where
  pub envelope : IsEnvelope m.envelope
  pub content : IsContent m.content

-- what a sender of a match says
abbrev pub message : Envelope → Content → Message
message e what = record { envelope = e; content = what }

-- the text of a datagram that says this, whoever sent it
pub record Says (bytes : List ℕ) (what : Content) : Type 0 where
  pub envelope : Envelope
  pub fits : Fits (message envelope what)
  pub text : bytes ≡ spelling (message envelope what)

-- no two datagrams have one text
abbrev pub OneText : Type 0
OneText = (m n : Message) → Fits m → Fits n → spelling m ≡ spelling n → m ≡ n

-- what a sender says to who has the key
abbrev pub message_by : Key → (sender : ℕ) → Content → Message
message_by key sender what = message (record { match_number = key.number; sender = sender }) what

-- the bytes by which it says so
unfoldable pub said_by : Key → (sender : ℕ) → Content → List ℕ
said_by key sender what = sealed key (spelling (message_by key sender what))

-- a datagram that alone goes straight to a machine
abbrev pub lone : List ParcelValue → Option (List ℕ)
lone [] = None
lone (p ∷ []) = if p.steps == 0 then Some (datagram_of p) else None
lone (p ∷ q ∷ more) = None

-- the bytes by which parcels go to who has the key: such a datagram as it is, all else in a datagram of the sender's
abbrev pub given_by : Key → (sender : ℕ) → List ParcelValue → List ℕ
given_by key sender parcels = unwrap_or (lone parcels) (said_by key sender (Carries parcels))
