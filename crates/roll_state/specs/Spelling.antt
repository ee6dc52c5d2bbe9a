-- What a state's datagrams say, and their one spelling: numbers with the highest byte first.
use Rattle.std.specs.Prelude.{◌≡◌, ◌≤◌, ℕ, List, ◌++◌, length, take}
use Rattle.std.specs.List.{flat_map, AllByRecursion}
use Rattle.std.specs.Int.{w64, from_be_bytes}
use Rattle.sha2.specs.Sha256.{sha256}
use Rattle.roll_wire.specs.Spelling.{byte, envelope, long, number, IsEnvelope, IsLong, IsNumber}
use Rattle.roll_wire.specs.declared.datagram.Envelope.{Envelope}
use Rattle.roll_wire.specs.declared.limits.TheConstants.{MAGIC}
use Rattle.roll_state.specs.declared.datagram.Ask.{Ask}
use Rattle.roll_state.specs.declared.datagram.Piece.{Piece}
use Rattle.roll_state.specs.declared.datagram.StateBody.{StateBody}
use Rattle.roll_state.specs.declared.datagram.StateBody.TheVariants.{Piece as PieceBody, Ask as AskBody}
use Rattle.roll_state.specs.declared.datagram.StateDatagram.{StateDatagram}
use Rattle.roll_state.specs.declared.limits.TheConstants.{ASK, ASK_LIMIT, PIECE, PIECE_LIMIT}
use Rattle.roll_state.specs.declared.name.StateName.{StateName}

-- a piece, and an ask, with their lists as lists
pub record Part : Type 0 where
  pub state : StateName
  pub place : ℕ
  pub bytes : List ℕ

pub record Wish : Type 0 where
  pub state : StateName
  pub places : List ℕ

pub data Content : Type 0 where
  Gives : Part → Content
  Wants : Wish → Content

pub record Message : Type 0 where
  pub envelope : Envelope
  pub content : Content

abbrev pub part : Piece → Part
part p = record { state = p.state; place = p.place; bytes = p.bytes.items }

abbrev pub wish : Ask → Wish
wish a = record { state = a.state; places = a.places.items }

abbrev pub content : StateBody → Content
content (PieceBody p) = Gives (part p)
content (AskBody a) = Wants (wish a)

-- what a datagram says
abbrev pub message : StateDatagram → Message
message d = record { envelope = d.envelope; content = content d.body }

abbrev pub name : StateName → List ℕ
name s = long s.which ++ (number s.frame ++ (number s.length ++ s.digest))

-- a digest of 64 bits that has a state in it, beside what another has: the first 8 bytes of SHA-256
unfoldable pub digest_with : StateName → (digest : ℕ) → ℕ
digest_with s digest = from_be_bytes w64 (take 8 (sha256 (long digest ++ name s)))

-- the kind, and what follows it: a piece's bytes, and the places asked for, go to the end
abbrev pub body : Content → List ℕ
body (Gives p) = byte PIECE ++ (name p.state ++ (number p.place ++ p.bytes))
body (Wants w) = byte ASK ++ (name w.state ++ flat_map number w.places)

-- the bytes of a datagram
abbrev pub spelling : Message → List ℕ
spelling m = number MAGIC ++ (envelope m.envelope ++ body m.content)

abbrev pub IsName : StateName → Type 0
IsName s = IsLong s.which × (IsNumber s.frame × (IsNumber s.length × (length s.digest ≡ 32)))

abbrev pub IsContent : Content → Type 0
IsContent (Gives p) = IsName p.state × (IsNumber p.place × (length p.bytes ≤ PIECE_LIMIT))
IsContent (Wants w) =
    IsName w.state × ((length w.places ≤ ASK_LIMIT) × AllByRecursion IsNumber w.places)

-- what has a spelling
pub record Fits (m : Message) : Type 0 where
  pub envelope : IsEnvelope m.envelope
  pub content : IsContent m.content

-- no two datagrams have one text
abbrev pub OneText : Type 0
OneText = (m n : Message) → Fits m → Fits n → spelling m ≡ spelling n → m ≡ n
