-- What stands on the network in the place of the number.
use Rattle.std.specs.Prelude.{◌≡◌, ◌≤◌, ℕ, List, ◌++◌, length, take, drop, Bool, ◌&&◌, nat_le, if◌then◌else◌, Option, Some, None}
use Rattle.std.specs.Int.{w64, to_be_bytes}
use Rattle.std.specs.Str.{bytes_eq}
use Rattle.sha2.specs.Sha256.{sha256}
use Rattle.roll_wire.specs.declared.limits.TheConstants.{DATAGRAM_LIMIT}
use Rattle.roll_wire.specs.Spelling.{spelling, Content, Message}
use Rattle.roll_contact.specs.Keys.{padded}
use Rattle.roll_contact.specs.declared.key.Key.{Key}
use Rattle.roll_contact.specs.declared.seal.TheConstants.{INNER, OUTER}

-- the 8 bytes in that place
abbrev pub field : List ℕ → List ℕ
field text = take 8 (drop 4 text)

-- a datagram with these 8 bytes there
abbrev pub with_field : List ℕ → List ℕ → List ℕ
with_field bytes text = take 4 text ++ (bytes ++ drop 12 text)

-- with a number there
abbrev pub named : ℕ → List ℕ → List ℕ
named number text = with_field (to_be_bytes w64 number) text

-- the digest of a text by a key: HMAC (RFC 2104) with SHA-256
abbrev pub hmac : Key → List ℕ → List ℕ
hmac key text = sha256 (padded OUTER key ++ sha256 (padded INNER key ++ text))

-- its first 8 bytes
abbrev pub tag : Key → List ℕ → List ℕ
tag key text = take 8 (hmac key text)

-- what is sent for a datagram: its tag stands in the place of its number
abbrev pub sealed : Key → List ℕ → List ℕ
sealed key text = with_field (tag key text) text

-- what a sender says to who has the key, as a datagram with the key's number
abbrev pub message_by : Key → ℕ → Content → Message
message_by key sender what = record {
  envelope = record { match_number = key.number; sender = sender };
  content = what;
}

-- the bytes by which it says so
unfoldable pub said_by : Key → ℕ → Content → List ℕ
said_by key sender what = sealed key (spelling (message_by key sender what))

-- a datagram with this number
abbrev pub HasNumber : ℕ → List ℕ → Type 0
HasNumber number text = field text ≡ to_be_bytes w64 number

-- what a datagram with the key's number is sent as
pub record IsSealed (key : Key) (bytes : List ℕ) : Type 0 where
  pub least : 12 ≤ length bytes
  pub most : length bytes ≤ DATAGRAM_LIMIT
  pub same : sealed key (named key.number bytes) ≡ bytes

abbrev pub is_sealed : Key → List ℕ → Bool
is_sealed key bytes =
    nat_le 12 (length bytes)
    && (nat_le (length bytes) DATAGRAM_LIMIT && bytes_eq (sealed key (named key.number bytes)) bytes)

-- the datagram that was sealed by this key as these bytes, if there is one
abbrev pub unsealed : Key → List ℕ → Option (List ℕ)
unsealed key bytes = if is_sealed key bytes then Some (named key.number bytes) else None
