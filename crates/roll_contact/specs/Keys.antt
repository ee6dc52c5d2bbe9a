-- The keys of datagrams, as HMAC (RFC 2104) takes them.
use Rattle.std.specs.Prelude.{ℕ, ◌-◌, List, ◌++◌, length, map, replicate, bit_xor}
use Rattle.std.specs.Int.{w64, to_be_bytes}
use Rattle.roll_contact.specs.declared.key.Key.{Key}
use Rattle.roll_contact.specs.declared.key.TheConstants.{BLOCK}

-- the key of hellos
abbrev pub greeting_key : ℕ → Key
greeting_key number = record { number = number; from = 0; to = 0 }

abbrev pub key_bytes : Key → List ℕ
key_bytes key = to_be_bytes w64 key.number ++ (to_be_bytes w64 key.from ++ to_be_bytes w64 key.to)

-- a key, filled up with zeros to a block
abbrev pub block_of : Key → List ℕ
block_of key = key_bytes key ++ replicate (BLOCK - length (key_bytes key)) 0

-- each byte of it changed by the same bits
abbrev pub padded : ℕ → Key → List ℕ
padded bits key = map (λ byte. bit_xor byte bits) (block_of key)
