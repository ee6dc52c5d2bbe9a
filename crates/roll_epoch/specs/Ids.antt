-- The numbers of epochs, and the keys that come of them.
use Rattle.std.specs.Prelude.{ℕ, ◌==◌, List, ◌++◌, take, min, Option, Some, None, if◌then◌else◌}
use Rattle.std.specs.List.{flat_map}
use Rattle.std.specs.Int.{w32, w64, from_be_bytes, to_be_bytes}
use Rattle.sha2.specs.Sha256.{sha256}
use Rattle.roll_wire.specs.Spelling.{mark}
use Rattle.roll_epoch.specs.declared.marks.Ending.{Ending}

-- the number of a digest's first 8 bytes
unfoldable pub first_number : List ℕ → ℕ
first_number digest = from_be_bytes w64 (take 8 digest)

-- at how many words a player left, or the end if it didn't leave, or later
abbrev pub leaving_at : (end : ℕ) → Option ℕ → ℕ
leaving_at end None = end
leaving_at end (Some at) = min at end

abbrev pub leavings : (end : ℕ) → List (Option ℕ) → List ℕ
leavings end left = flat_map (λ at. to_be_bytes w32 (leaving_at end at)) left

-- the number of the epoch after one of this number
abbrev pub next_id : ℕ → Ending → List (Option ℕ) → ℕ
next_id id e left =
    first_number
    (sha256 (to_be_bytes w64 id ++ (to_be_bytes w32 e.frame ++ (mark e.mark ++ leavings e.frame left))))

-- a number that comes of two
abbrev pub hash_of : (one other : ℕ) → ℕ
hash_of one other = first_number (sha256 (to_be_bytes w64 one ++ to_be_bytes w64 other))

-- the number by which a pair seals what it sends in an epoch: in the first one the pair's own
abbrev pub key_of : (number id : ℕ) → ℕ
key_of number id = if id == 0 then number else hash_of number id
