-- Parcels that wait to be sent, by the machine that gets them next: for each the datagrams that will have them, the oldest first, and of
-- each the bytes of its parcels.
use Rattle.std.specs.Prelude.{ℕ, ◌+◌, ◌-◌, ◌*◌, ◌/◌, ◌==◌, sum_by, List, [], ◌∷◌, ◌++◌, length, drop, find, Bool, is_some, nat_le, nat_lt, ◌&&◌, ◌||◌, if◌then◌else◌, Option, None, Some, slice_index_or, slice_set}
use Rattle.std.specs.List.{range_with_len}
use Rattle.roll_carry.specs.Spelling.{maker_of, parcel_text, ParcelValue}
use Rattle.roll_carry.specs.Reading.{parcels_in}
use Rattle.roll_carry.specs.declared.limits.TheConstants.{AREA_LIMIT, LABEL, WAITING_LIMIT}

-- those of one machine
abbrev pub Lane : Type 0
Lane = List (List ℕ)

abbrev pub lane_of : List Lane → ℕ → Lane
lane_of lanes hop = slice_index_or lanes hop []

-- what a parcel takes
abbrev pub size_of : ParcelValue → ℕ
size_of parcel = LABEL + length parcel.tail

-- one datagram of a lane
abbrev pub area_of : Lane → ℕ → List ℕ
area_of lane place = slice_index_or lane place []

-- whether it has room for a parcel
abbrev pub has_room : Lane → ParcelValue → ℕ → Bool
has_room lane parcel place =
    nat_lt place (length lane)
    && nat_le (length (area_of lane place) + size_of parcel) AREA_LIMIT

-- the first that has
abbrev pub place_for : Lane → ParcelValue → Option ℕ
place_for lane parcel = find (has_room lane parcel) (range_with_len 0 WAITING_LIMIT)

-- ---- what is one maker's

-- how many bytes its parcels have, of some
abbrev pub made_by : (maker : ℕ) → List ParcelValue → ℕ
made_by maker parcels = sum_by (λ p. if maker_of p == maker then size_of p else 0) parcels

-- and of those that wait
abbrev pub waiting_of : Lane → (maker : ℕ) → ℕ
waiting_of lane maker = sum_by (λ area. made_by maker (parcels_in area)) lane

-- each machine of a match but the one that gets them has as large a share of all the bytes that may wait
abbrev pub share_of : (machines : ℕ) → ℕ
share_of machines = WAITING_LIMIT * AREA_LIMIT / (machines - 1)

-- whether a parcel keeps within the share of its maker, or none of that one waits
unfoldable pub is_fair : (machines : ℕ) → Lane → ParcelValue → Bool
is_fair machines lane parcel =
    (waiting_of lane (maker_of parcel) == 0)
    || nat_le (waiting_of lane (maker_of parcel) + size_of parcel) (share_of machines)

-- ---- what waits

-- whether a datagram has room for a parcel, or there are fewer than so many
abbrev pub fits_in : Lane → ParcelValue → Bool
fits_in lane parcel = is_some (place_for lane parcel) || nat_lt (length lane) WAITING_LIMIT

-- whether it may wait
abbrev pub has_place : (machines : ℕ) → Lane → ParcelValue → Bool
has_place machines lane parcel = is_fair machines lane parcel && fits_in lane parcel

-- it goes into that datagram, or else into one of its own
abbrev pub put_at : Lane → ParcelValue → Option ℕ → Lane
put_at lane parcel (Some place) = slice_set lane place (area_of lane place ++ parcel_text parcel)
put_at lane parcel None = lane ++ parcel_text parcel ∷ []

-- or is dropped, if it may not wait
abbrev pub pushed : (machines : ℕ) → Lane → ParcelValue → Lane
pushed machines lane parcel =
    if has_place machines lane parcel then put_at lane parcel (place_for lane parcel) else lane

-- a parcel waits for a machine of so many, if there are lanes
abbrev pub waiting_with : (machines : ℕ) → List Lane → (hop : ℕ) → ParcelValue → List Lane
waiting_with machines lanes hop parcel = slice_set lanes hop (pushed machines (lane_of lanes hop) parcel)

-- the oldest datagram for a machine goes out
abbrev pub without_first : List Lane → (hop : ℕ) → List Lane
without_first lanes hop = slice_set lanes hop (drop 1 (lane_of lanes hop))
