-- What one machine made takes up no more than its share of what waits for another, and leaves room for what others make.
use Rattle.std.specs.Prelude.{◌≡◌, ◌≢◌, ◌≤◌, ◌<◌, ℕ, ◌+◌, ◌-◌, ◌*◌, [], All, drop, length, max, sum_by, true}
use Rattle.std.specs.List.{AllByRecursion}
use Rattle.roll_carry.specs.Reading.{parcels_in, IsArea}
use Rattle.roll_carry.specs.Spelling.{maker_of, IsParcel, ParcelValue}
use Rattle.roll_carry.specs.Waiting.{has_place, pushed, share_of, size_of, waiting_of, Lane}
use Rattle.roll_carry.specs.declared.limits.TheConstants.{AREA_LIMIT, WAITING_LIMIT}

-- of each maker there waits no more than its share, or one parcel, which is no longer than a datagram has room for
pub record IsShared (machines : ℕ) (lane : Lane) : Type 0 where
  pub areas : All IsArea lane
  pub shares : (maker : ℕ) → waiting_of lane maker ≤ max (share_of machines) AREA_LIMIT

-- so it is at first, and stays so, whatever is to wait and whatever goes out
pub record SharesStay (machines : ℕ) : Type 0 where
  pub none : IsShared machines []
  pub more : (lane : Lane) (p : ParcelValue) → IsParcel p → IsShared machines lane → IsShared machines (pushed machines lane p)
  pub less : (lane : Lane) → IsShared machines lane → IsShared machines (drop 1 lane)

abbrev pub SharesAreKept : Type 0
SharesAreKept = (machines : ℕ) → SharesStay machines

-- all the bytes that wait
abbrev pub all_waiting : Lane → ℕ
all_waiting lane = sum_by length lane

-- a parcel of whom nothing waits is taken if it would have room in each datagram, were what waits spread over them alike
abbrev pub QuietAreTaken : Type 0
QuietAreTaken =
    (machines : ℕ) (lane : Lane) (p : ParcelValue) → waiting_of lane (maker_of p) ≡ 0
    → all_waiting lane + WAITING_LIMIT * size_of p ≤ WAITING_LIMIT * AREA_LIMIT → has_place machines lane p ≡ true

-- in a match of so many machines, of which none makes what it gets itself, each maker but one has at most its share waiting
pub record HasQuiet (machines hop maker : ℕ) (lane : Lane) : Type 0 where
  pub areas : All IsArea lane
  pub makers : All (λ area. AllByRecursion (λ p. maker_of p < machines) (parcels_in area)) lane
  pub shares : (m : ℕ) → waiting_of lane m ≤ share_of machines
  pub hop_in : hop < machines
  pub gets : waiting_of lane hop ≡ 0
  pub maker_in : maker < machines
  pub quiet : waiting_of lane maker ≡ 0
  pub apart : hop ≢ maker

-- so whatever the others give, its parcel is taken, if it has room beside their shares
abbrev pub NobodyIsCrowdedOut : Type 0
NobodyIsCrowdedOut =
    (machines hop : ℕ) (lane : Lane) (p : ParcelValue) → HasQuiet machines hop (maker_of p) lane
    → (machines - 2) * share_of machines + WAITING_LIMIT * size_of p ≤ WAITING_LIMIT * AREA_LIMIT
    → has_place machines lane p ≡ true
