-- What can be wrong with a claim, and which flaw is named.
use Rattle.std.specs.Prelude.{◌≡◌, ℕ, ◌<◌, ◌⊎◌, take, true, false, Some, slice_get}
use Rattle.std.specs.List.{list_any}
use Rattle.roll_frame.specs.declared.path.Path.{Path}
use Rattle.roll_frame.specs.declared.claim.Claim.{Claim}
use Rattle.roll_frame.specs.declared.claim.Differ.{Differ}
use Rattle.roll_frame.specs.Claims.{IsDeeper, IsOnPath, IsSame, IsShaped, is_start, is_for}
use Rattle.roll_cert.specs.declared.checking.Flaw.{Flaw}
use Rattle.roll_cert.specs.declared.checking.Flaw.TheVariants.{Shape, FromNotKept, Range, Equal, Twice, Missing}

-- the entry names this kept path, and a place on it
abbrev pub IsInRange : Claim → Differ → Path → Type 0
IsInRange claim entry path = (slice_get claim.kept entry.state ≡ Some path) × IsOnPath claim entry path

-- entry j of the claim
abbrev pub HasEntry : Claim → ℕ → (Differ → Type 0) → Type 0
HasEntry claim j P = (entry : Differ) × (slice_get claim.differs j ≡ Some entry) × P entry

-- what each flaw is: no shape; no kept path that can be the start; entry j names no place of a deeper path;
-- or names one where path and time agree; or a state that an earlier entry names; and no entry names the
-- deeper path at place i
abbrev pub HasFlaw : Claim → Flaw → Type 0
HasFlaw claim Shape = IsShaped claim → ⊥
HasFlaw claim FromNotKept = list_any (is_start claim) claim.kept ≡ false
HasFlaw claim (Range j) = HasEntry claim j (λ entry. (path : Path) → IsInRange claim entry path → ⊥)
HasFlaw claim (Equal j) = HasEntry claim j (λ entry. (path : Path) × IsInRange claim entry path × IsSame claim entry path)
HasFlaw claim (Twice j) = HasEntry claim j (λ entry. list_any (is_for entry.state) (take j claim.differs) ≡ true)
HasFlaw claim (Missing i) = (path : Path) × (slice_get claim.kept i ≡ Some path) × IsDeeper claim path × (list_any (is_for i) claim.differs ≡ false)

-- the order of the flaws: the shape and the start first, then entry by entry, and then the missing entries
abbrev pub stage : Flaw → ℕ
stage Shape = 0
stage FromNotKept = 1
stage (Range j) = 2
stage (Equal j) = 2
stage (Twice j) = 2
stage (Missing i) = 3

abbrev pub place : Flaw → ℕ
place Shape = 0
place FromNotKept = 0
place (Range j) = j
place (Equal j) = j
place (Twice j) = j
place (Missing i) = i

-- the order of one entry's flaws
abbrev pub turn : Flaw → ℕ
turn Shape = 0
turn FromNotKept = 0
turn (Range j) = 0
turn (Equal j) = 1
turn (Twice j) = 2
turn (Missing i) = 0

abbrev pub ComesBefore : Flaw → Flaw → Type 0
ComesBefore flaw other =
    (stage flaw < stage other)
    ⊎ ((stage flaw ≡ stage other) × ((place flaw < place other) ⊎ ((place flaw ≡ place other) × (turn flaw < turn other))))

-- the flaw that is named: the claim has it, and none that comes before
pub record IsFirst (claim : Claim) (flaw : Flaw) : Type 0 where
  pub has : HasFlaw claim flaw
  pub first : (other : Flaw) → ComesBefore other flaw → HasFlaw claim other → ⊥
