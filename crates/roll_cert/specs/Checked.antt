-- How far a check has come.
use Rattle.std.specs.Prelude.{◌≡◌, ℕ, ◌<◌, List, Bool, take, true, false, Some, slice_get}
use Rattle.std.specs.List.{list_any}
use Rattle.roll_frame.specs.declared.limits.TheConstants.{TREE_LIMIT}
use Rattle.roll_frame.specs.declared.path.Path.{Path}
use Rattle.roll_frame.specs.declared.claim.Claim.{Claim}
use Rattle.roll_frame.specs.declared.claim.Differ.{Differ}
use Rattle.roll_frame.specs.Claims.{IsDeeper, is_for, IsSame}
use Rattle.roll_cert.specs.declared.checking.Flaw.{Flaw}
use Rattle.roll_cert.specs.Flaws.{IsInRange, HasFlaw, stage, place, turn}

-- the flags tell which of the first states the entries name
pub record IsNoted (flags : List Bool) (entries : List Differ) : Type 0 where
  pub each : (state : ℕ) → state < TREE_LIMIT → slice_get flags state ≡ Some (list_any (is_for state) entries)

-- the entry at place j has no flaw
pub record IsGood (claim : Claim) (j : ℕ) (entry : Differ) : Type 0 where
  pub path : Path
  pub range : IsInRange claim entry path
  pub differs : IsSame claim entry path → ⊥
  pub once : list_any (is_for entry.state) (take j claim.differs) ≡ false

-- the first n entries have no flaw
abbrev pub AreGood : Claim → ℕ → Type 0
AreGood claim n = (j : ℕ) (entry : Differ) → j < n → slice_get claim.differs j ≡ Some entry → IsGood claim j entry

-- the deeper ones of the first n kept paths have an entry
abbrev pub AreNamed : Claim → ℕ → Type 0
AreNamed claim n = (i : ℕ) (path : Path) → i < n → slice_get claim.kept i ≡ Some path → IsDeeper claim path → list_any (is_for i) claim.differs ≡ true

-- the first flaw of entry j
pub record IsFlawOf (claim : Claim) (j : ℕ) (flaw : Flaw) : Type 0 where
  pub has : HasFlaw claim flaw
  pub of_entry : stage flaw ≡ 2
  pub at : place flaw ≡ j
  pub first : (other : Flaw) → stage other ≡ 2 → place other ≡ j → turn other < turn flaw → HasFlaw claim other → ⊥
