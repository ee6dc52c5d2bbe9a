-- The lines of a claim.
use Rattle.std.proofs.Common.{◌≡◌, ℕ, ◌<◌, ◌≤◌, ◌^◌, ◌==◌, ◌++◌, Bool, true, false, List, [], ◌∷◌, refl, arith, codes, length, if◌then◌else◌}
use Rattle.std.specs.Prelude.{nat_le}
use Rattle.std.specs.List.{AllByRecursion, list_any}
use Rattle.roll_frame.specs.declared.limits.TheConstants.{FRAME_LIMIT, PATH_LIMIT, PLAYER_LIMIT, TREE_LIMIT}
use Rattle.roll_frame.specs.declared.claim.Claim.{Claim}
use Rattle.roll_text.specs.Lines.{Lacks}
use Rattle.roll_cert.specs.Texts.{IsEntry, IsPathOf, IsRowOf, IsSized, claim_lines, entry_line, path_line, row_line, section, version_of}
use Rattle.roll_cert.proofs.Spelled.{entry-lacks, path-lacks, row-lacks}
use Rattle.roll_cert.proofs.Values.{all-lack}
use Rattle.roll_cert.proofs.Wrong.{named-lacks}

all-append : (xs ys : List (List ℕ)) → AllByRecursion (Lacks 10) xs → AllByRecursion (Lacks 10) ys → AllByRecursion (Lacks 10) (xs ++ ys)
all-append [] ys h k = k
all-append (x ∷ xs) ys h k = (h.0, all-append xs ys h.1 k)

section-lacks : {A : Type 0} (name : List ℕ) (most : ℕ) (Fits : A → Type 0) (spelling : A → List ℕ) → ((a : A) → Fits a → Lacks 10 (spelling a)) → list_any (λ b. b == 10) name ≡ false → most < 2 ^ 32
    → (values : List A) → AllByRecursion Fits values → length values ≤ most → AllByRecursion (Lacks 10) (section name spelling values)
section-lacks name most Fits spelling lacking clean small values fit few =
    (named-lacks name 0 most (length values) clean small (omega arith, few), all-lack 10 Fits spelling lacking values fit)

pub version_is : (players : ℕ) → (1 ≤ version_of players) × (version_of players ≤ 2)
version_is players = go (nat_le players 4)
  where
    go : (b : Bool) → (1 ≤ (if b then 1 else 2)) × ((if b then 1 else 2) ≤ 2)
    go true = (omega arith, omega arith)
    go false = (omega arith, omega arith)

-- no line has a line's end within
pub lines-lack : (claim : Claim) → IsSized claim → AllByRecursion (Lacks 10) (claim_lines claim)
lines-lack claim fits =
    let time = section-lacks (codes "time ") PATH_LIMIT (IsRowOf claim.players) row_line (row-lacks 10 claim.players (omega arith)) refl (omega arith) claim.time fits.time fits.short in
    let kept = section-lacks (codes "kept ") TREE_LIMIT (IsPathOf claim.players claim.base) path_line (path-lacks claim.players claim.base) refl (omega arith) claim.kept fits.kept fits.few_kept in
    let differs = section-lacks (codes "differs ") TREE_LIMIT IsEntry entry_line entry-lacks refl (omega arith) claim.differs fits.differs fits.few_entries in (
      named-lacks (codes "rollcert ") 1 2 (version_of claim.players) refl (omega arith) (version_is claim.players),
      (
        named-lacks (codes "players ") 1 PLAYER_LIMIT claim.players refl (omega arith) (fits.some, fits.few),
        (
          named-lacks (codes "base ") 0 FRAME_LIMIT claim.base refl (omega arith) (omega arith, fits.base),
          (
            named-lacks (codes "from ") 0 4294967295 claim.from refl (omega arith) (omega arith, omega (arith, fits.from)),
            all-append (section (codes "time ") row_line claim.time) (section (codes "kept ") path_line claim.kept ++ section (codes "differs ") entry_line claim.differs) time
                (all-append (section (codes "kept ") path_line claim.kept) (section (codes "differs ") entry_line claim.differs) kept differs),
          ),
        ),
      ),
    )
