-- The entries and paths that a check has come past, and the flaws of one entry.
use Rattle.std.proofs.Common.{◌≡◌, ℕ, ◌+◌, ◌<◌, List, [], ◌∷◌, ◌++◌, take, true, false, Some, refl, sym, ap, subst, ◌∙◌, inl, inr, arith, add-one}
use Rattle.std.specs.Prelude.{slice_get}
use Rattle.std.specs.List.{list_any}
use Rattle.std.proofs.lemmas.Bool.{cases_lt}
use Rattle.std.proofs.lemmas.Option.{same_Some, slice_get_within, get_or_from_slice_get}
use Rattle.std.proofs.Math.Seq.{take-suc}
use Rattle.roll_frame.specs.declared.path.Path.{Path}
use Rattle.roll_frame.specs.declared.claim.Claim.{Claim}
use Rattle.roll_frame.specs.declared.claim.Differ.{Differ}
use Rattle.roll_frame.specs.Claims.{IsDeeper, is_for, IsSame}
use Rattle.roll_cert.specs.declared.checking.Flaw.{Flaw}
use Rattle.roll_cert.specs.declared.checking.Flaw.TheVariants.{Shape, FromNotKept, Range, Equal, Twice, Missing}
use Rattle.roll_cert.specs.Flaws.{IsInRange, HasEntry, HasFlaw, stage, place, turn}
use Rattle.roll_cert.specs.Checked.{IsGood, AreGood, AreNamed, IsFlawOf}

pub AreGood-more : (claim : Claim) (n : ℕ) → AreGood claim n → ((entry : Differ) → slice_get claim.differs n ≡ Some entry → IsGood claim n entry) → AreGood claim (n + 1)
AreGood-more claim n good here j entry below there =
    elim (cases_lt j n) [
      | inl lower ↦ good j entry lower there
      | inr at ↦
          let same : j ≡ n = omega arith in
          subst (λ (k : ℕ). IsGood claim k entry) (sym same) (here entry (subst (λ (k : ℕ). slice_get claim.differs k ≡ Some entry) same there))
    ]

pub AreNamed-more : (claim : Claim) (n : ℕ) → AreNamed claim n → ((path : Path) → slice_get claim.kept n ≡ Some path → IsDeeper claim path → list_any (is_for n) claim.differs ≡ true) → AreNamed claim (n + 1)
AreNamed-more claim n named here i path below there deeper =
    elim (cases_lt i n) [
      | inl lower ↦ named i path lower there deeper
      | inr at ↦
          let same : i ≡ n = omega arith in
          subst (λ (k : ℕ). list_any (is_for k) claim.differs ≡ true) (sym same) (here path (subst (λ (k : ℕ). slice_get claim.kept k ≡ Some path) same there) deeper)
    ]

-- what is said of the entry at i is true of the one at j, where these are one place
pub only : (claim : Claim) (i j : ℕ) (entry : Differ) (P : Differ → Type 0) → i ≡ j → slice_get claim.differs j ≡ Some entry → HasEntry claim i P → P entry
only claim i j entry P at there (other, here, holds) =
    let same : other ≡ entry = same_Some other entry (sym here ∙ ap (λ (k : ℕ). slice_get claim.differs k) at ∙ there) in
    subst P same holds

pub flaw_range : (claim : Claim) (j : ℕ) (entry : Differ) → slice_get claim.differs j ≡ Some entry → ((path : Path) → IsInRange claim entry path → ⊥) → IsFlawOf claim j (Range j)
flaw_range claim j entry there none =
    record { has = (entry, there, none); of_entry = refl; at = refl; first = λ other of_entry at before has. absurd (omega arith) }

not_range : (claim : Claim) (i j : ℕ) (entry : Differ) (path : Path) → i ≡ j → slice_get claim.differs j ≡ Some entry → IsInRange claim entry path → HasFlaw claim (Range i) → ⊥
not_range claim i j entry path at there range has =
    only claim i j entry (λ (e : Differ). (p : Path) → IsInRange claim e p → ⊥) at there has path range

same_path : (claim : Claim) (state : ℕ) (path other : Path) → slice_get claim.kept state ≡ Some path → slice_get claim.kept state ≡ Some other → other ≡ path
same_path claim state path other there here = same_Some other path (sym here ∙ there)

not_equal : (claim : Claim) (i j : ℕ) (entry : Differ) (path : Path) → i ≡ j → slice_get claim.differs j ≡ Some entry → IsInRange claim entry path → (IsSame claim entry path → ⊥) → HasFlaw claim (Equal i) → ⊥
not_equal claim i j entry path at there range differs has =
    let found = only claim i j entry (λ (e : Differ). (p : Path) × IsInRange claim e p × IsSame claim e p) at there has in
    differs (subst (λ (p : Path). IsSame claim entry p) (same_path claim entry.state path found.0 range.0 found.1.0) found.2)

before_equal : (claim : Claim) (j : ℕ) (entry : Differ) (path : Path) → slice_get claim.differs j ≡ Some entry → IsInRange claim entry path
    → (other : Flaw) → stage other ≡ 2 → place other ≡ j → turn other < 1 → HasFlaw claim other → ⊥
before_equal claim j entry path there range Shape of_entry at before has = absurd (omega arith)
before_equal claim j entry path there range FromNotKept of_entry at before has = absurd (omega arith)
before_equal claim j entry path there range (Range i) of_entry at before has = not_range claim i j entry path at there range has
before_equal claim j entry path there range (Equal i) of_entry at before has = absurd (omega arith)
before_equal claim j entry path there range (Twice i) of_entry at before has = absurd (omega arith)
before_equal claim j entry path there range (Missing i) of_entry at before has = absurd (omega arith)

pub flaw_equal : (claim : Claim) (j : ℕ) (entry : Differ) (path : Path) → slice_get claim.differs j ≡ Some entry → IsInRange claim entry path → IsSame claim entry path → IsFlawOf claim j (Equal j)
flaw_equal claim j entry path there range same =
    record { has = (entry, there, (path, range, same)); of_entry = refl; at = refl; first = before_equal claim j entry path there range }

before_twice : (claim : Claim) (j : ℕ) (entry : Differ) (path : Path) → slice_get claim.differs j ≡ Some entry → IsInRange claim entry path → (IsSame claim entry path → ⊥)
    → (other : Flaw) → stage other ≡ 2 → place other ≡ j → turn other < 2 → HasFlaw claim other → ⊥
before_twice claim j entry path there range differs Shape of_entry at before has = absurd (omega arith)
before_twice claim j entry path there range differs FromNotKept of_entry at before has = absurd (omega arith)
before_twice claim j entry path there range differs (Range i) of_entry at before has = not_range claim i j entry path at there range has
before_twice claim j entry path there range differs (Equal i) of_entry at before has = not_equal claim i j entry path at there range differs has
before_twice claim j entry path there range differs (Twice i) of_entry at before has = absurd (omega arith)
before_twice claim j entry path there range differs (Missing i) of_entry at before has = absurd (omega arith)

pub flaw_twice : (claim : Claim) (j : ℕ) (entry : Differ) (path : Path) → slice_get claim.differs j ≡ Some entry → IsInRange claim entry path → (IsSame claim entry path → ⊥)
    → list_any (is_for entry.state) (take j claim.differs) ≡ true → IsFlawOf claim j (Twice j)
flaw_twice claim j entry path there range differs named =
    record { has = (entry, there, named); of_entry = refl; at = refl; first = before_twice claim j entry path there range differs }

pub good_entry : (claim : Claim) (j : ℕ) (entry : Differ) (path : Path) → slice_get claim.differs j ≡ Some entry → IsInRange claim entry path → (IsSame claim entry path → ⊥)
    → list_any (is_for entry.state) (take j claim.differs) ≡ false → (other : Differ) → slice_get claim.differs j ≡ Some other → IsGood claim j other
good_entry claim j entry path there range differs once other here =
    let same : entry ≡ other = same_Some entry other (sym there ∙ here) in
    let good : IsGood claim j entry = record { path = path; range = range; differs = differs; once = once } in
    subst (λ (e : Differ). IsGood claim j e) same good

pub take-more : {X : Type 0} (xs : List X) (j : ℕ) (x : X) → slice_get xs j ≡ Some x → take (j + 1) xs ≡ take j xs ++ x ∷ []
take-more xs j x there =
    ap (λ (k : ℕ). take k xs) (add-one j)
    ∙ take-suc xs j x (slice_get_within xs j x there)
    ∙ ap (λ (y : _). take j xs ++ y ∷ []) (get_or_from_slice_get xs j x x there)
