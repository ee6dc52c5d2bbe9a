-- What is written of a claim.
use Rattle.std.specs.Prelude.{◌≡◌, ◌-◌, ◌++◌, List, ℕ, Bool, true, false, codes}
use Rattle.std.specs.Fmt.{decimal}
use Rattle.roll_frame.specs.declared.claim.Claim.{Claim}
use Rattle.roll_frame.specs.Claims.{IsRight, target_of}
use Rattle.roll_cert.specs.Flaws.{IsFirst}
use Rattle.roll_cert.specs.Texts.{IsSized, claim_lines}
use Rattle.roll_cert.specs.declared.checking.Flaw.{Flaw}
use Rattle.roll_cert.specs.declared.checking.Flaw.TheVariants.{Shape, FromNotKept, Range, Equal, Twice, Missing}
use Rattle.roll_text.specs.Lines.{ended, text_of}

-- where the roll started, where it ended, and how many frames it ran
abbrev pub right_line : Claim → List ℕ
right_line claim =
    codes "yes: from " ++ (decimal claim.from
    ++ (codes " to " ++ (decimal (target_of claim)
    ++ (codes " rerun " ++ decimal (target_of claim - claim.from)))))

abbrev pub wrong_line : Flaw → List ℕ
wrong_line Shape = codes "no: shape"
wrong_line FromNotKept = codes "no: from not kept"
wrong_line (Range entry) = codes "no: range " ++ decimal entry
wrong_line (Equal entry) = codes "no: equal " ++ decimal entry
wrong_line (Twice entry) = codes "no: twice " ++ decimal entry
wrong_line (Missing state) = codes "no: missing " ++ decimal state

-- whether a claim is right, and the line that says so: of a wrong one it names the first flaw
abbrev pub IsAnswer : Claim → Bool → List ℕ → Type 0
IsAnswer claim true line = IsRight claim × (line ≡ right_line claim)
IsAnswer claim false line =
    (IsRight claim → ⊥) × ((flaw : Flaw) × IsFirst claim flaw × (line ≡ wrong_line flaw))

-- what is written of it, that line alone, and whether it is right
abbrev pub IsAnswered : Claim → List ℕ → Bool → Type 0
IsAnswered claim written right =
    (line : List ℕ) × IsAnswer claim right line × (written ≡ ended line)

-- the text is a claim's, of which this is written
pub record IsCertified (text written : List ℕ) (right : Bool) : Type 0 where
  pub claim : Claim
  pub fits : IsSized claim
  pub spelled : text ≡ text_of (claim_lines claim)
  pub answered : IsAnswered claim written right
