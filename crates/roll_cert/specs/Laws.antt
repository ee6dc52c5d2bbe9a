-- What holds of the texts of all claims.
use Rattle.std.specs.Prelude.{◌≡◌, ◌≤◌, length}
use Rattle.roll_frame.specs.declared.claim.Claim.{Claim}
use Rattle.roll_text.specs.declared.streams.TheConstants.{TEXT_LIMIT}
use Rattle.roll_text.specs.Lines.{text_of}
use Rattle.roll_cert.specs.Texts.{IsSized, claim_lines}

abbrev pub OneClaimAText : Type 0
OneClaimAText = (a b : Claim) → IsSized a → IsSized b → text_of (claim_lines a) ≡ text_of (claim_lines b) → a ≡ b

abbrev pub TextsAreShort : Type 0
TextsAreShort = (claim : Claim) → IsSized claim → length (text_of (claim_lines claim)) ≤ TEXT_LIMIT
