-- What is read of a claim's text.
use Rattle.std.proofs.Common.{◌≡◌, ◌⊎◌, inl, inr, ℕ, ◌<◌, List, sym, ap, ◌∙◌, arith, length}
use Rattle.std.specs.Prelude.{Result, Ok, Err, IfErr, IfOk}
use Rattle.roll_frame.specs.declared.claim.Claim.{Claim}
use Rattle.roll_frame.specs.declared.refusal.Refusal.{Refusal}
use Rattle.roll_frame.specs.declared.refusal.Refusal.TheVariants.{NoMemory}
use Rattle.roll_text.specs.declared.streams.TheConstants.{TEXT_LIMIT}
use Rattle.roll_text.specs.Lines.{text_of}
use Rattle.roll_text.proofs.Unreadable.{not_unreadable}
use Rattle.roll_cert.specs.Texts.{IsClaimText, IsSized, IsUnreadable, claim_lines}
use Rattle.roll_cert.proofs.Once.{one_claim}
use Rattle.roll_cert.proofs.Short.{texts-short}

-- no claim's text is too long
pub not_long : (text : List ℕ) → IsClaimText text → TEXT_LIMIT < length text → ⊥
not_long text (claim, fits, e) long = omega (arith, texts-short claim fits, ap length e, long)

-- the claim that was read is the one whose text it is
pub read_again : (result : Result Claim Refusal) (text : List ℕ) → IfOk result (λ claim. IsSized claim) → IfOk result (λ claim. text ≡ text_of (claim_lines claim))
    → (claim : Claim) → IsSized claim → text ≡ text_of (claim_lines claim) → IfOk result (λ read. read ≡ claim)
read_again (Ok read) text sized spelled claim fits e = one_claim read claim sized fits (sym spelled ∙ e)
read_again (Err why) text sized spelled claim fits e = tt

-- only memory is refused
pub read_whole : (result : Result Claim Refusal) (text : List ℕ) → IfErr result (λ why. (why ≡ NoMemory) ⊎ IsUnreadable why text) → IsClaimText text → IfErr result (λ why. why ≡ NoMemory)
read_whole (Ok read) text refused readable = tt
read_whole (Err why) text (inl none) readable = none
read_whole (Err why) text (inr (line, named, inl long)) readable = absurd (not_long text readable long.1)
read_whole (Err why) text (inr (line, named, inr bad)) readable = absurd (not_unreadable IsClaimText line text readable bad.1)
