use Rattle.std.proofs.Common.{rules, w32, ◌≡◌, ◌∙◌, ℕ, ℤ, List, Option, Some, None, length, subst, sym, ap}
use Rattle.std.specs.Prelude.{FitsSigned, IsSomeAnd}
use Rattle.std.proofs.lemmas.Int.{to_z-of_z}
use Rattle.roll_cert.specs.Texts.{claim_lines}
use Rattle.roll_frame.specs.declared.claim.Claim.{Claim}
use Rattle.roll_session.specs.Headline.{last_claim}
use Rattle.roll_text.specs.Lines.{text_of}
use Rattle.fazgrond_c.specs.Made.{IsClaimOf, IsWritten}
use Rattle.fazgrond_c.proofs.looks.claim.Goals as goal

claim_told : (claim : Option Claim) (text before after : List ℕ) (had size : ℕ) (code : ℤ) → IsSomeAnd claim (λ c. text ≡ text_of (claim_lines c)) → size ≡ length text → IsWritten text before after had (length text) code → IsClaimOf claim before after had size code
claim_told None text before after had size code is many w = absurd is
claim_told (Some c) text before after had size code is many w =
    subst (λ n. IsWritten (text_of (claim_lines c)) before after had n code) (sym many)
    (subst (λ (t : List ℕ). IsWritten t before after had (length text) code) is w)

pub returns-in-Ok : goal.returns-in-Ok
returns-in-Ok c =
    let w = rw c.as_slice.ensures.value at (c.copied.ensures.written c.args.size.now) in
    let many : c.len.result ≡ length c.in-Ok.text.items = c.len.ensures ∙ sym c.as_slice.ensures.len ∙ ap length c.as_slice.ensures.value in
    let fits : FitsSigned w32 c.copied.result = search rules in
    rw to_z-of_z
    (claim_told (last_claim c.args.live.now.session.seen) c.in-Ok.text.items c.args.out.now c.copied.new.out c.args.size.now c.len.result c.copied.result c.in-Ok.ensures.text many w)
