-- What is written of the last roll's claim.
use Rattle.std.proofs.Common.{◌≡◌, refl, ap, true, false, Option, Some, None}
use Rattle.std.specs.Prelude.{IfSome, is_none, if◌then◌else◌}
use Rattle.std.specs.Option.{option_map_or}
use Rattle.roll_frame.specs.declared.claim.Claim.{Claim}
use Rattle.roll_frame.specs.Claims.{claim_of}
use Rattle.roll_frame.specs.Core.{Core, Roll}
use Rattle.roll_frame.specs.declared.refusal.Refusal.TheVariants.{NoPlan, NoMemory}
use Rattle.roll_frame.specs.declared.settings.Settings.{Settings}
use Rattle.roll_text.specs.Lines.{ended, text_of}
use Rattle.roll_cert.specs.Texts.{claim_lines}
use Rattle.prog_scripts.specs.Output.{claim_text, refused_line}

-- the claim of a roll is what is written
pub claimed : (settings : Settings) (core : Core) (claim : Claim) → IfSome core.last (λ roll. claim ≡ claim_of settings.players roll) → is_none core.last ≡ false → text_of (claim_lines claim) ≡ claim_text settings core
unfolding claim_text
claimed settings core claim h some = go core.last h some
  where
    go : (last : Option Roll) → IfSome last (λ roll. claim ≡ claim_of settings.players roll) → is_none last ≡ false
        → text_of (claim_lines claim) ≡ option_map_or (λ roll. text_of (claim_lines (claim_of settings.players roll))) last (ended (refused_line NoPlan))
    go None h some = absurd (cc)
    go (Some roll) h some = ap (λ (c : Claim). text_of (claim_lines c)) h

-- where no roll is the reason, there was none
pub no_roll_made : (last : Option Roll) → NoPlan ≡ (if is_none last then NoPlan else NoMemory) → is_none last ≡ true
no_roll_made None e = refl
no_roll_made (Some roll) e = absurd (cc)

-- where there was no roll, that is what is written
pub unclaimed : (settings : Settings) (core : Core) → is_none core.last ≡ true → ended (refused_line NoPlan) ≡ claim_text settings core
unfolding claim_text
unclaimed settings core none = go core.last none
  where
    go : (last : Option Roll) → is_none last ≡ true → ended (refused_line NoPlan) ≡ option_map_or (λ roll. text_of (claim_lines (claim_of settings.players roll))) last (ended (refused_line NoPlan))
    go None none = refl
    go (Some roll) none = absurd (cc)
