use Rattle.std.proofs.Common.{◌∙◌, rules, w32, ap, inl, inr, refl, subst}
use Rattle.std.specs.Prelude.{ℕ, FitsSigned}
use Rattle.std.proofs.lemmas.Int.{to_z-of_z}
use Rattle.fazgrond_c.specs.EpochKinds.{IsMarkFaulty}
use Rattle.fazgrond_c.specs.Matches.{of_words}
use Rattle.fazgrond_c.proofs.match_calls.mark_in.Goals as goal

pub returns-in_default : goal.returns-in_default
returns-in_default c =
    let fits : FitsSigned w32 c.code.result = search rules in
    let faulty = subst IsMarkFaulty (c.of_words.ensures ∙ ap (λ (w : ℕ). of_words w c.args.given.now) c.words-words.ensures.words)
    c.in_default.ensures.none in
    rw to_z-of_z (inr (inl (faulty, c.code.ensures, refl, refl, (refl, refl))))
