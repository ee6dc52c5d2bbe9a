use Rattle.std.proofs.Common.{◌≡◌, ◌∙◌, rules, w32, inl, inr, refl, sym}
use Rattle.std.specs.Prelude.{FitsSigned, pos}
use Rattle.std.proofs.lemmas.Int.{to_z-of_z}
use Rattle.fazgrond_c.proofs.Openings.{not_opened}
use Rattle.fazgrond_c.proofs.peers.open_beside.Goals as goal

pub returns-in-Err : goal.returns-in-Err
returns-in-Err c =
    let fits : FitsSigned w32 c.code_of_opening.result = search rules in
    let failed : c.code_of_opening.result ≡ pos 0 → ⊥ = λ e. not_opened c.in-Some.settings c.in-Err.why (sym c.code_of_opening.ensures ∙ e) in
    rw to_z-of_z
    (record {
      opens = record { opened = λ e. absurd (failed e); refused = λ n. refl };
      why = λ n. inr (inr (inl (record {
        matched = c.in-Some.settings;
        are_matched = c.in-Some.ensures.matched;
        fault = c.in-Err.why;
        why = c.in-Err.ensures.refused;
        code_is = c.code_of_opening.ensures;
      })));
      version = λ n. absurd (n c.if-given-ne-MATCH_SIZE.false);
    })
