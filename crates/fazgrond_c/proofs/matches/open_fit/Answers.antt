use Rattle.std.proofs.Common.{◌≡◌, ◌∙◌, rules, w32, inl, inr, refl, sym, Some}
use Rattle.std.specs.Prelude.{FitsSigned, ℤ, pos}
use Rattle.std.proofs.lemmas.Int.{to_z-of_z}
use Rattle.fazgrond_c.proofs.Openings.{nothing_opens}
use Rattle.fazgrond_c.proofs.matches.open_fit.Goals as goal

pub returns-in-Ok : goal.returns-in-Ok
returns-in-Ok c =
    let fits : FitsSigned w32 c.open_in.result = search rules in
    rw to_z-of_z
    (record {
      opens = record {
        opened = λ ok. rw (c.open_in.ensures.opened ok) c.in-Ok.ensures.both;
        refused = λ no. (c.open_in.ensures.refused no).1;
      };
      why = λ no. inr (c.open_in.ensures.refused no).0;
    })

pub returns-in-Err : goal.returns-in-Err
returns-in-Err c =
    let fits : FitsSigned w32 c.in-Err.code = search rules in
    rw to_z-of_z
    (record {
      opens = record { opened = λ ok. absurd (nothing_opens c.args.fit c.in-Err.code c.in-Err.ensures.refused ok); refused = λ no. refl };
      why = λ no. inl c.in-Err.ensures.refused;
    })
