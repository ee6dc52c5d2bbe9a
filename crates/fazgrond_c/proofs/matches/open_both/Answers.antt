use Rattle.std.proofs.Common.{◌∙◌, rules, w32, ap, inr, refl}
use Rattle.std.specs.Prelude.{FitsSigned, pos}
use Rattle.std.proofs.lemmas.Int.{to_z-of_z}
use Rattle.roll_peer.specs.declared.settings.MatchSettings.{MatchSettings}
use Rattle.fazgrond_c.specs.PeerKinds.{code_of_opening}
use Rattle.fazgrond_c.proofs.matches.open_both.Goals as goal

pub returns-in-Ok-open-clause-both : goal.returns-in-Ok-open-clause-both
returns-in-Ok-open-clause-both c = record {
  session = c.in-Ok.ensures.session;
  advice = c.in-Ok.ensures.advice;
  closing = c.in-Ok.ensures.closing;
  first_job = c.in-Ok.ensures.first_job;
  online = _;
  network = refl;
  opened = c.in-Ok-open.ensures.opened;
  input_size = refl;
  frame_time = refl;
}

pub returns-in-Err-open-clause-refused : goal.returns-in-Err-open-clause-refused
returns-in-Err-open-clause-refused c =
    let fits : FitsSigned w32 c.code_of_opening.result = search rules in
    rw to_z-of_z
    (inr (record {
      seen = _;
      refusal = c.in-Err-open.why;
      is_why = c.in-Err-open.ensures.refused;
      code_is = c.code_of_opening.ensures ∙ ap (λ (s : MatchSettings). pos (code_of_opening s c.in-Err-open.why)) c.settings.ensures;
    }))
