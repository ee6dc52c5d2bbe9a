use Rattle.std.proofs.Common.{rules, w32, ◌≡◌, Option, pos, refl, subst, sym}
use Rattle.std.specs.Prelude.{FitsSigned, MatchOption}
use Rattle.std.proofs.lemmas.Int.{to_z-of_z}
use Rattle.roll_frame.specs.Codes.{code_of}
use Rattle.roll_frame.specs.declared.refusal.Refusal.{Refusal}
use Rattle.roll_session.specs.Foretold.{rerun_of}
use Rattle.fazgrond_c.proofs.waiting_calls.write_rerun.Goals as goal

pub returns-in-Err : goal.returns-in-Err
returns-in-Err c =
    let s = c.args.session.now.seen in
    let words = c.args.words.now in
    let fits : FitsSigned w32 c.code.result = search rules in
    rw to_z-of_z
    (subst (λ (o : Option Refusal). MatchOption o ((c.code.result ≡ pos 0) × (c.args.frames.now ≡ rerun_of s words))
    (λ why. (c.code.result ≡ pos (code_of why)) × (c.args.frames.now ≡ c.args.frames.now))) (sym c.in-Err.ensures.refused) (c.code.ensures, refl))
