use Rattle.std.proofs.Common.{◌≡◌, ◌∙◌, rules, w32, to_z, inl, inr, sym, ap}
use Rattle.std.specs.Prelude.{FitsSigned, pos}
use Rattle.std.proofs.lemmas.Int.{to_z-of_z}
use Rattle.fazgrond_c.proofs.epoch_calls.mark.Goals as goal

pub returns : goal.returns
returns c =
    let fits : FitsSigned w32 c.mark_told.result = search rules in
    let told : c.hand_over-code.result ≡ pos 0 = sym (to_z-of_z w32 c.hand_over-code.result (search rules)) ∙ ap (to_z w32) c.if-code-ne0.false in
    rw to_z-of_z
    (inr (inr (inr (
      c.if-given-ne-MARK_SIZE.false,
      record {
        mark = c.in-Some.mark;
        mark_is = c.in-Some.ensures.given;
        counts = sym c.fault_in.ensures ∙ c.in_default-fault_in.is;
        told = c.hand_over-code.new.network;
        handed_code = c.hand_over-code.result;
        handed = c.hand_over-code.ensures;
        marks = inl (told, c.mark_told.ensures);
      },
    ))))
