use Rattle.std.proofs.Common.{◌≡◌, ◌∙◌, ◌++◌, codes, sym, ap, arith, append_assoc, refl}
use Rattle.std.proofs.lemmas.List.{append-nil}
use Rattle.std.proofs.lemmas.Grind.{common_steps}
use Rattle.roll_text.specs.Numbers.{list_of}
use Rattle.prog_scripts.specs.Headers.{Setup, setup_of}
use Rattle.prog_scripts.proofs.Headings.{mask_text, mask_text_none, mask_text_some, header_pieces}
use Rattle.prog_scripts.proofs.header.Header.push.Goals as goal
use Rattle.prog_scripts.proofs.header.Header.push.Goals.{then-not-is_empty+in_ok-extend_from_slice-5+in_ok-push_list-3, else-not-is_empty}

pub returns : goal.returns
returns c =
    let setup : Setup = setup_of c.args.self.now in
    let masks : c.if-not-is_empty.out.items ≡ c.push_list-2.new.out.items ++ mask_text setup.masks = elim c.if-not-is_empty.branch [
      | then-not-is_empty+in_ok-extend_from_slice-5+in_ok-push_list-3 w ↦
          ap (λ out. out.items) w.out-is ∙ w.in_ok-push_list-3.ensures.ok
          ∙ rw (w.in_ok-extend_from_slice-5.ensures.items, w.deref-then-not-is_empty.ensures.value, mask_text_some setup.masks (grind (arith, common_steps))) (append_assoc c.push_list-2.new.out.items (codes " mask ") (list_of setup.masks))
      | else-not-is_empty w ↦ ap (λ out. out.items) w.out-is ∙ sym (ap (λ t. c.push_list-2.new.out.items ++ t) (mask_text_none setup.masks (grind (arith, common_steps))) ∙ append-nil c.push_list-2.new.out.items)
    ] in
    rw (c.in_ok-push_number-2.ensures.ok, c.in_ok-extend_from_slice-6.ensures.items, masks, c.in_ok-push_list-2.ensures.ok, c.in_ok-extend_from_slice-4.ensures.items, c.in_ok-push_list.ensures.ok, c.in_ok-extend_from_slice-3.ensures.items, c.in_ok-push_number.ensures.ok, c.in_ok-extend_from_slice-2.ensures.items, c.in_ok-push.ensures.items, c.in_ok-extend_from_slice.ensures.items, header_pieces setup, ← c.digit.ensures) (simp append_assoc (rw (c.deref.ensures.value, c.deref-2.ensures.value) refl))
