use Rattle.std.proofs.Common.{◌≡◌, ◌∙◌, ap, sym, refl, arith, get_or}
use Rattle.roll_contact.proofs.Taking.{is_window_put, kept_anew, kept_bits, kept_same}
use Rattle.roll_contact.proofs.window.Window.put.Goals as goal
use Rattle.roll_contact.proofs.window.Window.put.Goals.{then-self-place, else-self-place}

pub returns : goal.returns
returns c taken are fresh =
    let place = c.place_of-place.ensures.value in
    let runs = c.args.self.now.runs in
    let bits = c.args.self.now.bits in
    let kept : c.if-self-place.bits ≡ kept_bits c.args.number c.args.self.now = elim c.if-self-place.branch [
      | then-self-place w ↦ w.bits-is ∙ (ap (λ p. get_or bits p 0) place ∙ kept_same _ _ _ (ap (λ p. get_or runs p 0) (sym place) ∙ w.if-self-place.true))
      | else-self-place w ↦ w.bits-is ∙ kept_anew _ _ _ (λ same. w.if-self-place.false (ap (λ p. get_or runs p 0) place ∙ same))
    ] in
    is_window_put taken c.args.number c.args.self.now _ are
    (record { highest = c.max-self.ensures; runs = rw c.place_of-place.ensures.value refl; bits = rw (kept, c.place_of-place.ensures.value) refl; places = omega arith; words = omega arith }) fresh
