use Rattle.std.proofs.Common.{◌≡◌, ◌∙◌, add-one, ap, arith, refl, sym}
use Rattle.std.specs.Prelude.{Some, slice_get}
use Rattle.prog_observer.proofs.Differing.{is_apart, place_of-first, place_of-none}
use Rattle.prog_observer.proofs.change.first_player.Goals as goal

pub returns-then-ne : goal.returns-then-ne
returns-then-ne c =
    let row = c.args.row.now in
    let other = c.args.other.now in
    let k = c.loop-place.place in
    let left : c.get.result ≡ slice_get row k = c.get.ensures ∙ ap (λ n. slice_get row n) c.from.ensures in
    let right : c.get-in-loop-place.result ≡ slice_get other k =
    c.get-in-loop-place.ensures ∙ ap (λ n. slice_get other n) c.from-in-loop-place.ensures in
    ap Some (add-one k) ∙ sym (place_of-first k row other c.loop-place.invariant.same (λ e.
    is_apart _ (λ v w. refl) (λ v. refl) (λ w. refl) refl c.get.result c.get-in-loop-place.result c.ne.result
    c.ne.ensures c.if-ne.true
    (left ∙ e ∙ sym right)))

pub returns : goal.returns
returns c = sym (place_of-none c.args.row.now c.args.other.now (λ j l. c.loop-place.invariant.same j (omega (arith, l))))
