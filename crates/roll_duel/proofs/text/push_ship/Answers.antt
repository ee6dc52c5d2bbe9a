use Rattle.std.proofs.Common.{◌≡◌, ◌∙◌, ap, ℤ, rules, arith, w16, w32, FitsSigned, to_z, of_z}
use Rattle.std.proofs.lemmas.Int.{ints, to_z-of_z}
use Rattle.std.proofs.lemmas.Result.{on_ok_weaker}
use Rattle.roll_duel.proofs.Texts.{ship_pieces}
use Rattle.roll_duel.proofs.text.push_ship.Goals as goal

-- a number of 16 bits is the same in 32
widened : (speed : ℤ) → FitsSigned w16 speed → to_z w32 (of_z w32 (to_z w16 (of_z w16 speed))) ≡ speed
widened speed h = ap (λ z. to_z w32 (of_z w32 z)) (to_z-of_z w16 speed h) ∙ to_z-of_z w32 speed (omega (arith, ints))

pub returns : goal.returns
returns c =
    on_ok_weaker c.push_list-2.result
    (λ last.
    last
    ∙ rw (c.in_ok-push-3.ensures.items, c.in_ok-push_signed-2.ensures.ok, c.in_ok-push-2.ensures.items, c.in_ok-push_signed.ensures.ok, c.in_ok-push.ensures.items, c.in_ok-push_list.ensures.ok, c.from.ensures, c.from-2.ensures, c.from-3.ensures, c.from-4.ensures, c.from-5.ensures, widened c.args.ship.now.vx (search rules), widened c.args.ship.now.vy (search rules))
    (ship_pieces c.args.out.now.items c.args.ship.now))
    c.push_list-2.ensures.ok
