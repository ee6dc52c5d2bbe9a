use Rattle.std.proofs.Common.{sym, ◌∙◌}
use Rattle.roll_duel.specs.Frame.{Field}
use Rattle.roll_duel.proofs.Reading.{same_with_ships, other_ships}
use Rattle.roll_duel.proofs.state.State.is_same.Goals as goal

pub returns-then-same_ships : goal.returns-then-same_ships
returns-then-same_ships c =
    let a : Field = record { ships = c.self.inside.ships.items; bullets = c.self.inside.bullets.items } in
    let b : Field = record { ships = c.other.inside.ships.items; bullets = c.other.inside.bullets.items } in
    let mine = c.deref-then-same_ships.ensures.value in
    let others = c.deref-then-same_ships-2.ensures.value in
    rw (← c.self.view_is, ← c.other.view_is)
    (same_with_ships a b c.same_bullets.result c.self.invariant c.other.invariant (sym c.deref.ensures.value ∙ c.same_ships.ensures.0 c.if-same_ships.true ∙ c.deref-2.ensures.value)
    (λ t. sym mine ∙ c.same_bullets.ensures.0 t ∙ others, λ e. c.same_bullets.ensures.1 (mine ∙ e ∙ sym others)))

pub returns-else-same_ships : goal.returns-else-same_ships
returns-else-same_ships c =
    let a : Field = record { ships = c.self.inside.ships.items; bullets = c.self.inside.bullets.items } in
    let b : Field = record { ships = c.other.inside.ships.items; bullets = c.other.inside.bullets.items } in
    let mine = c.deref.ensures.value in
    let others = c.deref-2.ensures.value in
    rw (← c.self.view_is, ← c.other.view_is)
    (other_ships a b c.same_ships.result c.self.invariant c.other.invariant c.if-same_ships.false
    (λ t. sym mine ∙ c.same_ships.ensures.0 t ∙ others, λ e. c.same_ships.ensures.1 (mine ∙ e ∙ sym others)))
