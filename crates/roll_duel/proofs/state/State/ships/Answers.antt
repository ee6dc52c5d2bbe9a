use Rattle.std.proofs.Common.{sym, ap, ◌∙◌}
use Rattle.roll_duel.specs.Frame.{Field}
use Rattle.roll_duel.proofs.Reading.{field_back}
use Rattle.roll_duel.proofs.state.State.ships.Goals as goal

pub returns-clause-bytes : goal.returns-clause-bytes
returns-clause-bytes c =
    let field : Field = record { ships = c.self.inside.ships.items; bullets = c.self.inside.bullets.items } in
    rw (← c.self.view_is) (c.as_slice.ensures.value ∙ sym (ap (λ (f : Field). f.ships) (field_back field c.self.invariant)))
