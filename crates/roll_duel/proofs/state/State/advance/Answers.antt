use Rattle.std.proofs.Common.{sym}
use Rattle.roll_duel.specs.Frame.{Field}
use Rattle.roll_duel.proofs.Reading.{step_is}
use Rattle.roll_duel.proofs.Turns.{frame_is}
use Rattle.roll_duel.proofs.state.State.advance.Goals as goal

pub returns-clause-bytes : goal.returns-clause-bytes
returns-clause-bytes c =
    let old : Field = record { ships = c.self.inside.ships.items; bullets = c.self.inside.bullets.items } in
    let new : Field = record { ships = c.land_bullets.new.ships.items; bullets = c.land_bullets.new.bullets.items } in
    let frame = frame_is c.args.row.now old c.run_ships.new.ships.items c.run_ships.new.bullets.items c.fly_bullets.new.bullets.items c.land_bullets.new.ships.items c.land_bullets.new.bullets.items c.in_ok-run_ships.ensures.value c.fly_bullets.ensures.value c.land_bullets.ensures.ships c.land_bullets.ensures.bullets in
    rw (← c.self.view_is) (step_is old new c.args.row.now c.self.invariant (sym frame))
