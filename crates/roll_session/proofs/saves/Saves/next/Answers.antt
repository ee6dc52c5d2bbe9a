use Rattle.std.proofs.Common.{◌∙◌, sym, arith, length}
use Rattle.std.proofs.lemmas.List.{length-map}
use Rattle.roll_frame.specs.Inputs.{with_none_given}
use Rattle.roll_session.proofs.Grows.{rows_none_given}
use Rattle.roll_session.proofs.saves.Saves.next.Goals as goal

pub invariant_of-self : goal.invariant_of-self
invariant_of-self g c =
    let i = c.self.inside in
    let inv = c.self.invariant in
    let next = c.next.ensures.begun in
    let room = rw (← c.self.view_is) at c.requires.room in
    let rows = c.next.ensures.rows in
    rw next (record {
      past = inv.past ∙ sym (rw next at rows);
      wide = inv.wide ∙ sym (length-map i.board.players with_none_given);
      base = inv.base;
      told = inv.told ∙ sym (rows_none_given i.board.players i.board.settled (length i.tree.time));
      room = omega (arith, room);
    })
