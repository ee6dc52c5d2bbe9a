use Rattle.std.proofs.Common.{ap, arith}
use Rattle.roll_inputs.specs.Boards.{Inputs}
use Rattle.roll_session.proofs.place.find_place.Goals as goal

pub overflow_add-end : goal.overflow_add-end
overflow_add-end g c = omega (arith, c.start_of.ensures.near, c.laws.ensures.reached, c.laws.ensures.short, c.if-route-settled.false, c.settled-settled.ensures, ap (λ (i : Inputs). i.settled) c.board.ensures, c.len.ensures.value, c.len.ensures.fits)
