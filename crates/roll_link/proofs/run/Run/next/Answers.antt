use Rattle.std.proofs.Common.{◌≡◌, ◌≤◌, ◌<◌, length, sym, ◌∙◌, arith, rules}
use Rattle.roll_link.proofs.Waiting.{part_next}
use Rattle.roll_link.proofs.run.Run.next.Goals as goal

pub returns-clause-some : goal.returns-clause-some
returns-clause-some c =
    let before : c.self.inside.next < c.self.inside.end = omega (arith, c.self.invariant, c.if-self.false) in
    sym c.self.view_is ∙ part_next c.self.inside.items c.self.inside.next c.self.inside.end _ before (omega (arith, c.self.invariant))
