use Rattle.std.proofs.Common.{◌≡◌, ◌≤◌, ◌-◌, length, drop, sym, ap, ◌∙◌, arith, rules, length-drop}
use Rattle.std.proofs.lemmas.List.{length-take-le}
use Rattle.roll_link.proofs.run.Run.len.Goals as goal

pub returns : goal.returns
returns c =
    let rest = drop c.self.inside.next c.self.inside.items in
    let fits : c.self.inside.end - c.self.inside.next ≤ length rest = omega (arith, c.self.invariant, length-drop c.self.inside.next c.self.inside.items) in
    (sym (length-take-le (c.self.inside.end - c.self.inside.next) rest fits) ∙ ap length c.self.view_is, omega (arith, c.self.invariant))
