use Rattle.std.proofs.Common.{◌∙◌, sym}
use Rattle.roll_wire.specs.Spelling.{message}
use Rattle.roll_viewer.proofs.Sealed.{sealed_for}
use Rattle.roll_viewer.proofs.line.Line.open.Goals as goal

pub returns-in-Ok-clause-sealed : goal.returns-in-Ok-clause-sealed
returns-in-Ok-clause-sealed c =
    sealed_for c.args.self.now c.args.bytes.now c.in_ok-text.text.items (message c.in-Ok.datagram)
    c.in_ok-text.ensures.sealed (sym c.deref.ensures.0 ∙ c.in-Ok.ensures.found.1)
