use Rattle.std.proofs.Common.{◌∙◌, ap, arith, refl}
use Rattle.roll_inputs.specs.Boards.{Inputs}
use Rattle.roll_session.proofs.Bares.{bare_first}
use Rattle.roll_session.proofs.Holding.{replay-nil}
use Rattle.roll_session.proofs.gameless.Core.new.Goals as goal

pub invariant_of-result : goal.invariant_of-result
invariant_of-result g c =
    let started = c.in-Ok-new.ensures.inputs ∙ c.in_ok-board.ensures.board in (
      rw (c.new-4.ensures, c.in-Ok.ensures)
          (bare_first c.args.settings c.in-Ok-new.saves c.in-Ok-new.saves.tree.root c.args.opening c.in_ok-board.ensures.accepted started c.in-Ok-new.ensures.alone),
      record { promised = omega arith; entries = omega arith; rows = omega (arith, ap (λ (i : Inputs). i.frame) started) },
    )

pub returns-clause-seen : goal.returns-clause-seen
returns-clause-seen g c = rw (c.new-4.ensures, replay-nil c.args.settings) refl
