use Rattle.std.proofs.Common.{◌+◌, ◌∙◌, ap, sym, subst, Option}
use Rattle.roll_epoch.specs.Ends.{Told, sooner, told}
use Rattle.roll_epoch.specs.declared.marks.Ending.{Ending}
use Rattle.roll_epoch.proofs.EndLaws.{Best, goes_on}
use Rattle.roll_epoch.proofs.marks.Marks.end.Goals as goal

pub loop-player-preserved : goal.loop-player-preserved
loop-player-preserved c =
    let known : Told = told c.args.self.now c.args.terms.now c.args.left.now in
    let i = c.loop-player.player in
    let best = c.loop-player.ending in
    subst (λ (e : Option Ending). Best known c.args.settled (i + 1) e)
    (sym (c.sooner-ending.ensures ∙ ap (sooner best i) c.counting-marked.ensures.counts))
    (goes_on known c.args.settled i best c.loop-player.invariant)
