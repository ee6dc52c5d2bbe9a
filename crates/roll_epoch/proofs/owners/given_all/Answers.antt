use Rattle.std.proofs.Common.{◌∙◌, add-one}
use Rattle.roll_epoch.specs.Successions.{given_if}
use Rattle.roll_epoch.proofs.owners.given_all.Goals as goal

pub loop-player-preserved : goal.loop-player-preserved
loop-player-preserved c =
    rw add-one
    (c.given_if-all.ensures
    ∙ (λ k. given_if (c.is_asked_at-is_asked.ensures k) c.args.seat c.args.words (c.loop-player.invariant k) c.loop-player.player))
