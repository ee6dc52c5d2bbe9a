use Rattle.std.proofs.Common.{◌≡◌}
use Rattle.roll_epoch.specs.Successions.{given_to}
use Rattle.roll_epoch.proofs.owners.given_all.Given as goal

abbrev pub invariant-loop-player : goal.invariant-loop-player
invariant-loop-player l = l.all ≡ given_to l.seat l.words l.asked l.owners l.player
