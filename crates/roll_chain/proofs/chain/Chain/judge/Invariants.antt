use Rattle.std.proofs.Common.{◌≡◌}
use Rattle.roll_chain.specs.Judging.{judged_until}
use Rattle.roll_chain.proofs.chain.Chain.judge.Given as goal

abbrev pub invariant-loop-player : goal.invariant-loop-player
invariant-loop-player l = l.peer ≡ judged_until l.self l.player l.fn.peer
