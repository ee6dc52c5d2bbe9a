use Rattle.std.proofs.Common.{◌≡◌, ◌<◌, ℕ, true}
use Rattle.roll_chain.specs.Chains.{is_seen}
use Rattle.roll_chain.proofs.chain.Chain.is_past_over.Given as goal

abbrev pub invariant-loop-machine : goal.invariant-loop-machine
invariant-loop-machine l = (k : ℕ) → k < l.machine → is_seen l.peer k ≡ true
