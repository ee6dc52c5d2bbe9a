use Rattle.std.proofs.Common.{◌≡◌, ◌<◌, ℕ, false}
use Rattle.roll_chain.specs.Chains.{is_word_of}
use Rattle.roll_chain.proofs.chain.has_given.Given as goal

abbrev pub invariant-loop-player : goal.invariant-loop-player
invariant-loop-player l = (k : ℕ) → k < l.player → is_word_of l.mesh l.machine k ≡ false
