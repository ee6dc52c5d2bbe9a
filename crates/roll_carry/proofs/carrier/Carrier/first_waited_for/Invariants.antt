use Rattle.std.proofs.Common.{◌≡◌, ℕ, ◌<◌, false}
use Rattle.roll_carry.specs.Carrying.{is_waited_for}
use Rattle.roll_carry.proofs.carrier.Carrier.first_waited_for.Given as goal

abbrev pub invariant-loop-hop : goal.invariant-loop-hop
invariant-loop-hop l = (m : ℕ) → m < l.hop → is_waited_for l.self l.ready m ≡ false
