use Rattle.std.proofs.Common.{◌≡◌, take}
use Rattle.roll_relay.specs.Turns.{lessened}
use Rattle.roll_relay.proofs.held.less.Given as goal

abbrev pub invariant-loop-all : goal.invariant-loop-all
invariant-loop-all l = l.left.items ≡ lessened l.count (take l.all-index l.waited.items)
