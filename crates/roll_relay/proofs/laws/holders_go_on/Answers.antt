use Rattle.roll_relay.proofs.OneMatch.{holders_go_on}
use Rattle.roll_relay.proofs.laws.holders_go_on.Goals as goal

pub returns : goal.returns
returns c = holders_go_on
