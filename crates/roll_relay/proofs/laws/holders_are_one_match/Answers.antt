use Rattle.roll_relay.proofs.OneMatch.{holders_are_one}
use Rattle.roll_relay.proofs.laws.holders_are_one_match.Goals as goal

pub returns : goal.returns
returns c = holders_are_one
