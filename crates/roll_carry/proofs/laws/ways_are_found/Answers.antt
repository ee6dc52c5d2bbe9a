use Rattle.roll_carry.proofs.Found.{ways_are_found}
use Rattle.roll_carry.proofs.laws.ways_are_found.Goals as goal

pub returns : goal.returns
returns c = ways_are_found
