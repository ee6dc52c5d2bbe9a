use Rattle.std.proofs.Common.{[]}
use Rattle.std.specs.List.{IsDistinct}
use Rattle.roll_contact.proofs.Taking.{still_distinct}
use Rattle.roll_contact.proofs.laws.none_is_taken_twice.Goals as goal

pub returns : goal.returns
unfolding IsDistinct
returns c came = still_distinct [] came tt
