use Rattle.roll_chain.proofs.OneNumber.{of_one_number_one_next}
use Rattle.roll_chain.proofs.laws.of_one_number_one_next.Goals as goal

pub returns : goal.returns
returns c = of_one_number_one_next
