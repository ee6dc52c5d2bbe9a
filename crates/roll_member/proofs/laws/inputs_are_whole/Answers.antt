use Rattle.roll_member.proofs.Known.{whole_input}
use Rattle.roll_member.proofs.laws.inputs_are_whole.Goals as goal

pub returns : goal.returns
returns c = λ s mesh p tied lt other. whole_input s mesh p tied lt other
