use Rattle.roll_carry.proofs.OneText.{one_text as law}
use Rattle.roll_carry.proofs.laws.one_text.Goals as goal

pub returns : goal.returns
returns c = law
