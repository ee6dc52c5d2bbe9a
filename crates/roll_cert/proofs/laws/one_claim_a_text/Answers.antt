use Rattle.roll_cert.proofs.Once.{one_claim}
use Rattle.roll_cert.proofs.laws.one_claim_a_text.Goals as goal

pub returns : goal.returns
returns c = one_claim
