use Rattle.roll_spectate.proofs.Growing.{sent_rows_stay}
use Rattle.roll_spectate.proofs.laws.sent_rows_stay.Goals as goal

pub returns : goal.returns
returns c = sent_rows_stay
