use Rattle.roll_laws.proofs.Entries.{entries_were_accepted}
use Rattle.roll_laws.proofs.entries_were_accepted.Goals as goal

pub returns : goal.returns
returns c = entries_were_accepted
