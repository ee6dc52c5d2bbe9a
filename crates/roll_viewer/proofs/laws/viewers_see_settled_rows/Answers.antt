use Rattle.roll_viewer.proofs.Seen.{viewers_see_settled_rows}
use Rattle.roll_viewer.proofs.laws.viewers_see_settled_rows.Goals as goal

pub returns : goal.returns
returns c = viewers_see_settled_rows
