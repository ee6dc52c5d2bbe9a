use Rattle.std.proofs.Common.{◌≤◌, ◌+◌, length}
use Rattle.roll_frame.specs.Core.{kept}
use Rattle.roll_frame.specs.Settings.{open_to_branches}
use Rattle.roll_laws.specs.Laws.{most_kept}
use Rattle.roll_laws.proofs.Few.{few_are_kept}
use Rattle.roll_session.proofs.Following.{law_of}
use Rattle.test_laws.proofs.laws.keeps_few.Goals as goal

pub returns : goal.returns
returns g c =
    (law_of g.G.Game.step _ c.laws.ensures.log (λ st core. (length (kept core) ≤ open_to_branches st.profile + st.threshold + 2) × (length (kept core) ≤ most_kept st.profile)) few_are_kept).1
