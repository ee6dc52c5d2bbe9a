use Rattle.roll_laws.proofs.Bounds.{frames_end}
use Rattle.roll_laws.proofs.frames_end.Goals as goal

pub returns : goal.returns
returns c = frames_end
