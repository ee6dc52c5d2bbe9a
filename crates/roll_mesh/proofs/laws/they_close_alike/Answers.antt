use Rattle.roll_mesh.proofs.Seams.{they_close_alike}
use Rattle.roll_mesh.proofs.laws.they_close_alike.Goals as goal

pub returns : goal.returns
returns c = they_close_alike
