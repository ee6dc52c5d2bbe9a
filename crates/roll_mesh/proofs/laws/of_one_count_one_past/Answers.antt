use Rattle.roll_mesh.proofs.Seams.{of_one_count_one_past}
use Rattle.roll_mesh.proofs.laws.of_one_count_one_past.Goals as goal

pub returns : goal.returns
returns c = of_one_count_one_past
