use Rattle.roll_mesh.proofs.Beginnings.{owners_have_what_they_gave}
use Rattle.roll_mesh.proofs.laws.owners_have_what_they_gave.Goals as goal

pub returns : goal.returns
returns c = owners_have_what_they_gave
