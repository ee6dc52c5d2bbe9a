use Rattle.roll_mesh.proofs.Shortened.{shortened_is_heard_alike as law}
use Rattle.roll_mesh.proofs.laws.shortened_is_heard_alike.Goals as goal

pub returns : goal.returns
returns c = law
