use Rattle.roll_mesh.proofs.Beginnings.{begins_the_owners, they_have_what_was_given}
use Rattle.roll_mesh.proofs.laws.they_have_what_was_given.Goals as goal

pub returns-clause-owners : goal.returns-clause-owners
returns-clause-owners c = begins_the_owners

pub returns-clause-given : goal.returns-clause-given
returns-clause-given c = they_have_what_was_given
