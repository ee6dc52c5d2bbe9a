use Rattle.roll_mesh.proofs.Beginnings.{counts_are_lengths}
use Rattle.roll_mesh.proofs.Holders.{counts_are_played}
use Rattle.roll_mesh.proofs.laws.counts_are_of_words.Goals as goal

pub returns-clause-played : goal.returns-clause-played
returns-clause-played c = counts_are_played

pub returns-clause-lengths : goal.returns-clause-lengths
returns-clause-lengths c = counts_are_lengths
