use Rattle.std.proofs.Common.{rules, append_assoc}
use Rattle.roll_duel.specs.Bytes.{bytes_of}
use Rattle.roll_duel.proofs.state.State.bytes.Goals as goal

pub returns : goal.returns
unfolding bytes_of
returns c = search (rules, append_assoc)
