use Rattle.roll_member.proofs.Tied.{own_given}
use Rattle.roll_member.proofs.laws.own_words_are_given.Goals as goal

pub returns : goal.returns
returns c = λ s mesh player word alone fine tied few. own_given s mesh player word alone fine tied few
