use Rattle.roll_peer.proofs.OneMark.{they_know_one_mark, what_was_put_is_known, who_has_the_word_has_its_mark as law}
use Rattle.roll_peer.proofs.laws.who_has_the_word_has_its_mark.Goals as goal

pub returns-clause-owner : goal.returns-clause-owner
returns-clause-owner c = law

pub returns-clause-any : goal.returns-clause-any
returns-clause-any c = they_know_one_mark

pub returns-clause-put : goal.returns-clause-put
returns-clause-put c = what_was_put_is_known
