use Rattle.roll_text.proofs.Headed.{no_first, no_head}
use Rattle.prog_scripts.proofs.Unplayed.{scripts}
use Rattle.prog_scripts.proofs.script.split_header.Goals as goal

pub returns-in_default-clause-unreadable : goal.returns-in_default-clause-unreadable
returns-in_default-clause-unreadable c = λ line e. no_first scripts c.args.text.now line (cc) c.in_default.ensures

pub returns-in_default-2-clause-unreadable : goal.returns-in_default-2-clause-unreadable
returns-in_default-2-clause-unreadable c = λ line e.
    let none = rw c.in_default-2.is at c.in_ok-header.ensures in
    no_head scripts c.args.text.now c.in-Some.first.now c.in-Some.rest.now line (cc) c.in-Some.ensures none
