use Rattle.roll_match.proofs.InTime.{no_input_waits_longer}
use Rattle.roll_match.proofs.laws.no_input_waits_longer.Goals as goal

pub returns : goal.returns
returns g c =
    no_input_waits_longer g.S.Networked.step g.S.Past.Networked.step g.S.Networked.seen g.S.Past.Networked.seen g.S.Lasting.has_gone_on
    g.S.Lasting.has_not_gone_on
