use Rattle.roll_requests.proofs.Enough.{suffice, suffice_always}
use Rattle.roll_requests.proofs.elsewhere.Elsewhere.slots_suffice.Goals as goal

pub returns-clause-alone : goal.returns-clause-alone
returns-clause-alone c = λ none enough call short.
    let log = rw c.core.ensures.seen at c.laws.ensures.log in
    let kept = rw (c.core.ensures.seen, c.core.ensures.saves) at c.laws.ensures.kept in
    suffice c.args.self.now call log kept none enough short

pub returns-clause-guessing : goal.returns-clause-guessing
returns-clause-guessing c = λ enough call short.
    let log = rw c.core.ensures.seen at c.laws.ensures.log in
    let kept = rw (c.core.ensures.seen, c.core.ensures.saves) at c.laws.ensures.kept in
    suffice_always c.args.self.now call log kept enough short
