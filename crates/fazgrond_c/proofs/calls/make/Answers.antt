use Rattle.std.proofs.Common.{inr, refl, rules}
use Rattle.fazgrond_c.proofs.calls.make.Goals as goal

pub returns-in-Err-clause-refused : goal.returns-in-Err-clause-refused
returns-in-Err-clause-refused c =
    inr (c.if-is_pending.ensures.goes refl, (c.in-Err.why, search (rules, c.code.ensures, c.refusal.ensures), c.in-Err.ensures.declined))
