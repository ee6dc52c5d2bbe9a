use Rattle.std.proofs.Common.{refl}
use Rattle.std.proofs.lemmas.Option.{IfSome_then}
use Rattle.roll_live.proofs.Ending.{is_fault}
use Rattle.roll_live.proofs.program.run.Goals as goal

pub returns-in-Err-clause-ends : goal.returns-in-Err-clause-ends
returns-in-Err-clause-ends g c =
    rw c.from.ensures
    (IfSome_then (g.R.Read.remaining c.args.reader.now)
    (is_fault c.args.asked.game (g.R.Read.remaining c.args.reader.now) (g.W.Write.contents c.args.writer.now) (g.W.Write.contents c.perform.new.writer) c.perform.result c.in-Err.fault c.in-Err.is c.perform.ensures.plays)
    (λ text fault. (refl, fault)))
