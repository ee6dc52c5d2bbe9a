use Rattle.std.proofs.Common.{arith}
use Rattle.roll_cert.specs.Texts.{IsRowOf, row_line}
use Rattle.roll_cert.proofs.Spelled.{row-lacks}
use Rattle.roll_cert.proofs.Wrong.{not_read_or}
use Rattle.roll_cert.proofs.reading.next_row.Goals as goal

pub returns-clause-err : goal.returns-clause-err
returns-clause-err c = rw c.ok_or.ensures.value
    (not_read_or (IsRowOf c.args.players) row_line (row-lacks 10 c.args.players (omega arith)) c.in_ok-read_row.field-0 c.in_ok-line.line.now c.args.lines.now.rest.now c.take.new.self.rest.now c.args.lines.now.next c.in_ok-line.ensures.line c.in_ok-line.ensures.rest
    (λ e. rw e at c.in_ok-read_row.ensures))
