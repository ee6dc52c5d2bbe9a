use Rattle.roll_cert.specs.Texts.{IsEntry, entry_line}
use Rattle.roll_cert.proofs.Spelled.{entry-lacks}
use Rattle.roll_cert.proofs.Wrong.{not_read_or}
use Rattle.roll_cert.proofs.reading.next_entry.Goals as goal

pub returns-clause-err : goal.returns-clause-err
returns-clause-err c = rw c.ok_or.ensures.value
    (not_read_or IsEntry entry_line entry-lacks c.in_ok-read_entry.field-0 c.in_ok-line.line.now c.args.lines.now.rest.now c.take.new.self.rest.now c.args.lines.now.next c.in_ok-line.ensures.line c.in_ok-line.ensures.rest
    (λ e. rw e at c.in_ok-read_entry.ensures))
