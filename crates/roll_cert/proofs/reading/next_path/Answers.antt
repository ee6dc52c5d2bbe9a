use Rattle.roll_cert.specs.Texts.{IsPathOf, path_line}
use Rattle.roll_cert.proofs.Spelled.{path-lacks}
use Rattle.roll_cert.proofs.Wrong.{not_read_or}
use Rattle.roll_cert.proofs.reading.next_path.Goals as goal

pub returns-clause-err : goal.returns-clause-err
returns-clause-err c = rw c.ok_or.ensures.value
    (not_read_or (IsPathOf c.args.players c.args.base) path_line (path-lacks c.args.players c.args.base) c.in_ok-read_path.field-0 c.in_ok-line.line.now c.args.lines.now.rest.now c.take.new.self.rest.now c.args.lines.now.next c.in_ok-line.ensures.line c.in_ok-line.ensures.rest
    (λ e. rw e at c.in_ok-read_path.ensures))
