use Rattle.roll_cert.specs.Reading.{IsWithin}
use Rattle.roll_cert.specs.Texts.{named}
use Rattle.roll_cert.proofs.Wrong.{named-lacks, not_read}
use Rattle.roll_cert.proofs.lines.Lines.number.Goals as goal

pub returns-clause-err : goal.returns-clause-err
returns-clause-err c = rw c.ok_or.ensures.value
    (not_read (IsWithin c.args.least c.args.most) (named c.args.name.now) (λ n fits. named-lacks c.args.name.now c.args.least c.args.most n c.requires c.ranges.most.fits fits)
    c.named_number.result c.in_ok-line.line.now c.args.self.now.rest.now c.take.new.self.rest.now c.args.self.now.next c.in_ok-line.ensures.line c.in_ok-line.ensures.rest (λ e. rw e at c.named_number.ensures))
