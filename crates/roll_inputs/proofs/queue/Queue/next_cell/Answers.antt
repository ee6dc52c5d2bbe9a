use Rattle.std.proofs.Common.{◌≡◌, ◌∙◌, ap, sym, arith}
use Rattle.std.specs.Prelude.{bit_and}
use Rattle.roll_frame.specs.declared.row.Cell.TheVariants.{Word}
use Rattle.roll_inputs.specs.Queues.{Known}
use Rattle.roll_inputs.proofs.Words.{next_cell}
use Rattle.roll_inputs.proofs.queue.Queue.next_cell.Goals as goal

pub returns-else-frame-told-2 : goal.returns-else-frame-told-2
returns-else-frame-told-2 c = λ player mask there frame same.
    let here : c.self.inside.mask ≡ player.mask = ap (λ (k : Known). k.player.mask) c.self.view_is ∙ sym mask in
    ap (λ m. Word (bit_and c.args.told.now.word m)) here ∙ sym (next_cell c.args.frame c.args.told.now.word player there (omega (arith, frame, c.if-frame-told.false, c.if-frame-told-2.false)))
