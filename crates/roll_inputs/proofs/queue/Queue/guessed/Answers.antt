use Rattle.std.proofs.Common.{◌≡◌, ◌+◌, ◌≤◌, ◌∙◌, ap, sym, get_or, length, ◌-◌, arith}
use Rattle.std.specs.Prelude.{bit_and}
use Rattle.roll_frame.specs.declared.row.Cell.TheVariants.{Word}
use Rattle.roll_inputs.specs.Queues.{Known}
use Rattle.roll_inputs.proofs.Words.{guessed_past}
use Rattle.roll_inputs.proofs.queue.Queue.guessed.Goals as goal

pub returns-else-place-words : goal.returns-else-place-words
returns-else-place-words c =
    let words = c.args.words.now in
    let player = c.args.self.now.player in
    let count : c.self.inside.count ≡ length player.words = c.self.invariant.count ∙ ap (λ (k : Known). length k.player.words) c.self.view_is in
    let mask : c.self.inside.mask ≡ player.mask = ap (λ (k : Known). k.player.mask) c.self.view_is in
    let past : length player.words + length words ≤ c.args.frame = omega (arith, c.if-place-words.false, c.if-frame-self.false, count) in
    ap (λ m. Word (bit_and (get_or words (length words - 1) 0) m)) mask ∙ sym (guessed_past c.args.frame player words c.requires.there c.requires.some past)
