use Rattle.std.proofs.Common.{◌≡◌, ◌∙◌, ℕ, List, length, ap, arith, sym, length-append}
use Rattle.roll_frame.specs.declared.limits.TheConstants.{QUEUE_LIMIT}
use Rattle.circular_buffer.specs.Buffer.{Buffer}
use Rattle.roll_inputs.specs.Queues.{Known}
use Rattle.roll_inputs.proofs.Words.{keep_last-push, last_word-push}
use Rattle.roll_inputs.proofs.queue.Queue.hear.Goals as goal

pub invariant_of-self : goal.invariant_of-self
invariant_of-self c =
    let q = c.self.inside in
    let said : q.history.words ≡ c.args.self.now.player.words = ap (λ (k : Known). k.player.words) c.self.view_is in
    let from : q.from ≡ c.args.self.now.from = ap (λ (k : Known). k.from) c.self.view_is in
    let count : length q.history.words ≡ length c.args.self.now.player.words = ap (λ (ws : List ℕ). length ws) said in
    let whole = c.and-self-inside.ensures in
    record {
      room = ap (λ (b : Buffer ℕ). b.capacity) c.push_back.ensures.items ∙ c.self.invariant.room;
      words = ap (λ (b : Buffer ℕ). b.items) c.push_back.ensures.items ∙ (rw (c.self.invariant.room, whole) (keep_last-push q.ring.items q.history.words q.from QUEUE_LIMIT c.args.word c.self.invariant.words (omega (arith, c.requires.ahead)) (omega (arith, c.requires.room))));
      count = rw whole (omega (arith, c.self.invariant.count, length-append {A = ℕ}));
      last = rw whole (sym (last_word-push q.before q.history.words c.args.word));
    }
