use Rattle.std.proofs.Common.{◌≡◌, ◌++◌, take, vec_capacity}
use Rattle.roll_inputs.proofs.record.append_words.Given as goal

abbrev pub invariant-loop-word : goal.invariant-loop-word
invariant-loop-word l = record {
  items : l.words.items ≡ l.fn.words.items ++ take l.word-index l.more;
  capacity : vec_capacity l.words ≡ vec_capacity l.fn.words;
}
