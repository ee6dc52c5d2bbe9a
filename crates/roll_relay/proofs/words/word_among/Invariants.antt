use Rattle.std.proofs.Common.{◌≡◌, ◌≤◌, length, take}
use Rattle.roll_relay.specs.Told.{words_among}
use Rattle.roll_relay.proofs.words.word_among.Given as goal

abbrev pub invariant-loop-word : goal.invariant-loop-word
invariant-loop-word l =
    (l.before ≡ length (words_among (take l.word-index l.words) l.player)) × (l.before ≤ l.place)
