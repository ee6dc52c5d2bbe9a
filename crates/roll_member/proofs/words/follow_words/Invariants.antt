use Rattle.std.proofs.Common.{◌≡◌, take}
use Rattle.roll_member.specs.Taking.{IsTaken}
use Rattle.roll_member.proofs.words.follow_words.Given as goal

abbrev pub invariant-loop-word : goal.invariant-loop-word
invariant-loop-word g l = record {
  count : l.count ≡ l.word-index;
  taken : IsTaken g.S.Networked.step (g.S.Networked.seen l.fn.session) (g.S.Networked.seen l.session)
      l.player l.first (take l.word-index l.words);
  keeps : g.S.Networked.keeps l.fn.session l.session;
}
