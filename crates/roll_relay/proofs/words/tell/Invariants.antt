use Rattle.std.proofs.Common.{◌≡◌, take}
use Rattle.roll_relay.specs.Told.{told}
use Rattle.roll_relay.proofs.words.tell.Given as goal

abbrev pub invariant-loop-word : goal.invariant-loop-word
invariant-loop-word g l = record {
  told : g.S.Networked.seen l.session ≡ told (g.S.Networked.seen l.fn.session) (take l.word-index l.words);
  keeps : g.S.Networked.keeps l.fn.session l.session;
}
