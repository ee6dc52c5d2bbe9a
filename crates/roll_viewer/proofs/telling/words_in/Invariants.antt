use Rattle.std.proofs.Common.{◌≡◌, ◌+◌, ◌≤◌, ◌++◌, drop, length}
use Rattle.roll_wire.specs.Spelling.{count_of}
use Rattle.roll_wire.specs.declared.limits.TheConstants.{WORD_LIMIT}
use Rattle.roll_viewer.specs.Telling.{words_in}
use Rattle.roll_viewer.proofs.telling.words_in.Given as goal

abbrev pub invariant-loop-place : goal.invariant-loop-place
invariant-loop-place g l = record {
  so_far : l.words.items ++ words_in (drop l.place (g.S.Networked.seen l.session).core.players) (drop l.place l.spans)
      ≡ words_in (g.S.Networked.seen l.session).core.players l.spans;
  room : length l.words.items + count_of (drop l.place l.spans) ≤ WORD_LIMIT;
}
