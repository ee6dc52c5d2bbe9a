use Rattle.std.proofs.Common.{◌≡◌, ◌+◌, ◌≤◌, ◌++◌, drop, length}
use Rattle.roll_wire.specs.declared.limits.TheConstants.{WORD_LIMIT}
use Rattle.roll_member.specs.Telling.{words_told}
use Rattle.roll_wire.specs.Spelling.{count_of}
use Rattle.roll_member.proofs.telling.words_of.Given as goal

abbrev pub invariant-loop-place : goal.invariant-loop-place
invariant-loop-place g l = record {
  so_far : l.words.items ++ words_told (g.S.Networked.seen l.session) (drop l.place l.packet.offers) l.place
      ≡ words_told (g.S.Networked.seen l.session) l.packet.offers 0;
  room : length l.words.items + count_of (drop l.place l.packet.offers) ≤ WORD_LIMIT;
}
