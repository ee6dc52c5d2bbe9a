use Rattle.std.proofs.Common.{◌≡◌}
use Rattle.fazgrond_c.specs.Playing.{own_before}
use Rattle.fazgrond_c.proofs.playing.own_words.Given as goal

abbrev pub invariant-loop-before : goal.invariant-loop-before
invariant-loop-before l = l.own ≡ own_before l.owners l.me l.before
