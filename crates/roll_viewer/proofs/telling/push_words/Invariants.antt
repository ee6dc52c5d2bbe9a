use Rattle.std.proofs.Common.{◌≡◌, ◌-◌, ◌≤◌, ◌++◌, drop, max, take}
use Rattle.roll_session.specs.Headline.{words_of}
use Rattle.roll_viewer.proofs.telling.push_words.Given as goal

abbrev pub invariant-loop-frame : goal.invariant-loop-frame
invariant-loop-frame g l = record {
  so_far : l.words.items
      ≡ l.fn.words.items
      ++ take (l.frame - l.fn.span.first) (drop l.fn.span.first (words_of (g.S.Networked.seen l.session) l.player));
  within : l.frame ≤ max l.fn.span.first l.fn.span.end;
}
