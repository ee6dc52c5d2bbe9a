use Rattle.std.proofs.Common.{◌≡◌, ◌-◌, ◌++◌, drop, take}
use Rattle.roll_session.specs.Headline.{words_of}
use Rattle.roll_member.proofs.telling.push_words.Given as goal

abbrev pub invariant-loop-frame : goal.invariant-loop-frame
invariant-loop-frame g l =
    l.words.items
    ≡ l.fn.words.items
    ++ take (l.frame - l.fn.offer.first) (drop l.fn.offer.first (words_of (g.S.Networked.seen l.session) l.player))
