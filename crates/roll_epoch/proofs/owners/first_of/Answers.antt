use Rattle.std.proofs.Common.{◌≡◌, ◌*◌, ◌/◌, ap, sym, ◌∙◌}
use Rattle.std.proofs.Math.Nat.{mul-zero}
use Rattle.roll_mesh.specs.Groups.{first_of}
use Rattle.roll_epoch.proofs.owners.first_of.Goals as goal

pub returns-then-words-eq0-clause-first : goal.returns-then-words-eq0-clause-first
unfolding first_of
returns-then-words-eq0-clause-first c =
    let none : c.args.words ≡ 0 = sym c.from-words.ensures ∙ c.if-words-eq0.true in
    sym (ap (λ w. c.args.player / w * w) none ∙ mul-zero (c.args.player / 0))

pub returns-else-words-eq0-clause-first : goal.returns-else-words-eq0-clause-first
unfolding first_of
returns-else-words-eq0-clause-first c = ap (λ w. c.args.player / w * w) c.from-words.ensures
