use Rattle.std.proofs.Common.{List, ℕ, ◌++◌, ◌∙◌, ap}
use Rattle.roll_contact.specs.Seals.{sealed}
use Rattle.roll_carry.specs.Spelling.{map_text, said_by}
use Rattle.roll_carry.proofs.writing.say_map.Goals as goal

pub returns-clause-said : goal.returns-clause-said
unfolding said_by
returns-clause-said c =
    c.seal.ensures.sealed
    ∙ ap (sealed c.args.key.now) (c.put_map.ensures.items
    ∙ ap (λ (front : List ℕ). front ++ map_text c.args.map.now) c.begin-bytes.ensures.items)
