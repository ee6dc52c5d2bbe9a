use Rattle.std.proofs.Common.{List, ℕ, ◌++◌, ◌∙◌, ap}
use Rattle.roll_contact.specs.Seals.{sealed}
use Rattle.roll_carry.specs.Spelling.{head, said_by}
use Rattle.roll_carry.specs.declared.limits.TheConstants.{CARRIED}
use Rattle.roll_carry.proofs.writing.say_parcels.Goals as goal

pub returns-clause-said : goal.returns-clause-said
unfolding said_by
returns-clause-said c = λ parcels e.
    let begun : List ℕ = head CARRIED
    (record { match_number = c.args.key.now.number; sender = c.args.sender }) in
    c.seal.ensures.sealed
    ∙ ap (sealed c.args.key.now) (c.put.ensures.items
    ∙ ap (λ (front : List ℕ). front ++ c.args.area.now) c.begin-bytes.ensures.items
    ∙ ap (λ (area : List ℕ). begun ++ area) e)
