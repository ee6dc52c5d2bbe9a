use Rattle.std.proofs.Common.{ap, subst, ◌∙◌, arith}
use Rattle.roll_wire.specs.Reading.{Gives}
use Rattle.roll_state.specs.Reading.{all_of}
use Rattle.roll_state.specs.Spelling.{message}
use Rattle.roll_state.proofs.Messages.{is_found, all_again}
use Rattle.roll_state.proofs.reading.decode.Goals as goal

pub returns-clause-found : goal.returns-clause-found
returns-clause-found c = is_found c.args.bytes.now c.all.result
    (λ i. omega (arith, c.type_inv.bytes i)) c.all.ensures

pub returns-clause-only : goal.returns-clause-only
returns-clause-only c = λ m fits e. subst (λ f. Gives message c.all.result f)
    (ap all_of e ∙ all_again m fits) c.all.ensures
