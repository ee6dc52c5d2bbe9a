use Rattle.std.proofs.Common.{rules, w32, refl, subst}
use Rattle.std.specs.Prelude.{FitsSigned}
use Rattle.std.proofs.lemmas.Int.{to_z-of_z}
use Rattle.roll_chain.specs.Epochs.{HasGoneOn}
use Rattle.roll_match.specs.Turning.{StaysElsewhere, Turns}
use Rattle.fazgrond_c.proofs.match_turn.begin.Goals as goal

pub returns : goal.returns
returns c =
    let turn = c.turn-polled.result in
    let fits : FitsSigned w32 c.code_of_turn.result = search rules in
    rw to_z-of_z
    (record {
      polled = turn.polled;
      handed = turn.handed;
      last = turn.last;
      stays = turn.stays;
      turns = subst (λ it. Turns (λ s. s.seen) HasGoneOn StaysElsewhere c.args.now c.args.session.now c.turn-polled.new.session it c.turn-polled.new.self
          turn.polled turn.handed turn.last turn.stays) c.give_engine.ensures c.turn-polled.ensures;
      rest = (refl, refl);
      closing_is = c.go_over-has_gone_on.ensures.closing;
      first_is = c.go_over-has_gone_on.ensures.first;
      said_is = λ k. record {
        code = c.code_of_turn.ensures k;
        handed = c.handed_in.ensures k;
        has_gone_on = c.go_over-has_gone_on.ensures.gone k;
      };
    })
