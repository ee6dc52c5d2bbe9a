use Rattle.std.proofs.Common.{◌∙◌, ap}
use Rattle.roll_frame.specs.Events.{replay}
use Rattle.roll_inputs.specs.Boards.{Inputs}
use Rattle.roll_session.specs.Calls.{entry_of, judged}
use Rattle.roll_session.specs.Saves.{refusal_in, repeats}
use Rattle.roll_session.proofs.Answering.{judged_in}
use Rattle.roll_session.proofs.gameless.Core.judge.Goals as goal

pub returns : goal.returns
returns g c =
    rw (← c.self.view_is)
    (c.judge.ensures ∙ ap (λ (i : Inputs). judged (repeats i (entry_of c.args.call)) (refusal_in i (entry_of c.args.call))) c.self.invariant.0.kept.inputs ∙ judged_in c.self.inside.settings _ (replay c.self.inside.settings c.self.inside.log.entries) c.args.call)
