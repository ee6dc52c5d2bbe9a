use Rattle.std.proofs.Common.{◌∙◌, Some, ap, refl}
use Rattle.std.specs.Option.{option_map}
use Rattle.roll_frame.specs.Faults.{faults, refusal_of}
use Rattle.roll_frame.specs.Settings.{start_tests}
use Rattle.roll_frame.proofs.Faults.{refused_as}
use Rattle.roll_frame.proofs.settings.Settings.refusal.Goals as goal

pub returns-in-Some-clause-refused : goal.returns-in-Some-clause-refused
returns-in-Some-clause-refused c =
    ap Some c.refusal.ensures ∙ ap (option_map refusal_of) c.in-Some.ensures ∙ refused_as (start_tests c.args.self.now) (faults c.args.self.now) refl
