use Rattle.std.proofs.Common.{◌∙◌, ap}
use Rattle.rollduel.specs.Requests.{asked_as, picture_as}
use Rattle.rollduel.proofs.command_line.read.Goals as goal

pub returns-clause-request : goal.returns-clause-request
returns-clause-request c = c.request_of.ensures.asked ∙ ap asked_as c.in_ok-line.ensures.request

pub returns-clause-picture : goal.returns-clause-picture
returns-clause-picture c = c.picture_of.ensures ∙ ap picture_as c.in_ok-line.ensures.picture

pub returns-clause-workers : goal.returns-clause-workers
returns-clause-workers c = c.request_of.ensures.workers c.in_ok-line.ensures.workers
