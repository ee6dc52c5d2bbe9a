use Rattle.std.proofs.Common.{ap, ◌∙◌}
use Rattle.clap.specs.Matches.{found_of}
use Rattle.prog_command_line.specs.Requests.{asked_in, picture_in}
use Rattle.prog_command_line.proofs.AskedLemmas.{asked_of_found, met, not_met, picture_of_found}
use Rattle.prog_command_line.proofs.reading.line_of.Goals as goal

pub returns-in-Some-clause-request : goal.returns-in-Some-clause-request
returns-in-Some-clause-request c =
    let name = c.in-Some.name.now in
    c.request_of.ensures.asked ∙ asked_of_found name (found_of c.in-Some.found.now)
    ∙ ap asked_in (met c.args.matches.now name _ c.in-Some.ensures.name c.in-Some.ensures.rows)

pub returns-in-Some-clause-picture : goal.returns-in-Some-clause-picture
returns-in-Some-clause-picture c =
    let name = c.in-Some.name.now in
    c.picture_of.ensures ∙ picture_of_found name (found_of c.in-Some.found.now)
    ∙ ap picture_in (met c.args.matches.now name _ c.in-Some.ensures.name c.in-Some.ensures.rows)

pub returns-in-None-clause-request : goal.returns-in-None-clause-request
returns-in-None-clause-request c = ap asked_in (not_met c.args.matches.now c.in-None.ensures.rows)

pub returns-in-None-clause-picture : goal.returns-in-None-clause-picture
returns-in-None-clause-picture c = ap picture_in (not_met c.args.matches.now c.in-None.ensures.rows)
