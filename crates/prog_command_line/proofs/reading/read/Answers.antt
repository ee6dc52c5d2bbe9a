use Rattle.std.proofs.Common.{ap, map, string_bytes, sym, ◌∙◌}
use Rattle.clap.proofs.FaultLemmas.{failed_up}
use Rattle.clap.proofs.TakesLemmas.{passed_up}
use Rattle.clap.specs.Faults.{fault_of, is_simple_and_free}
use Rattle.clap.specs.Simple.{is_simple, subcommand_of}
use Rattle.clap.specs.Takes.{takes}
use Rattle.prog_command_line.specs.Requests.{asked_in, picture_in}
use Rattle.prog_command_line.proofs.FaultPlaces.{fault_same}
use Rattle.prog_command_line.proofs.Places.{subcommand_same}
use Rattle.prog_command_line.proofs.TakenPlaces.{takes_same}
use Rattle.prog_command_line.proofs.reading.read.Goals as goal

pub returns-in_err-matches-clause-taken : goal.returns-in_err-matches-clause-taken
returns-in_err-matches-clause-taken c =
    let words = map string_bytes c.args.words.now in
    let same = ap (λ a. takes a words) c.in_ok-command.ensures ∙ takes_same c.games.result c.games.ensures words in
    passed_up c.from_residual-in_err-matches.result c.in_err-matches.field-0.0 _ c.from_residual-in_err-matches.ensures.1 (λ taken. c.in_err-matches.ensures.passes (same ∙ taken))

pub returns-in_err-matches-clause-kinds : goal.returns-in_err-matches-clause-kinds
returns-in_err-matches-clause-kinds c =
    let words = map string_bytes c.args.words.now in
    let same = ap (λ a. fault_of a words) c.in_ok-command.ensures ∙ fault_same c.games.result c.games.ensures words in
    failed_up c.from_residual-in_err-matches.result c.in_err-matches.field-0.0 _ _ c.from_residual-in_err-matches.ensures.1
    (rw (← same) (c.in_err-matches.ensures.kinds (ap is_simple_and_free c.in_ok-command.ensures)))

pub returns-clause-request : goal.returns-clause-request
returns-clause-request c =
    let words = map string_bytes c.args.words.now in
    let same = (c.in_ok-matches.ensures.matches (ap is_simple c.in_ok-command.ensures)).1 ∙ ap (λ a. subcommand_of a words) c.in_ok-command.ensures
    ∙ subcommand_same c.games.result c.games.ensures words in
    c.line_of.ensures.request ∙ ap asked_in same

pub returns-clause-picture : goal.returns-clause-picture
returns-clause-picture c =
    let words = map string_bytes c.args.words.now in
    let same = (c.in_ok-matches.ensures.matches (ap is_simple c.in_ok-command.ensures)).1 ∙ ap (λ a. subcommand_of a words) c.in_ok-command.ensures
    ∙ subcommand_same c.games.result c.games.ensures words in
    c.line_of.ensures.picture ∙ ap picture_in same

pub returns-clause-kinds : goal.returns-clause-kinds
returns-clause-kinds c =
    let words = map string_bytes c.args.words.now in
    sym (ap (λ a. fault_of a words) c.in_ok-command.ensures ∙ fault_same c.games.result c.games.ensures words)
    ∙ c.in_ok-matches.ensures.kinds (ap is_simple_and_free c.in_ok-command.ensures)
