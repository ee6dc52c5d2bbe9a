-- The command of the program, as its parser sees it.
use Rattle.std.specs.Prelude.{◌≡◌, ◌^◌, ◌-◌, ℕ, List, [], ◌∷◌, Some, codes, map, true}
use Rattle.std.specs.Borrow.{Bor}
use Rattle.clap.specs.Simple.{App, new_app, new_rule, on_top, with_rule, with_subcommand}
use Rattle.clap.specs.Walk.{Rule, Text, texts}
use Rattle.clap.specs.declared.builder.action.ArgAction.TheVariants.{SetTrue}
use Rattle.clap.specs.declared.builder.value_parser.ValueParser.TheVariants as parser
use Rattle.prog_command_line.specs.declared.commands.Argument.{Argument}
use Rattle.prog_command_line.specs.declared.commands.Argument.TheVariants as argument

-- the texts that an option takes, where they stand in memory
abbrev pub Choices : Type 0
Choices = Bor (List (Bor Text))

abbrev pub the_games : List Text
the_games = codes "tally" ∷ codes "duel" ∷ []

abbrev pub AreGames : Choices → Type 0
AreGames games = texts games.now ≡ the_games

-- FILE
abbrev pub file_rule : Rule
file_rule = record (new_rule (codes "FILE")) { required = true }

-- --game GAME
abbrev pub game_rule : Choices → Rule
game_rule games = record (new_rule (codes "game")) {
  long = Some (codes "game");
  value_names = 1;
  defaults = codes "tally" ∷ [];
  parser = Some (parser.Names games);
}

-- an option that takes a number from `least` to `most`
abbrev pub number_rule : Text → Text → ℕ → ℕ → Rule
number_rule name default least most = record (new_rule name) {
  long = Some name;
  value_names = 1;
  defaults = default ∷ [];
  parser = Some (parser.Unsigned least most);
}

-- --picture FILE
abbrev pub picture_rule : Rule
picture_rule = record (new_rule (codes "picture")) { long = Some (codes "picture"); value_names = 1 }

-- an option that takes the number of a frame
abbrev pub frame_rule : Text → Rule
frame_rule name = record (new_rule name) {
  long = Some name;
  value_names = 1;
  parser = Some (parser.Unsigned 0 (2 ^ 32 - 1));
}

-- --explain
abbrev pub explain_rule : Rule
explain_rule = record (new_rule (codes "explain")) { long = Some (codes "explain"); action = Some SetTrue }

-- an argument, as the parser has it
abbrev pub rule_for : Argument → Rule
rule_for (argument.File help) = file_rule
rule_for (argument.Game games) = game_rule games
rule_for (argument.Number name value default least most help) = number_rule name.now default.now least most
rule_for argument.Picture = picture_rule
rule_for (argument.Frame name help) = frame_rule name.now
rule_for argument.Explain = explain_rule

-- a command with these arguments
abbrev pub with_rules : App → List Rule → App
with_rules app [] = app
with_rules app (rule ∷ rules) = with_rules (with_rule app rule) rules

abbrev pub play_app : Choices → App
play_app games = with_rules (new_app (codes "play")) (
    file_rule ∷ game_rule games ∷ explain_rule ∷ picture_rule ∷
    frame_rule (codes "from") ∷ frame_rule (codes "to") ∷ frame_rule (codes "tree") ∷ [])

abbrev pub live_app : Choices → App
live_app games = with_rules (new_app (codes "live")) (file_rule ∷ game_rule games ∷ number_rule (codes "workers") (codes "1") 1 4 ∷ [])

abbrev pub synctest_app : Choices → App
synctest_app games = with_rules (new_app (codes "synctest")) (file_rule ∷ game_rule games ∷ number_rule (codes "frames") (codes "1") 1 8 ∷ explain_rule ∷ [])

abbrev pub certify_app : App
certify_app = with_rules (new_app (codes "certify")) (file_rule ∷ explain_rule ∷ [])

-- a command with --version
abbrev pub with_version : App → App
with_version = on_top (λ shape. record shape { has_version = true })

-- the program, with the texts that its options take
abbrev pub app_with : Choices → App
app_with games =
    with_subcommand (with_subcommand (with_subcommand (with_subcommand (with_version (new_app (codes "rollduel")))
    (play_app games).top) (live_app games).top) (synctest_app games).top) certify_app.top

-- texts at some place: where they stand changes nothing
abbrev pub placed : List Text → Choices
placed names = record { ref_ptr = (0, 0); now = map (λ name. record { ref_ptr = (0, 0); now = name }) names }

abbrev pub rollduel_app : App
rollduel_app = app_with (placed the_games)
