-- Commands that are read from a text one by one, and played.
use Rattle.std.proofs.Common.{◌≡◌, ℕ, ◌+◌, ◌≤◌, ◌<◌, ◌++◌, List, [], ◌∷◌, Bool, refl, sym, ap, ◌∙◌, arith, append_assoc, length, length-append, map}
use Rattle.std.specs.Prelude.{if◌then◌else◌}
use Rattle.std.specs.List.{AllByRecursion}
use Rattle.std.proofs.lemmas.List.{append-nil, map-append}
use Rattle.roll_frame.specs.Games.{Game}
use Rattle.roll_frame.specs.declared.settings.Settings.{Settings}
use Rattle.roll_text.specs.Lines.{ended, text_of}
use Rattle.prog_scripts.specs.declared.command.Command.{Command}
use Rattle.prog_scripts.specs.Commands.{IsCommand, line_of}
use Rattle.prog_scripts.specs.Headers.{Setup, header_of}
use Rattle.prog_scripts.specs.Output.{IsOutput, IsOutputAfter, Playing, Texts, after_command, refused_by, refusals_from, written_by, written_from}
use Rattle.prog_scripts.specs.Plays.{AreCommands, IsOutlined, Play}
use Rattle.roll_cli.proofs.Jobs.{jobs_within}
use Rattle.roll_text.proofs.LineTexts.{text_of-next}
use Rattle.prog_scripts.proofs.Outlined.{each_more, line_size, rest_are}

module _ (texts : Texts) (settings : Settings) (game : Game) where
  -- what commands make of a script
  abbrev pub after_all : Playing → List Command → Playing
  after_all playing [] = playing
  after_all playing (command ∷ commands) = after_all (after_command settings game playing command) commands

  after_more : (playing : Playing) (commands : List Command) (command : Command) → after_all playing (commands ++ (command ∷ [])) ≡ after_command settings game (after_all playing commands) command
  after_more playing [] command = refl
  after_more playing (c ∷ commands) command = after_more (after_command settings game playing c) commands command

  written_more : (playing : Playing) (commands : List Command) (command : Command)
      → written_from texts settings game playing (commands ++ (command ∷ [])) ≡ written_from texts settings game playing commands ++ written_by texts settings game (after_all playing commands) command
  written_more playing [] command = append-nil (written_by texts settings game playing command)
  written_more playing (c ∷ commands) command =
      ap (λ t. written_by texts settings game playing c ++ t) (written_more (after_command settings game playing c) commands command)
      ∙ sym (append_assoc (written_by texts settings game playing c) (written_from texts settings game (after_command settings game playing c) commands) (written_by texts settings game (after_all (after_command settings game playing c) commands) command))

  refusals_more : (playing : Playing) (commands : List Command) (command : Command)
      → refusals_from settings game playing (commands ++ (command ∷ [])) ≡ refusals_from settings game playing commands + (if refused_by settings game (after_all playing commands) command then 1 else 0)
  refusals_more playing [] command = omega arith
  refusals_more playing (c ∷ commands) command = let e = refusals_more (after_command settings game playing c) commands command in omega (arith, e)

  -- some commands were read and played, whose lines come first in the text, and the rest is the text of others
  pub record IsPlayedTo (first now : Playing) (before out text rest : List ℕ) (refused : ℕ) : Type 0 where
    pub done : List Command
    pub left : List Command
    pub each : AllByRecursion IsCommand done
    pub whole : text ≡ text_of (map line_of done) ++ rest
    pub are : AreCommands rest left
    pub played : now ≡ after_all first done
    pub written : out ≡ before ++ written_from texts settings game first done
    pub counted : refused ≡ refusals_from settings game first done
    pub few : refused ≤ length done
    pub jobs : length now.jobs ≤ length first.jobs + length done
    pub short : length done + length rest ≤ length text

  pub played_none : (first : Playing) (before text : List ℕ) → (commands : List Command) × AreCommands text commands → IsPlayedTo first first before before text text 0
  played_none first before text readable = record {
    done = [];
    left = readable.0;
    each = tt;
    whole = refl;
    are = readable.1;
    played = refl;
    written = sym (append-nil before);
    counted = refl;
    few = omega arith;
    jobs = omega arith;
    short = omega arith;
  }

  pub played_more : (first old new : Playing) (before out more text rest after : List ℕ) (refused count : ℕ) (command : Command) (is : Bool)
      → (p : IsPlayedTo first old before out text rest refused) → 0 < length rest → IsCommand command → rest ≡ ended (line_of command) ++ after
      → new ≡ after_command settings game old command → more ≡ out ++ written_by texts settings game old command
      → is ≡ refused_by settings game old command → count ≡ refused + (if is then 1 else 0) → count ≤ refused + 1
      → IsPlayedTo first new before more text after count
  played_more first old new before out more text rest after refused count command is p some fits cut n w r m one =
      let left = rest_are rest after p.left command p.are some fits cut in
      let at : old ≡ after_all first p.done = p.played in
      record {
        done = p.done ++ (command ∷ []);
        left = left.0;
        each = each_more p.done command p.each fits;
        whole = text_of-next text rest (line_of command) after (map line_of p.done) p.whole cut ∙ ap (λ t. text_of t ++ after) (sym (map-append line_of p.done (command ∷ [])));
        are = left.1;
        played = n ∙ ap (λ x. after_command settings game x command) at ∙ sym (after_more first p.done command);
        written = w ∙ ap (λ t. t ++ written_by texts settings game old command) p.written
            ∙ append_assoc before (written_from texts settings game first p.done) (written_by texts settings game old command)
            ∙ ap (λ x. before ++ (written_from texts settings game first p.done ++ written_by texts settings game x command)) at
            ∙ ap (λ t. before ++ t) (sym (written_more first p.done command));
        counted = m ∙ ap (λ b. refused + (if b then 1 else 0)) (r ∙ ap (λ x. refused_by settings game x command) at) ∙ ap (λ k. k + (if refused_by settings game (after_all first p.done) command then 1 else 0)) p.counted ∙ sym (refusals_more first p.done command);
        few = omega (arith, one, p.few, length-append p.done (command ∷ []));
        jobs = omega (arith, p.jobs, length-append p.done (command ∷ []), ap (λ (x : Playing). length x.jobs) n, jobs_within settings game old command);
        short = omega (arith, p.short, length-append p.done (command ∷ []), line_size rest after command cut);
      }

  -- all commands were read and played
  pub played_all : (first now : Playing) (before out text rest : List ℕ) (refused : ℕ) → IsPlayedTo first now before out text rest refused → length rest ≡ 0
      → (commands : List Command) × AreCommands text commands × (out ≡ before ++ written_from texts settings game first commands) × (refused ≡ refusals_from settings game first commands)
  played_all first now before out text [] refused p none = (p.done, record { each = p.each; spelled = p.whole ∙ append-nil (text_of (map line_of p.done)) }, p.written, p.counted)
  played_all first now before out text (b ∷ bs) refused p none = absurd (omega (arith, none))

-- what commands write after a script's header is what the script writes
pub output_of_outline : (setup : Setup) (rest text known : List ℕ) (output_of : Play → List ℕ) (refusals_of : Play → ℕ) (written : List ℕ) (refused : ℕ)
    → IsOutlined setup rest text → known ≡ text → IsOutputAfter setup output_of refusals_of rest written refused → IsOutput output_of refusals_of known written refused
output_of_outline setup rest text known output_of refusals_of written refused outlined same after = record {
  play = record { setup = setup; commands = after.commands };
  fits = record { setup = outlined.fits; commands = after.are.each };
  spelled = same ∙ outlined.whole ∙ ap (λ t. ended (header_of setup) ++ t) after.are.spelled;
  output_is = after.output_is;
  refused_is = after.refused_is;
}
