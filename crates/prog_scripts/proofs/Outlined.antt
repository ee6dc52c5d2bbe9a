-- Commands that are read from a text one by one.
use Rattle.std.proofs.Common.{◌≡◌, ℕ, ◌+◌, ◌≤◌, ◌<◌, ◌++◌, List, [], ◌∷◌, Bool, None, refl, sym, ap, ◌∙◌, arith, append_assoc, length, length-append, map}
use Rattle.std.specs.Prelude.{if◌then◌else◌}
use Rattle.std.specs.List.{AllByRecursion}
use Rattle.std.proofs.lemmas.List.{append-nil, map-append}
use Rattle.roll_text.specs.Lines.{ended, text_of}
use Rattle.roll_text.specs.Text.{IsUnreadableAt}
use Rattle.roll_text.proofs.Headed.{no_item_next}
use Rattle.roll_text.proofs.LineTexts.{first_line-unique, text_of-next}
use Rattle.prog_scripts.specs.declared.command.Command.{Command}
use Rattle.prog_scripts.specs.Commands.{IsCommand, line_of}
use Rattle.prog_scripts.specs.Headers.{Setup, IsSetup, header_of}
use Rattle.prog_scripts.specs.Plays.{AreCommands, CutsCommand, IsOutlined, IsScript, Play}
use Rattle.prog_scripts.proofs.Spelled.{line-lacks}
use Rattle.prog_scripts.proofs.Unplayed.{scripts}

-- where commands' lines are left, the first one's line comes first
pub one_first : (text : List ℕ) (commands : List Command) → AreCommands text commands → 0 < length text
    → (command : Command) × (more : List Command) × IsCommand command × AllByRecursion IsCommand more × (text ≡ ended (line_of command) ++ text_of (map line_of more))
one_first text [] are some = absurd (omega (arith, some, ap length are.spelled))
one_first text (command ∷ more) are some = (command, more, are.each.0, are.each.1, are.spelled)

pub not_none_first : (text : List ℕ) (commands : List Command) → AreCommands text commands → 0 < length text → CutsCommand text None → ⊥
not_none_first text commands are some none = let first = one_first text commands are some in none first.0 (text_of (map line_of first.1)) first.2 first.4

-- what follows a command's line are commands' lines
pub rest_are : (text after : List ℕ) (commands : List Command) (command : Command) → AreCommands text commands → 0 < length text → IsCommand command → text ≡ ended (line_of command) ++ after
    → (more : List Command) × AreCommands after more
rest_are text after commands command are some fits cut =
    let first = one_first text commands are some in
    let same = first_line-unique (line_of command) (line_of first.0) after (text_of (map line_of first.1)) (line-lacks command fits) (line-lacks first.0 first.2) (sym cut ∙ first.4) in
    (first.1, record { each = first.3; spelled = same.1 })

-- a line has at least its end
pub line_size : (text after : List ℕ) (command : Command) → text ≡ ended (line_of command) ++ after → length after + 1 ≤ length text
line_size text after command cut = omega (arith, ap length cut, length-append (ended (line_of command)) after, length-append (line_of command) (10 ∷ []))

pub shorter : (first rest text : List ℕ) → text ≡ first ++ rest → length rest ≤ length text
shorter first rest text e = omega (arith, ap length e, length-append first rest)

-- commands with one more
pub each_more : (commands : List Command) (command : Command) → AllByRecursion IsCommand commands → IsCommand command → AllByRecursion IsCommand (commands ++ (command ∷ []))
each_more [] command each fits = (fits, tt)
each_more (c ∷ commands) command each fits = (each.0, each_more commands command each.1 fits)

-- a script's header and some commands were read; the number of the next line is given
pub record IsReadTo (setup : Setup) (text rest : List ℕ) (line : ℕ) : Type 0 where
  pub done : List Command
  pub each : AllByRecursion IsCommand done
  pub whole : text ≡ text_of (map line_of done) ++ rest
  pub count : line ≡ length done + 2
  pub short : length done + length rest ≤ length text

pub read_none : (setup : Setup) (text : List ℕ) → IsReadTo setup text text 2
read_none setup text = record { done = []; each = tt; whole = refl; count = omega arith; short = omega arith }

pub read_more : (setup : Setup) (text rest after : List ℕ) (line : ℕ) (command : Command) → IsReadTo setup text rest line → IsCommand command → rest ≡ ended (line_of command) ++ after → IsReadTo setup text after (line + 1)
read_more setup text rest after line command p fits cut = record {
  done = p.done ++ (command ∷ []);
  each = each_more p.done command p.each fits;
  whole = text_of-next text rest (line_of command) after (map line_of p.done) p.whole cut ∙ ap (λ t. text_of t ++ after) (sym (map-append line_of p.done (command ∷ [])));
  count = omega (arith, p.count, length-append p.done (command ∷ []));
  short = omega (arith, p.short, length-append p.done (command ∷ []), line_size rest after command cut);
}

pub read_all : (setup : Setup) (text rest : List ℕ) (line : ℕ) → IsReadTo setup text rest line → length rest ≡ 0 → (commands : List Command) × AreCommands text commands
read_all setup text [] line p none = (p.done, record { each = p.each; spelled = p.whole ∙ append-nil (text_of (map line_of p.done)) })
read_all setup text (b ∷ bs) line p none = absurd (omega (arith, none))

-- no command's line comes next
pub unreadable_next : (setup : Setup) (text commands rest : List ℕ) (line : ℕ) → IsSetup setup → text ≡ ended (header_of setup) ++ commands → IsReadTo setup commands rest line → 0 < length rest → CutsCommand rest None
    → IsUnreadableAt line IsScript text
unreadable_next setup text commands rest line fits whole p some none =
    no_item_next scripts setup p.done text rest line fits p.each
    (whole ∙ ap (λ t. ended (header_of setup) ++ t) p.whole ∙ sym (append_assoc (ended (header_of setup)) (text_of (map line_of p.done)) rest)) p.count some none
