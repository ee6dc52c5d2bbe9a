-- Scripts are texts of a header and commands.
use Rattle.std.proofs.Common.{ℕ, [], ◌∷◌, refl, arith}
use Rattle.std.specs.List.{All}
use Rattle.std.proofs.lemmas.List.Elements.{All-cons, All-nil}
use Rattle.roll_text.specs.Numbers.{IsWord}
use Rattle.roll_text.proofs.Headed.{IsHeaded}
use Rattle.prog_scripts.specs.declared.header.Version.TheVariants.{Plain}
use Rattle.prog_scripts.specs.Commands.{IsCommand, line_of}
use Rattle.prog_scripts.specs.Headers.{Setup, IsSetup, header_of}
use Rattle.prog_scripts.specs.Plays.{Play, IsPlay}
use Rattle.prog_scripts.proofs.Headings.{header-lacks}
use Rattle.prog_scripts.proofs.Spelled.{line-lacks}

-- some header
least : Setup
least = record { version = Plain; players = 1; local = 1 ∷ []; delays = 0 ∷ []; masks = []; threshold = 0 }

one_word : (n : ℕ) → IsWord n → All IsWord (n ∷ [])
one_word n h = All-cons IsWord n [] h (All-nil IsWord)

is_least : IsSetup least
unfolding least
is_least = record {
  players = (omega arith, omega arith);
  local = (omega arith, one_word 1 (omega arith));
  rising = (omega arith, omega arith, tt);
  delays = (omega arith, one_word 0 (omega arith));
  each = refl;
  masks = All-nil IsWord;
  masked = refl;
  threshold = omega arith;
}

pub scripts : IsHeaded IsSetup (λ setup. IsCommand) header_of line_of IsPlay (λ (play : Play). play.setup) (λ (play : Play). play.commands) (λ setup commands. record { setup = setup; commands = commands })
scripts = record {
  head_fits = λ play fits. fits.setup;
  items_fit = λ play fits. fits.commands;
  made_fits = λ setup commands fits each. record { setup = fits; commands = each };
  made_head = λ setup commands. refl;
  made_items = λ setup commands. refl;
  head_lacks = header-lacks;
  item_lacks = λ setup. line-lacks;
  same_items = λ a b is_a is_b e command fits. fits;
  least = least;
  least_fits = is_least;
}
