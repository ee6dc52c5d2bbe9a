-- What a session that starts writes.
use Rattle.std.proofs.Common.{◌≡◌, ℕ, ◌≤◌, ◌<◌, ◌^◌, List, [], length, length-append, refl, sym, ap, arith, None}
use Rattle.std.specs.Prelude.{◌≢◌, unwrap_or, Result, Ok, Err, IfOk, OnOk}
use Rattle.roll_frame.specs.Games.{Value, Game}
use Rattle.roll_frame.specs.Settings.{start_refusal}
use Rattle.roll_frame.specs.declared.refusal.Refusal.{Refusal}
use Rattle.roll_frame.specs.declared.refusal.Refusal.TheVariants.{NoMemory}
use Rattle.roll_frame.specs.declared.settings.Settings.{Settings}
use Rattle.roll_game.specs.declared.counts.Counts.{Counts}
use Rattle.roll_session.specs.Seen.{Seen}
use Rattle.roll_session.specs.Started.{first_seen}
use Rattle.roll_text.specs.Lines.{ended}
use Rattle.roll_text.specs.declared.streams.TheConstants.{TEXT_LIMIT}
use Rattle.prog_scripts.specs.declared.command.Command.{Command}
use Rattle.prog_scripts.specs.Output.{Texts, first_playing, output_under, refusals_under, refused_line, refusals_from, written_from}
use Rattle.roll_cli.specs.Playings.{Played}
use Rattle.prog_scripts.specs.Headers.{Setup, header_of}
use Rattle.prog_scripts.specs.Plays.{IsOutlined}
use Rattle.roll_cli.proofs.Guessed.{played_of}
use Rattle.prog_scripts.proofs.Refused.{refused_so}

-- what a session that starts writes, and how many of the replies are refusals
pub written_started : (texts : Texts) (game : Game) (commands : List Command) (settings : Settings) → start_refusal settings ≡ None
    → written_from texts settings game (first_playing settings) commands ≡ output_under texts settings game commands
written_started texts game commands settings starts = sym (rw starts refl)

pub refusals_started : (game : Game) (commands : List Command) (settings : Settings) → start_refusal settings ≡ None → refusals_from settings game (first_playing settings) commands ≡ refusals_under settings game commands
refusals_started game commands settings starts = sym (rw starts refl)

-- a session that has just started
abbrev first_of : Settings → Value → Played
first_of settings x = record { settings = settings; opening = x; now = first_playing settings }

pub first_played : (s : Seen) (settings : Settings) (x : Value) (counts : Counts) → s ≡ first_seen settings x counts → played_of s [] ≡ first_of settings x
first_played s settings x counts e =
    ap (λ (v : Seen). played_of v []) e

-- what is written of one that doesn't start
pub written_refused : (texts : Texts) (game : Game) (commands : List Command) (settings : Settings) (why : Refusal) → why ≡ unwrap_or (start_refusal settings) NoMemory → why ≢ NoMemory
    → ended (refused_line why) ≡ output_under texts settings game commands
written_refused texts game commands settings why e ne = sym (rw (refused_so (start_refusal settings) why e ne) refl)

pub refusals_refused : (game : Game) (commands : List Command) (settings : Settings) (why : Refusal) → why ≡ unwrap_or (start_refusal settings) NoMemory → why ≢ NoMemory → 1 ≡ refusals_under settings game commands
refusals_refused game commands settings why e ne = sym (rw (refused_so (start_refusal settings) why e ne) refl)

-- of a call that answered, where both are known
pub if_ok_both : {X E : Type 0} {A B : X → Type 0} {P : Type 0} (r : Result X E) → ((x : X) → A x → P → B x) → IfOk r A → OnOk r P → IfOk r B
if_ok_both (Ok x) f a p = f x a p
if_ok_both (Err e) f a p = tt

-- a text that isn't too long is short
pub few_bytes : (setup : Setup) (rest text : List ℕ) → IsOutlined setup rest text → length text ≤ TEXT_LIMIT → length rest < 2 ^ 32
few_bytes setup rest text outlined short = omega (arith, ap length outlined.whole, length-append (ended (header_of setup)) rest)
