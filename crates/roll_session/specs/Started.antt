-- A session at its start, and what it asks of its game.
use Rattle.std.specs.Prelude.{◌≡◌, ◌⊎◌, [], true, false, Option, None}
use Rattle.roll_frame.specs.Core.{first_core}
use Rattle.roll_frame.specs.Games.{Value}
use Rattle.roll_frame.specs.declared.refusal.Refusal.{Refusal}
use Rattle.roll_frame.specs.declared.settings.Settings.{Settings}
use Rattle.roll_game.specs.Counts.{counted}
use Rattle.roll_game.specs.declared.counts.Call.TheVariants.{Load, Copy}
use Rattle.roll_game.specs.declared.counts.Counts.{Counts}
use Rattle.roll_session.specs.Seen.{Seen}

-- the counts of a game that a session hands back since it doesn't start: nothing was asked of it, or the settings were
-- good, and memory ran out at the copy of the opening, after it, or where it was loaded
abbrev pub IsGivenBack : Option Refusal → Counts → Counts → Type 0
IsGivenBack refusal old new =
    (new ≡ old)
    ⊎ ((refusal ≡ None) × ((new ≡ counted Copy false old) ⊎ ((new ≡ counted Copy true old) ⊎ (new ≡ counted Load false (counted Copy true old)))))

-- a session at its start, with its opening shown; its game was asked this
abbrev pub first_seen : Settings → Value → Counts → Seen
first_seen settings opening counts =
    record {
      settings = settings;
      opening = opening;
      core = first_core settings;
      log = [];
      counts = counts;
      reserved = 0;
    }
