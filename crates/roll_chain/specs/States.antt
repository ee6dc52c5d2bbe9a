-- What a game's state is worth at a frame of a session.
use Rattle.std.specs.Prelude.{◌≡◌, ◌<◌, ℕ, zero, suc, true, false}
use Rattle.roll_frame.specs.Core.{Core, settled}
use Rattle.roll_frame.specs.Games.{Value}
use Rattle.roll_frame.specs.Paths.{run}
use Rattle.roll_frame.specs.Timeline.{timeline}
use Rattle.roll_frame.specs.declared.refusal.Refusal.{Refusal}
use Rattle.roll_frame.specs.declared.refusal.Refusal.TheVariants.{Gap, InvalidRequest, NoMemory}
use Rattle.roll_game.specs.Counts.{counted}
use Rattle.roll_game.specs.declared.counts.Call.TheVariants.{Advance}
use Rattle.roll_game.specs.declared.counts.Counts.{Counts}
use Rattle.roll_session.specs.Seen.{Seen, Step}
use Rattle.roll_peer.specs.Known.{is_row_known}

-- the serial run, from the session's opening, over the timeline's rows before a frame
abbrev pub value_at : Step → Seen → ℕ → Value
value_at step s frame = run step s.opening (timeline s.core.players frame)

-- the counts after so many frames
abbrev pub advanced : ℕ → Counts → Counts
advanced zero c = c
advanced (suc n) c = counted Advance true (advanced n c)

-- why there is no state of a frame: it lies before the settled one, or a row before it isn't known; or the game refused
abbrev pub IsWhyNoState : Core → ℕ → Refusal → Type 0
IsWhyNoState core frame InvalidRequest = frame < settled core
IsWhyNoState core frame Gap = (t : ℕ) × (t < frame) × (is_row_known core.players t ≡ false)
IsWhyNoState core frame NoMemory = Unit {0}
IsWhyNoState core frame why = ⊥
