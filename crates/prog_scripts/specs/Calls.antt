-- The calls of a session that commands ask for.
use Rattle.std.specs.Prelude.{ℕ, nat_lt, if◌then◌else◌, Option, Some, None}
use Rattle.roll_session.specs.declared.event.Call.{Call}
use Rattle.roll_session.specs.declared.event.Call.TheVariants.{Local, Remote, Disconnect, Sync, Advance}
use Rattle.prog_scripts.specs.declared.command.Command.{Command}
use Rattle.prog_scripts.specs.declared.command.Command.TheVariants.{Local as Gives, Remote as Tells, Disconnect as Leaves, Sync as Syncs, Advance as Advances, Guess, Extend, Claim}

-- a player's number as a call has it: 0, which is nobody's, for one that is past all players
abbrev pub narrowed : ℕ → ℕ
narrowed n = if nat_lt n 256 then n else 0

abbrev pub call_of : Command → Option Call
call_of (Gives player word) = Some (Local (narrowed player) word)
call_of (Tells player frame word) = Some (Remote (narrowed player) frame word)
call_of (Leaves player) = Some (Disconnect (narrowed player))
call_of Syncs = Some Sync
call_of Advances = Some Advance
call_of (Guess player until words) = None
call_of (Extend job) = None
call_of Claim = None
