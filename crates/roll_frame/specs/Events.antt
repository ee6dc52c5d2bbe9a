-- The events of a session: when each is refused, what it changes, its reply, and the log that they leave.
use Rattle.std.specs.Prelude.{ℕ, ◌+◌, List, [], ◌∷◌, ◌++◌, length, map, fold, not, Bool, false, ◌&&◌, ◌||◌, nat_le, ◌==◌, Option, None, is_none, if◌then◌else◌}
use Rattle.std.specs.Option.{option_map_or}
use Rattle.std.specs.List.{list_any}
use Rattle.roll_frame.specs.declared.entry.Entry.{Entry}
use Rattle.roll_frame.specs.declared.entry.Entry.TheVariants.{Local, Remote, Disconnect, Sync, Advance, Graft, Partial}
use Rattle.roll_frame.specs.declared.refusal.Refusal.{Refusal}
use Rattle.roll_frame.specs.declared.refusal.Refusal.TheVariants.{LocalInputMissing, NoMemory, InvalidRequest, LogFull}
use Rattle.roll_frame.specs.declared.reply.Reply.{Reply}
use Rattle.roll_frame.specs.declared.reply.Reply.TheVariants.{Refused, Done, Taken, Repeated, Disconnected, Synchronized, Reached, Grafted}
use Rattle.roll_frame.specs.declared.route.Route.{Route}
use Rattle.roll_frame.specs.declared.settings.Settings.{Settings}
use Rattle.roll_frame.specs.Refusals.{first_refusal}
use Rattle.roll_frame.specs.Cells.{Rows}
use Rattle.roll_frame.specs.Timeline.{Player, row_at}
use Rattle.roll_frame.specs.Settings.{open_to_branches}
use Rattle.roll_frame.specs.Inputs.{local_tests, remote_tests, disconnect_tests, is_repeated, changed, with_words, with_given, with_gone, with_none_given}
use Rattle.roll_frame.specs.Games.{Value, Game}
use Rattle.roll_frame.specs.Core.{Core, first_core, settled, depth, cost, rolled, rolled_paths}
use Rattle.roll_frame.specs.Grafts.{Branch, graft_tests, new_paths}

-- an event: what the log would keep of it, and, where that is a graft, the value of the state that its
-- branch starts from
pub record CoreEvent : Type 0 where
  pub entry : Entry
  pub value : Value

-- the branch of a log's entry
abbrev pub branch_of : Route → Branch
branch_of route = record { path = route.path; rows = route.rows.items }

-- whether each local player has given its word of this frame
abbrev pub all_given : List Player → Bool
all_given players = not (list_any (λ player. player.local && not player.given) players)

-- whether the game can have refused in a roll to this frame, after so many new states: a roll goes to the
-- frame, or to the next one where all local words are given
abbrev pub can_be_partial : Core → ℕ → ℕ → Bool
can_be_partial core to made = (to == core.frame || (to == core.frame + 1 && all_given core.players)) && nat_le made (cost core to)

-- the tests of each event. No call asks for a Partial that can't be, so its code is never shown
abbrev pub tests_of : Settings → Game → Core → Value → Entry → List (Bool × Refusal)
tests_of settings game core value (Local p word) = local_tests core.players core.frame settings.threshold settings.limit p
tests_of settings game core value (Remote p f word) = remote_tests core.players (settled core) p f
tests_of settings game core value (Disconnect p) = disconnect_tests core.players p
tests_of settings game core value Sync = []
tests_of settings game core value Advance = (not (all_given core.players), LocalInputMissing) ∷ []
tests_of settings game core value (Graft ticket route) = graft_tests game (open_to_branches settings.profile) core value (branch_of route)
tests_of settings game core value (Partial to made) = (not (can_be_partial core to made), InvalidRequest) ∷ []

-- each event is refused where the log is full, after its own tests
abbrev pub refusal : Settings → Game → Core → CoreEvent → Option Refusal
refusal settings game core event =
    first_refusal (tests_of settings game core event.value event.entry ++ (nat_le settings.log core.logged, LogFull) ∷ [])

-- a remote word that was taken before is no event
abbrev pub is_repeat : Core → Entry → Bool
is_repeat core (Remote p f word) = is_repeated core.players p f word
is_repeat core entry = false

abbrev pub is_accepted : Settings → Game → Core → CoreEvent → Bool
is_accepted settings game core event = not (is_repeat core event.entry) && is_none (refusal settings game core event)

-- the paths that an accepted entry adds
abbrev pub added_by : Core → Entry → List Rows
added_by core Sync = rolled_paths core core.frame (cost core core.frame)
added_by core Advance = rolled_paths core (core.frame + 1) (cost core (core.frame + 1))
added_by core (Graft ticket route) = new_paths core (branch_of route)
added_by core (Partial to made) = rolled_paths core to made
added_by core entry = []

-- the core after an accepted entry, but for the paths that it adds and the count of the log
abbrev pub changed_by : Core → Entry → Core
changed_by core (Local p word) = record core { players = changed (with_given word) core.players p }
changed_by core (Remote p f word) = record core { players = changed (with_words (word ∷ [])) core.players p }
changed_by core (Disconnect p) = record core { players = changed with_gone core.players p }
changed_by core Sync = rolled core core.frame
changed_by core Advance = record (rolled core (core.frame + 1)) { frame = core.frame + 1; players = map with_none_given core.players }
changed_by core (Graft ticket route) = core
changed_by core (Partial to made) = record core { shown = None; last = None }

-- the core after an accepted entry
abbrev pub applied : Core → Entry → Core
applied core entry = record (changed_by core entry) { ever = core.ever ++ added_by core entry; logged = core.logged + 1 }

-- the core that a log leads to. A log has no values, so its grafts aren't judged again
unfoldable pub replay : Settings → List Entry → Core
replay settings entries = fold applied (first_core settings) entries

-- the core after an event: a refused one changes nothing
abbrev pub after : Settings → Game → Core → CoreEvent → Core
after settings game core event = if is_accepted settings game core event then applied core event.entry else core

-- the core after any events
abbrev pub played_from : Settings → Game → Core → List CoreEvent → Core
played_from settings game core events = fold (after settings game) core events

abbrev pub played : Settings → Game → List CoreEvent → Core
played settings game events = played_from settings game (first_core settings) events

-- the log that events leave: the accepted ones
abbrev pub log_from : Settings → Game → Core → List CoreEvent → List Entry
log_from settings game core [] = []
log_from settings game core (event ∷ events) =
    if is_accepted settings game core event then event.entry ∷ log_from settings game (after settings game core event) events
    else log_from settings game (after settings game core event) events

abbrev pub log_of : Settings → Game → List CoreEvent → List Entry
log_of settings game events = log_from settings game (first_core settings) events

-- the reply to an event that is accepted
abbrev pub answer : Core → Entry → Reply
answer core (Local p word) = Done
answer core (Remote p f word) = Taken
answer core (Disconnect p) = Disconnected p
answer core Sync = Synchronized (row_at core.players core.frame)
answer core Advance = Reached (core.frame + 1) (depth core (core.frame + 1)) (cost core (core.frame + 1))
answer core (Graft ticket route) = Grafted (length (new_paths core (branch_of route)))
answer core (Partial to made) = Refused NoMemory

abbrev pub reply : Settings → Game → Core → CoreEvent → Reply
reply settings game core event =
    if is_repeat core event.entry then Repeated
    else option_map_or Refused (refusal settings game core event) (answer core event.entry)

-- the replies to any events
abbrev pub replies_from : Settings → Game → Core → List CoreEvent → List Reply
replies_from settings game core [] = []
replies_from settings game core (event ∷ events) = reply settings game core event ∷ replies_from settings game (after settings game core event) events
