-- What each call changes of a session, and why it is refused.
use Rattle.std.specs.Prelude.{◌≡◌, ◌⊎◌, ℕ, ◌+◌, ◌-◌, ◌≤◌, List, [], ◌∷◌, ◌++◌, map, not, nat_le, nat_lt, unwrap_or, Bool, true, false, Option, None, Some, if◌then◌else◌}
use Rattle.roll_branch.specs.Routed.{Routed}
use Rattle.roll_frame.specs.Core.{Core, cost, depth, rolled, rolled_paths, settled}
use Rattle.roll_frame.specs.Events.{all_given, branch_of}
use Rattle.roll_frame.specs.Grafts.{graft_tests, new_paths}
use Rattle.roll_frame.specs.Inputs.{changed, disconnect_tests, is_repeated, local_tests, remote_tests, with_given, with_gone, with_none_given, with_words}
use Rattle.roll_frame.specs.Refusals.{first_refusal}
use Rattle.roll_frame.specs.Settings.{open_to_branches}
use Rattle.roll_frame.specs.Timeline.{Player}
use Rattle.roll_frame.specs.declared.entry.Entry.{Entry}
use Rattle.roll_frame.specs.declared.entry.Entry.TheVariants.{Local, Remote, Disconnect, Sync, Advance, Graft, Partial}
use Rattle.roll_frame.specs.declared.refusal.Refusal.{Refusal}
use Rattle.roll_frame.specs.declared.refusal.Refusal.TheVariants.{LocalInputMissing, LogFull, NoMemory}
use Rattle.roll_game.specs.Counts.{IsRefusedAt, rolled as rolled_counts}
use Rattle.roll_game.specs.declared.counts.Counts.{Counts}
use Rattle.roll_inputs.specs.declared.heard.Heard.{Heard}
use Rattle.roll_inputs.specs.declared.heard.Heard.TheVariants.{Taken, Repeated}
use Rattle.roll_session.specs.Seen.{Seen, Step, game_of}
use Rattle.roll_session.specs.declared.event.Reached.{Reached}

-- the first of a call's tests that is against it, and after them a full log
abbrev pub refusal_by : Seen → List (Bool × Refusal) → Option Refusal
refusal_by s tests = first_refusal (tests ++ (nat_le s.settings.log s.core.logged, LogFull) ∷ [])

abbrev pub local_refusal : Seen → ℕ → Option Refusal
local_refusal s p =
    refusal_by s (local_tests s.core.players s.core.frame s.settings.threshold s.settings.limit p)

abbrev pub remote_refusal : Seen → ℕ → ℕ → Option Refusal
remote_refusal s p frame = refusal_by s (remote_tests s.core.players (settled s.core) p frame)

abbrev pub disconnect_refusal : Seen → ℕ → Option Refusal
disconnect_refusal s p = refusal_by s (disconnect_tests s.core.players p)

abbrev pub sync_refusal : Seen → Option Refusal
sync_refusal s = refusal_by s []

-- there is a next frame once each local player has given its word of this one
abbrev pub advance_refusal : Seen → Option Refusal
advance_refusal s = refusal_by s ((not (all_given s.core.players), LocalInputMissing) ∷ [])

abbrev pub graft_refusal : Step → Seen → Routed → Option Refusal
graft_refusal step s branch =
    refusal_by s
    (graft_tests (game_of step s) (open_to_branches s.settings.profile) s.core branch.from
    (branch_of branch.route))

-- the session after an accepted event, with what it makes of the core: its entry is the log's last, and it takes one of
-- the places that were reserved
abbrev pub after_event : Seen → Entry → Core → Seen
after_event s entry core =
    record s {
      core = record core { logged = s.core.logged + 1 };
      log = s.log ++ entry ∷ [];
      reserved = s.reserved - 1;
    }

-- after one that changes what is known of the players
abbrev pub after_input : Seen → Entry → List Player → Seen
after_input s entry players = after_event s entry (record s.core { players = players })

abbrev pub after_local : Seen → ℕ → ℕ → Seen
after_local s p word =
    after_input s (Local p word) (changed (with_given word) s.core.players p)

abbrev pub after_remote : Seen → ℕ → ℕ → ℕ → Seen
after_remote s p frame word =
    after_input s (Remote p frame word) (changed (with_words (word ∷ [])) s.core.players p)

abbrev pub after_disconnect : Seen → ℕ → Seen
after_disconnect s p = after_input s (Disconnect p) (changed with_gone s.core.players p)

-- a branch's new states are saved
abbrev pub after_graft : Seen → Routed → Seen
after_graft s branch =
    after_event s (Graft branch.ticket branch.route)
    (record s.core { ever = s.core.ever ++ new_paths s.core (branch_of branch.route) })

-- the core after a roll to a frame: the state there is shown, and each on the way to it is saved
abbrev pub rolled_to : Core → ℕ → Core
rolled_to core to =
    record (rolled core to) { ever = core.ever ++ rolled_paths core to (cost core to) }

-- the session after a roll to this frame
abbrev pub after_sync : Seen → Seen
after_sync s =
    record (after_event s Sync (rolled_to s.core s.core.frame)) {
      counts = rolled_counts (cost s.core s.core.frame) s.counts;
    }

-- after a roll to the next frame, whose local words aren't given yet
abbrev pub after_advance : Seen → Seen
after_advance s =
    let next : ℕ = s.core.frame + 1 in
    let core : Core = rolled_to s.core next in
    record (after_event s Advance
    (record core { frame = next; players = map with_none_given s.core.players })) {
      counts = rolled_counts (cost s.core next) s.counts;
    }

-- the game refused in a roll to this frame, after so many new states: these stay saved, and nothing is shown
abbrev pub after_partial : Seen → (to made : ℕ) → Counts → Seen
after_partial s to made counts =
    record (after_event s (Partial to made)
    (record s.core {
      ever = s.core.ever ++ rolled_paths s.core to made;
      shown = None;
      last = None;
    })) { counts = counts }

pub record IsPartial (old new : Seen) (to : ℕ) : Type 0 where
  pub made : ℕ
  pub few : made ≤ cost old.core to
  pub seen : new ≡ after_partial old to made new.counts
  pub counts : IsRefusedAt made old.counts new.counts

-- what an advance answers
abbrev pub reached_by : Core → Reached
reached_by core =
    let next : ℕ = core.frame + 1 in
    record { frame = next; from = depth core next; rerun = cost core next }

-- a remote word is taken, or was taken before
abbrev pub IsHeard : Seen → Seen → (p frame word : ℕ) → Heard → Type 0
IsHeard old new p frame word Taken =
    (is_repeated old.core.players p frame word ≡ false) × (remote_refusal old p frame ≡ None)
    × (new ≡ after_remote old p frame word)
IsHeard old new p frame word Repeated =
    (is_repeated old.core.players p frame word ≡ true) × (new ≡ old)

-- what is said of a call that has a refusal, or for which memory ran out
abbrev pub IsWhy : Option Refusal → Refusal → Type 0
IsWhy refusal why = why ≡ unwrap_or refusal NoMemory

-- the log has room for so many events more
abbrev pub FitsLog : Seen → ℕ → Type 0
FitsLog s events = s.core.logged + events ≤ s.settings.log

abbrev pub reserve_refusal : Seen → ℕ → Option Refusal
reserve_refusal s events =
    if nat_lt s.settings.log (s.core.logged + events) then Some LogFull else None

-- a call is refused, or memory ran out for it, which can't be if an event was reserved; nothing is changed
pub record IsRefused (refusal : Option Refusal) (old new : Seen) (why : Refusal) : Type 0 where
  pub said : IsWhy refusal why
  pub unchanged : new ≡ old
  pub reserved : refusal ≡ None → old.reserved ≡ 0

-- the same of a call that rolls to this frame; or the game refused in its roll
abbrev pub IsRollRefused : Option Refusal → Seen → Seen → ℕ → Refusal → Type 0
IsRollRefused refusal old new to why =
    IsRefused refusal old new why
    ⊎ ((why ≡ NoMemory) × (refusal ≡ None) × IsPartial old new to)
