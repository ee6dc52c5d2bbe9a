-- A session without a game.
use Rattle.std.specs.Prelude.{◌≡◌, ◌<◌, ◌≤◌, ℕ, ◌+◌, ◌-◌, List, [], ◌∷◌, ◌++◌, length, max, take, option_map, slice_index_or, All, Bool, true, if◌then◌else◌, Option}
use Rattle.roll_branch.specs.Routed.{Routed}
use Rattle.roll_frame.specs.Cells.{Rows}
use Rattle.roll_frame.specs.Events.{replay}
use Rattle.roll_frame.specs.Games.{Value}
use Rattle.roll_frame.specs.Paths.{run}
use Rattle.roll_frame.specs.Timeline.{timeline}
use Rattle.roll_frame.specs.declared.entry.Entry.{Entry}
use Rattle.roll_frame.specs.Refusals.{first_refusal}
use Rattle.roll_frame.specs.declared.refusal.Refusal.{Refusal}
use Rattle.roll_frame.specs.declared.refusal.Refusal.TheVariants.{Stranger}
use Rattle.roll_frame.specs.declared.route.Route.{Route}
use Rattle.roll_frame.specs.declared.settings.Settings.{Settings}
use Rattle.roll_game.specs.Counts.{no_calls}
use Rattle.roll_game.specs.declared.counts.Counts.{Counts}
use Rattle.roll_laws.specs.Sessions.{IsLog}
use Rattle.roll_plan.specs.Plans.{Planned}
use Rattle.roll_session.specs.Calls.{IsAllowed, IsRollTo}
use Rattle.roll_session.specs.Changes.{graft_refusal}
use Rattle.roll_session.specs.Grafting.{ahead_of, kept_to, place_tests, possible_to, start_of}
use Rattle.roll_session.specs.Held.{IsSession, Shows}
use Rattle.roll_session.specs.Others.{hears_more, hears_nothing, Hears}
use Rattle.roll_session.specs.Saves.{HaveValues, Standing}
use Rattle.roll_session.specs.Seen.{Seen, Step}
use Rattle.roll_session.specs.Standing.{rows_from}
use Rattle.roll_session.specs.Ways.{IsGoing}
use Rattle.roll_session.specs.declared.event.Call.{Call}
use Rattle.roll_session.specs.declared.way.Way.{Way}

-- the step of a game whose states are all worth the same
abbrev pub still : Step
still value row = []

-- a session as its callers see it, of which no opening and no counts are known
abbrev pub seen_bare : Settings → List Entry → ℕ → Seen
seen_bare settings log reserved =
    record {
      settings = settings;
      opening = [];
      core = replay settings log;
      log = log;
      counts = no_calls;
      reserved = reserved;
    }

-- and so with the game's value of the opening, and what was asked of the game
abbrev pub with_game : Value → Counts → Seen → Seen
with_game opening counts s = record s { opening = opening; counts = counts }

-- and its timeline and saved states, apart from the room for settled rows
pub record Bare (S : Type 0) : Type 0 where
  pub seen : Seen
  pub saves : Standing S

-- a branch of a game that is still
abbrev pub bare_branch : ℕ → Route → Routed
bare_branch ticket route = record { ticket = ticket; route = route; from = [] }

module _ {S : Type 0} where
  abbrev pub unroomed : Standing S → Standing S
  unroomed saves = record saves { room = 0 }

  -- its fields keep what those of a session keep whose game is still
  abbrev pub IsBare : Settings → List Entry → Standing S → Planned → Type 0
  IsBare settings log saves planner =
      IsSession {S = ℕ} (λ state. []) (λ snapshot. []) still [] settings log saves planner (option_map (λ rows. 0) (replay settings log).shown)

  -- in a game: where each kept state has the value that its rows lead to, each still has
  abbrev pub KeepsWorths : (S → Value) → Step → Standing S → Standing S → Type 0
  KeepsWorths value step old new =
      (opening : Value)
      → HaveValues value step opening (timeline old.inputs.players old.inputs.settled) old.tree.states
      → HaveValues value step opening (timeline new.inputs.players new.inputs.settled) new.tree.states

  -- and so in every game
  abbrev pub KeepsAll : Standing S → Standing S → Type 0
  KeepsAll old new =
      (value : S → Value) (step : Step) → KeepsWorths value step old new

  -- nothing happened to a session but that it heard others, and what is kept still has its values
  pub record Keeps (old new : Bare S) : Type 0 where
    pub hears : Hears still old.seen new.seen
    pub values : KeepsAll old.saves new.saves

  pub keeps_itself : (it : Bare S) → Keeps it it
  keeps_itself it = record { hears = hears_nothing still it.seen; values = λ value step opening have. have }

  pub keeps_on : (a b c : Bare S) → Keeps a b → Keeps b c → Keeps a c
  keeps_on a b c one two = record {
    hears = hears_more still a.seen b.seen c.seen one.hears two.hears;
    values = λ value step opening have. two.values value step opening (one.values value step opening have);
  }

  -- and so it is where each of these states, from a frame on, has the value that the timeline leads to
  abbrev pub KeepsGiven : Standing S → Standing S → ℕ → List S → Type 0
  KeepsGiven old new from states =
      (value : S → Value) (step : Step) (opening : Value)
      → HaveValues value step opening (timeline old.inputs.players old.inputs.settled) old.tree.states
      → ((k : ℕ) (d : S) → k < length states → value (slice_index_or states k d) ≡ run step opening (timeline old.inputs.players (from + k + 1)))
      → HaveValues value step opening (timeline new.inputs.players new.inputs.settled) new.tree.states

  -- whatever a snapshot is worth: where each saved one is worth what is wanted of its path, and each of the first n states of
  -- a roll from this frame too, they are so together
  abbrev pub KeepsRolled : Standing S → Standing S → ℕ → List S → ℕ → Type 0
  KeepsRolled old new from states n =
      (value : S → Value) (want : Rows → Value) → All (λ u. value u.snapshot ≡ want u.path) old.tree.states
      → ((k : ℕ) (d : S) → k < n → value (slice_index_or states k d) ≡ want (rows_from old.inputs.players old.inputs.settled (from + k + 1 - old.inputs.settled)))
      → All (λ u. value u.snapshot ≡ want u.path) new.tree.states

  -- and after a graft, where each new state of the branch has the value that its rows lead to
  abbrev pub KeepsGrafted : Standing S → Standing S → Route → List S → Type 0
  KeepsGrafted old new route states =
      (value : S → Value) (step : Step) (opening : Value)
      → HaveValues value step opening (timeline old.inputs.players old.inputs.settled) old.tree.states
      → ((frame : ℕ) (d : S) → kept_to old route ≤ frame → frame < possible_to old.inputs route
      → value (slice_index_or states (frame - start_of route) d) ≡ run step opening (timeline old.inputs.players old.inputs.settled ++ take (frame + 1 - old.inputs.settled) (ahead_of old.inputs route)))
      → HaveValues value step opening (timeline new.inputs.players new.inputs.settled) new.tree.states

  -- and so it is where each state of the branch has the value that the rows up to it lead to, from frame 0 on
  abbrev pub KeepsBranch : Standing S → Standing S → Route → List S → Type 0
  KeepsBranch old new route states =
      (value : S → Value) (step : Step) (opening : Value)
      → HaveValues value step opening (timeline old.inputs.players old.inputs.settled) old.tree.states
      → ((k : ℕ) (d : S) → k < length states → value (slice_index_or states k d) ≡ run step opening (timeline old.inputs.players route.path.base ++ (route.path.rows.items ++ take (k + 1) route.rows.items)))
      → HaveValues value step opening (timeline new.inputs.players new.inputs.settled) new.tree.states

  -- why a branch along a route is refused, if it is: by all tests where its state at its anchor is the saved one, else at the
  -- latest since it isn't
  abbrev pub route_refusal_of : Bool → Bare S → Route → Option Refusal
  route_refusal_of same s route =
      if same then graft_refusal still s.seen (bare_branch 0 route)
      else first_refusal (place_tests s.saves route ++ (true, Stranger) ∷ [])

  -- a call was looked at: there is room for its entry, and the timeline was told
  pub record IsLooked (old new : Bare S) : Type 0 where
    pub seen : new.seen ≡ record old.seen { reserved = max old.seen.reserved 1 }
    pub saves : new.saves ≡ record old.saves { tree = record old.saves.tree { time = new.saves.tree.time } }

  -- the rules accept the call, and this is its roll
  pub record CanEnter (s : Bare S) (call : Call) (way : Way) : Type 0 where
    pub going : IsGoing s.saves way
    pub to : IsRollTo s.seen.core call way.to
    pub allowed : IsAllowed still s.seen call

-- the session has its game: its log is one that events leave there, each saved state has the value that its rows lead to from the
-- opening, and so has the one that is shown
pub record HasGame {S N : Type 0} (state_value : S → Value) (snapshot_value : N → Value) (step : Step) (opening : Value) (s : Bare N) (current : Option S) : Type 0 where
  pub is_log : IsLog s.seen.settings (record { opening = opening; step = step }) s.seen.log
  pub values : HaveValues snapshot_value step opening (timeline s.saves.inputs.players s.saves.inputs.settled) s.saves.tree.states
  pub shows : Shows state_value step opening s.seen.core.shown current
