-- Laws over any events of any session that starts.
use Rattle.std.specs.Prelude.{min, filter, drop, ◌≡◌, ℕ, ◌+◌, ◌-◌, ◌<◌, ◌≤◌, List, ◌++◌, length, take, true, false, Option, Some, None, if◌then◌else◌, slice_get, slice_index, nat_lt, nat_le, bit_and, option_and_then, slice_set, ◌&&◌, ◌∷◌, [], Bool, All, IsSomeAnd, ◌⊎◌}
use Rattle.std.specs.List.{list_all}
use Rattle.std.specs.Option.{option_map_or}
use Rattle.std.specs.List.Sorted.{IsPermutation, IsSorted}
use Rattle.roll_frame.specs.declared.limits.TheConstants.{FRAME_LIMIT, LOG_LIMIT, TREE_LIMIT, BRANCH_LIMIT, PATH_LIMIT, QUEUE_LIMIT, DELAY_LIMIT}
use Rattle.roll_frame.specs.declared.row.Cell.{Cell}
use Rattle.roll_frame.specs.declared.row.Cell.TheVariants.{Word, Gone}
use Rattle.roll_frame.specs.declared.entry.Entry.{Entry}
use Rattle.roll_frame.specs.declared.path.Path.{Path}
use Rattle.roll_frame.specs.declared.profile.Profile.{Profile}
use Rattle.roll_frame.specs.declared.profile.Profile.TheVariants.{Ggpo, Wide}
use Rattle.roll_frame.specs.declared.settings.Settings.{Settings}
use Rattle.roll_frame.specs.Refusals.{first_refusal}
use Rattle.roll_frame.specs.Cells.{Rows, cell_eq, rows_eq}
use Rattle.roll_frame.specs.Timeline.{Player, last_word, cell_at, front, timeline}
use Rattle.roll_frame.specs.Paths.{begins_with, contains, longest, run}
use Rattle.roll_frame.specs.Games.{Game, Value}
use Rattle.roll_frame.specs.Settings.{delay_at, most_players, most_threshold, open_to_branches, start_refusal}
use Rattle.roll_frame.specs.Core.{Roll, Core, IsPlan, is_known, is_possible, settled, is_live, kept, depth, cost, rolled_paths}
use Rattle.roll_frame.specs.Inputs.{with_words}
use Rattle.roll_frame.specs.Grafts.{Branch, start_of}
use Rattle.roll_frame.specs.Events.{CoreEvent, is_accepted, added_by, after, played, replay, log_of}
use Rattle.roll_frame.specs.Guess.{guess_tests, guessed_time, guessed_job}
use Rattle.roll_frame.specs.Order.{rows_cmp, in_order}
use Rattle.roll_frame.specs.declared.claim.Claim.{Claim}
use Rattle.roll_frame.specs.declared.claim.Differ.{Differ}
use Rattle.roll_frame.specs.Claims.{IsDeeper, IsRight, cell_in, claim_of}

-- a fact of the core after any events of any session that starts
abbrev pub Always : (Settings → Core → Type 0) → Type 0
Always P = (settings : Settings) (game : Game) (events : List CoreEvent) → start_refusal settings ≡ None → P settings (played settings game events)

-- a fact of the core after any events, and the core after any more
abbrev pub EverAfter : (Core → Core → Type 0) → Type 0
EverAfter P = (settings : Settings) (game : Game) (events more : List CoreEvent) → start_refusal settings ≡ None → P (played settings game events) (played settings game (events ++ more))

-- the most kept states of a profile
abbrev pub most_kept : Profile → ℕ
most_kept Ggpo = 250
most_kept Wide = 241

-- the sizes of a session that starts
pub record IsSmall (settings : Settings) : Type 0 where
  pub some_players : 1 ≤ settings.players
  pub few_players : settings.players ≤ most_players settings.profile
  pub some_threshold : 1 ≤ settings.threshold
  pub small_threshold : settings.threshold ≤ most_threshold settings.profile
  pub some_frames : 1 ≤ settings.limit
  pub few_frames : settings.limit ≤ FRAME_LIMIT
  pub some_entries : 1 ≤ settings.log
  pub few_entries : settings.log ≤ LOG_LIMIT
  pub few_kept : open_to_branches settings.profile + settings.threshold + 2 ≤ most_kept settings.profile

abbrev pub StartsAreSmall : Type 0
StartsAreSmall = (settings : Settings) → start_refusal settings ≡ None → IsSmall settings

-- the cell of a player, counted from 0, in a frame, if it is confirmed or the player is gone
abbrev pub known_cell : List Player → ℕ → ℕ → Option Cell
known_cell players place t = option_and_then (λ player. if is_known t player then Some (cell_at t player) else None) (slice_get players place)

abbrev pub KnownCellsStay : Type 0
KnownCellsStay = EverAfter (λ core later. (place t : ℕ) (cell : Cell) → known_cell core.players place t ≡ Some cell → known_cell later.players place t ≡ Some cell)

abbrev pub SettledNeverFalls : Type 0
SettledNeverFalls = EverAfter (λ core later. settled core ≤ settled later)

abbrev pub SettledRowsStay : Type 0
SettledRowsStay = EverAfter (λ core later. timeline later.players (settled core) ≡ timeline core.players (settled core))

abbrev pub ImpossibleStays : Type 0
ImpossibleStays = EverAfter (λ core later. (path : Rows) → is_possible core.players path ≡ false → is_possible later.players path ≡ false)

-- whether the player's cell, at a place from 0, of a row is this one, or there is none
abbrev pub has_no_other : ℕ → Cell → List Cell → Bool
has_no_other place cell row = option_map_or (λ c. cell_eq c cell) (slice_get row place) true

-- the same of a path's row t, where there is one
abbrev pub has_no_other_in : ℕ → ℕ → Cell → Rows → Bool
has_no_other_in place t cell path = option_map_or (has_no_other place cell) (slice_get path t) true

-- of the possible paths, a player's next word leaves those without another cell in its frame
abbrev pub WordsRuleOut : Type 0
WordsRuleOut =
    (players : List Player) (place : ℕ) (player later : Player) (word : ℕ) (path : Rows)
    → slice_get players place ≡ Some player → player.gone ≡ false → later.words ≡ player.words ++ word ∷ [] → later.gone ≡ false
    → is_possible (slice_set players place later) path ≡ (is_possible players path && has_no_other_in place (length player.words) (Word word) path)

-- of the possible paths, a player who leaves leaves those without another cell than a gone one from its next word's frame on
abbrev pub LeavingRulesOut : Type 0
LeavingRulesOut =
    (players : List Player) (place : ℕ) (player later : Player) (path : Rows)
    → slice_get players place ≡ Some player → player.gone ≡ false → later.words ≡ player.words → later.gone ≡ true
    → is_possible (slice_set players place later) path ≡ (is_possible players path && list_all (has_no_other place Gone) (drop (length player.words) path))

-- the possible paths that are no shorter than the settled frame are those that begin with the settled rows
abbrev pub LongBeginSettled : Type 0
LongBeginSettled = Always (λ settings core. (path : Rows) → is_possible core.players path ≡ true → nat_le (settled core) (length path) ≡ begins_with path (timeline core.players (settled core)))

abbrev pub PrefixesAreSaved : Type 0
PrefixesAreSaved = Always (λ settings core. (path : Rows) (k : ℕ) → contains core.ever path ≡ true → contains core.ever (take k path) ≡ true)

-- no path is saved twice
abbrev pub SavedOnce : Type 0
SavedOnce = Always (λ settings core. (path : Rows) → length (filter (rows_eq path) core.ever) ≤ 1)

abbrev pub KeptBeginSettled : Type 0
KeptBeginSettled = Always (λ settings core. (path : Rows) → contains (kept core) path ≡ true → take (settled core) path ≡ timeline core.players (settled core))

-- each prefix of a kept path that is no shorter than the settled frame is kept
abbrev pub KeptArePrefixed : Type 0
KeptArePrefixed = Always (λ settings core. (path : Rows) (k : ℕ) → contains (kept core) path ≡ true → settled core ≤ k → contains (kept core) (take k path) ≡ true)

-- where a roll to this frame or a later one starts, is kept
abbrev pub StartIsKept : Type 0
StartIsKept = Always (λ settings core. (m : ℕ) → core.frame ≤ m → contains (kept core) (timeline core.players (depth core m)) ≡ true)

-- what a roll added is later the timeline's, as far as it goes, or not possible
abbrev pub RolledIsTimeOrDead : Type 0
RolledIsTimeOrDead = EverAfter (λ core later. (m j : ℕ) (path : Rows) → contains (rolled_paths core m j) path ≡ true → is_possible later.players path ≡ true → path ≡ timeline later.players (length path))

-- the prediction window
abbrev pub WindowIsBounded : Type 0
WindowIsBounded = Always (λ settings core. core.frame ≤ settled core + settings.threshold)

abbrev pub CostIsSmall : Type 0
CostIsSmall = Always (λ settings core. (m : ℕ) → m ≤ core.frame + 1 → cost core m ≤ settings.threshold + 1)

abbrev pub FewAreKept : Type 0
FewAreKept = Always (λ settings core. (length (kept core) ≤ open_to_branches settings.profile + settings.threshold + 2) × (length (kept core) ≤ most_kept settings.profile))

-- in the middle of a roll to this frame or the next, before anything is dropped, no more than that are held
abbrev pub RollsFit : Type 0
RollsFit = Always (λ settings core. (m : ℕ) → core.frame ≤ m → m ≤ core.frame + 1 → (length (kept core) + cost core m ≤ open_to_branches settings.profile + settings.threshold + 2) × (length (kept core) + cost core m ≤ TREE_LIMIT))

-- the confirmed word of a player, counted from 0, in a frame
abbrev pub word_at : List Player → ℕ → ℕ → Option ℕ
word_at players place t = option_and_then (λ player. slice_get player.words t) (slice_get players place)

-- two cores with as many players, both settled up to f, that have the same confirmed words below f, have
-- the same first f rows, and the same run over them
abbrev pub PeersAgree : Type 0
PeersAgree =
    (settings others : Settings) (game : Game) (events theirs : List CoreEvent) → start_refusal settings ≡ None → start_refusal others ≡ None
    → (f : ℕ) → f ≤ settled (played settings game events) → f ≤ settled (played others game theirs)
    → length (played settings game events).players ≡ length (played others game theirs).players
    → ((place t : ℕ) → t < f → word_at (played settings game events).players place t ≡ word_at (played others game theirs).players place t)
    → (timeline (played settings game events).players f ≡ timeline (played others game theirs).players f)
    × (run game.step game.opening (timeline (played settings game events).players f) ≡ run game.step game.opening (timeline (played others game theirs).players f))

-- a roll is a plan, of its cost
abbrev pub RollIsPlan : Type 0
RollIsPlan = Always (λ settings core. (m : ℕ) → IsPlan core m (timeline core.players (depth core m)) (drop (depth core m) (timeline core.players m)) × (length (drop (depth core m) (timeline core.players m)) ≡ cost core m))

-- no plan of a roll, from any path that was ever saved, costs less than the roll
abbrev pub RollsAreLeast : Type 0
RollsAreLeast = Always (λ settings core. (m : ℕ) (path rows : Rows) → IsPlan core m path rows → cost core m ≤ length rows)

-- the claim of the last roll is right
abbrev pub ClaimsAreRight : Type 0
ClaimsAreRight = Always (λ settings core. (roll : Roll) → core.last ≡ Some roll → IsRight (claim_of settings.players roll))

-- these are those paths, in the order of paths
pub record IsOrderOf (paths ordered : List Rows) : Type 0 where
  pub sorted : IsSorted rows_cmp ordered
  pub permutes : IsPermutation paths ordered

abbrev pub OrderKeepsAll : Type 0
OrderKeepsAll = (paths : List Rows) → IsOrderOf paths (in_order paths)

-- a frame and a player come before those of an entry
abbrev pub IsBefore : ℕ → ℕ → Differ → Type 0
IsBefore frame player entry = (frame < entry.frame) ⊎ ((frame ≡ entry.frame) × (player < entry.player))

-- where a path has the time's cell at each frame and player before those of an entry
abbrev pub IsLeastEntry : Claim → Differ → Path → Type 0
IsLeastEntry claim entry path =
    (frame player : ℕ) → claim.base ≤ frame → 1 ≤ player → IsBefore frame player entry
    → cell_in path.rows.items (frame - claim.base) (player - 1) ≡ cell_in claim.time (frame - claim.base) (player - 1)

-- the claim of the last roll names least places
abbrev pub ClaimsNameLeast : Type 0
ClaimsNameLeast = Always (λ settings core. (roll : Roll) → core.last ≡ Some roll
    → All (λ entry. IsSomeAnd (slice_get (claim_of settings.players roll).kept entry.state) (IsLeastEntry (claim_of settings.players roll) entry)) (claim_of settings.players roll).differs)

-- in a right claim no kept path that is deeper than its start agrees with the time
abbrev pub DeeperDiffer : Type 0
DeeperDiffer = (claim : Claim) → IsRight claim → (place : ℕ) (path : Path) → slice_get claim.kept place ≡ Some path → IsDeeper claim path → begins_with claim.time path.rows.items ≡ false

-- the kept paths tell where a roll starts
abbrev pub PruningLosesNothing : Type 0
PruningLosesNothing = Always (λ settings core. (m : ℕ) → core.frame ≤ m → longest (kept core) (timeline core.players m) ≡ depth core m)

-- a fact of the core after any events, of an event that is accepted there, and of the core after it
abbrev pub AfterAny : (Core → CoreEvent → Core → Type 0) → Type 0
AfterAny P =
    (settings : Settings) (game : Game) (events : List CoreEvent) (event : CoreEvent) → start_refusal settings ≡ None → is_accepted settings game (played settings game events) event ≡ true
    → P (played settings game events) event (after settings game (played settings game events) event)

-- what is kept after an event is what is then live of the paths that were kept and those that it added
abbrev pub KeptAfter : Type 0
KeptAfter = AfterAny (λ core event later. kept later ≡ filter (is_live (settled later) later.players) (kept core ++ added_by core event.entry))

-- the settled frame after an event is found among the paths that were kept and those that it added
abbrev pub SettledAfter : Type 0
SettledAfter = AfterAny (λ core event later. settled later ≡ longest (kept core ++ added_by core event.entry) (timeline later.players (min (front later.players) later.frame)))

-- the cell of a player who guesses: known, then the words of the guess, then the last of them by the mask
abbrev pub GuessedCells : Type 0
GuessedCells =
    (player : Player) (words : List ℕ) (t : ℕ) → player.gone ≡ false → 1 ≤ length words
    → cell_at t (with_words words player)
    ≡ (if nat_lt t (length player.words) then cell_at t player
    else (if nat_lt (t - length player.words) (length words) then Word (slice_index words (t - length player.words))
    else Word (bit_and (last_word player.before words) player.mask)))

-- a job: its path is the longest kept one that begins the guess, its rows are the next ones, 1 to 8
pub record IsJobOf (core : Core) (guess : Rows) (job : Branch) : Type 0 where
  pub start_kept : contains (kept core) (start_of core job) ≡ true
  pub start_is : start_of core job ≡ take (longest (kept core) guess) guess
  pub rows_are : job.rows ≡ take BRANCH_LIMIT (drop (longest (kept core) guess) guess)
  pub some : 1 ≤ length job.rows
  pub few : length job.rows ≤ BRANCH_LIMIT
  pub base : job.path.base ≡ settled core
  pub short : length job.path.rows.items < PATH_LIMIT

-- the job of a guess that is not refused
abbrev pub JobsStartKept : Type 0
JobsStartKept = Always (λ settings core. (p until : ℕ) (words : List ℕ) (job : Branch)
    → first_refusal (guess_tests settings.limit core p words until) ≡ None → guessed_job core p words until ≡ Some job
    → IsJobOf core (guessed_time core.players p words until) job)

-- the core after any events is the one that the log of the accepted ones leads to, and counts them
abbrev pub LogReplays : Type 0
LogReplays = (settings : Settings) (game : Game) (events : List CoreEvent) → played settings game events ≡ replay settings (log_of settings game events)

-- each entry of a log was accepted where the entries before it lead to
abbrev pub EntriesWereAccepted : Type 0
EntriesWereAccepted =
    (settings : Settings) (game : Game) (events : List CoreEvent) (place : ℕ) (entry : Entry) → slice_get (log_of settings game events) place ≡ Some entry
    → (value : Value) × (is_accepted settings game (replay settings (take place (log_of settings game events))) (record { entry = entry; value = value }) ≡ true)

abbrev pub LogIsCounted : Type 0
LogIsCounted = (settings : Settings) (game : Game) (events : List CoreEvent) → (played settings game events).logged ≡ length (log_of settings game events)

-- what is kept fits a path of 24 rows from the settled frame on
abbrev pub KeptAreShort : Type 0
KeptAreShort = Always (λ settings core. (path : Rows) → contains (kept core) path ≡ true → length path ≤ settled core + PATH_LIMIT)

-- each player's confirmed words past the settled frame fit its queue; a local one's are at most the
-- threshold, the longest delay and one
abbrev pub QueuesAreShort : Type 0
QueuesAreShort = Always (λ settings core. (place : ℕ) (player : Player) → slice_get core.players place ≡ Some player
    → (length player.words ≤ settled core + QUEUE_LIMIT) × (player.local ≡ true → length player.words ≤ settled core + settings.threshold + DELAY_LIMIT + 1))

-- a local player has a word for each frame of its delay, for each frame before this one, and for this one if it
-- was given: so a word that is given in a frame counts as many frames later as the delay
abbrev pub LocalWordsAreDelayed : Type 0
LocalWordsAreDelayed = Always (λ settings core. (place : ℕ) (player : Player) → slice_get core.players place ≡ Some player → player.local ≡ true
    → length player.words ≡ core.frame + delay_at settings place + (if player.given then 1 else 0))

abbrev pub FramesEnd : Type 0
FramesEnd = Always (λ settings core. core.frame ≤ settings.limit)

abbrev pub LogEnds : Type 0
LogEnds = Always (λ settings core. core.logged ≤ settings.log)

abbrev pub PlayersStay : Type 0
PlayersStay = Always (λ settings core. length core.players ≡ settings.players)
