-- Scripts of a small game, and what is printed for them, by the definitions alone.
use Rattle.std.proofs.Common.{ℕ, zero, suc, ◌-◌, List, [], ◌∷◌, ◌++◌, length, map, fold, Option, Some, None}
use Rattle.std.specs.Prelude.{slice_get, slice_set}
use Rattle.std.specs.Option.{option_map_or}
use Rattle.roll_game.specs.Tally.{tally_step}
use Rattle.roll_frame.specs.declared.claim.Claim.{Claim}
use Rattle.roll_frame.specs.declared.claim.Differ.{Differ}
use Rattle.roll_frame.specs.declared.path.Path.{Path}
use Rattle.roll_frame.specs.Cells.{Rows}
use Rattle.roll_frame.specs.Claims.{claim_of}
use Rattle.roll_frame.specs.Codes.{code_of}
use Rattle.roll_frame.specs.Core.{Core, end_of, first_core, settled}
use Rattle.roll_frame.specs.Events.{CoreEvent, after, reply}
use Rattle.roll_frame.specs.declared.reply.Reply.{Reply}
use Rattle.roll_frame.specs.declared.reply.Reply.TheVariants.{Refused, Done, Taken, Repeated, Disconnected, Synchronized, Reached, Grafted}
use Rattle.roll_frame.specs.Games.{Value, Game}
use Rattle.roll_frame.specs.Grafts.{Branch, start_of}
use Rattle.roll_frame.specs.Guess.{guess_tests, guessed_job}
use Rattle.roll_frame.specs.Paths.{run}
use Rattle.roll_frame.specs.Refusals.{first_refusal}
use Rattle.roll_frame.specs.declared.entry.Entry.{Entry}
use Rattle.roll_frame.specs.declared.refusal.Refusal.{Refusal}
use Rattle.roll_frame.specs.declared.row.Cell.{Cell}
use Rattle.roll_frame.specs.declared.settings.Settings.{Settings}
use Rattle.roll_frame.specs.declared.row.Cell.TheVariants.{Word}
use Rattle.roll_frame.specs.declared.profile.Profile.TheVariants.{Ggpo}
use Rattle.roll_frame.specs.declared.entry.Entry.TheVariants.{Local, Remote, Disconnect, Sync, Advance, Graft, Partial}
use Rattle.roll_frame.specs.Settings.{none_before, none_first}

abbrev pub tally : Game
tally = record { opening = 0 ∷ []; step = tally_step }

-- what a script asks for: an event; a guess; the graft of a job's branch; the graft of a branch made by hand, whose
-- first state has this value; the claim
pub data Command : Type 0 where
  Do : (entry : Entry) → Command
  G : (player until : ℕ) (words : List ℕ) → Command
  B : (job : ℕ) → Command
  ByHand : (branch : Branch) (value : Value) → Command
  C : Command

pub data Line : Type 0 where
  ok : Line
  taken : Line
  repeated : Line
  refused : (code : ℕ) → Line
  gone : (player : ℕ) → Line
  frame : (at from rerun settled : ℕ) (state : Value) → Line
  job : (number rows : ℕ) → Line
  kept : Line
  added : (paths : ℕ) → Line
  claim : (claim : Claim) → Line
  nothing : Line

-- the core, and the jobs that were made, each with the value of the state that it starts from; none where it was taken
pub record Play : Type 0 where
  pub core : Core
  pub jobs : List (Option (Branch × Value))

abbrev pub state_of : Game → Core → Value
state_of game core = option_map_or (λ rows. run game.step game.opening rows) core.shown []

abbrev pub rolled_line : Game → Core → Line
rolled_line game core = option_map_or (λ roll. frame (end_of roll) roll.from (end_of roll - roll.from) (settled core) (state_of game core)) core.last nothing

abbrev pub said : Game → Core → Reply → Line
said game core (Refused why) = refused (code_of why)
said game core Done = ok
said game core Taken = taken
said game core Repeated = repeated
said game core (Disconnected p) = gone p
said game core (Synchronized row) = rolled_line game core
said game core (Reached n d k) = rolled_line game core
said game core (Grafted k) = added k

abbrev pub do_event : Settings → Game → Play → CoreEvent → Play × Line
do_event settings game play event =
    let core : Core = after settings game play.core event in
    (record play { core = core }, said game core (reply settings game play.core event))

abbrev pub give_job : Play → Option (Branch × Value) → Play × Line
give_job play None = (play, kept)
give_job play (Some found) = (record play { jobs = play.jobs ++ Some found ∷ [] }, job (length play.jobs) (length found.0.rows))

abbrev pub do_guess : Settings → Game → Play → ℕ → ℕ → List ℕ → Option Refusal → Play × Line
do_guess settings game play p until words (Some why) = (play, refused (code_of why))
do_guess settings game play p until words None =
    give_job play (option_map_or (λ branch. Some (branch, run game.step game.opening (start_of play.core branch))) (guessed_job play.core p words until) None)

abbrev pub do_graft : Settings → Game → Play → Branch → Value → Play × Line
do_graft settings game play branch value = do_event settings game play (record { entry = Graft 0 (record { path = branch.path; rows = record { items = branch.rows } }); value = value })

-- a job is taken away, whatever becomes of its branch
abbrev pub do_job : Settings → Game → Play → ℕ → Option (Branch × Value) → Play × Line
do_job settings game play k None = (play, refused 120)
do_job settings game play k (Some found) = do_graft settings game (record play { jobs = slice_set play.jobs k None }) found.0 found.1

abbrev pub do_command : Settings → Game → Play → Command → Play × Line
do_command settings game play (Do entry) = do_event settings game play (record { entry = entry; value = [] })
do_command settings game play (G p until words) = do_guess settings game play p until words (first_refusal (guess_tests settings.limit play.core p words until))
do_command settings game play (B k) = do_job settings game play k (option_map_or (λ job. job) (slice_get play.jobs k) None)
do_command settings game play (ByHand branch value) = do_graft settings game play branch value
do_command settings game play C = (play, option_map_or (λ roll. claim (claim_of settings.players roll)) play.core.last (refused 117))

abbrev pub lines_from : Settings → Game → Play → List Command → List Line
lines_from settings game play [] = []
lines_from settings game play (command ∷ commands) =
    let done : Play × Line = do_command settings game play command in
    done.1 ∷ lines_from settings game done.0 commands

abbrev pub fresh : Settings → Play
fresh settings = record { core = first_core settings; jobs = [] }

abbrev pub lines : Settings → List Command → List Line
lines settings commands = lines_from settings tally (fresh settings) commands

-- the path of the state that is shown after a script
abbrev pub shown_after : Settings → List Command → Option Rows
shown_after settings commands = (fold (λ play command. (do_command settings tally play command).0) (fresh settings) commands).core.shown

abbrev pub full : ℕ
full = 4294967295

-- two players, of whom the first is local
abbrev pub two : ℕ → ℕ → Settings
two delay mask = record { profile = Ggpo; players = 2; local = 1; delays = delay ∷ 0 ∷ []; masks = full ∷ mask ∷ []; before = none_before; first = none_first; threshold = 8; limit = 1048576; log = 16777216 }

abbrev pub L : ℕ → ℕ → Command
L p word = Do (Local p word)

abbrev pub R : ℕ → ℕ → ℕ → Command
R p f word = Do (Remote p f word)

abbrev pub A : Command
A = Do Advance

abbrev pub S : Command
S = Do Sync

abbrev pub D : ℕ → Command
D p = Do (Disconnect p)

-- a roll to this frame that the game refused, after so many new states
abbrev pub P : ℕ → ℕ → Command
P to made = Do (Partial to made)

abbrev pub path_of : ℕ → Rows → Path
path_of base rows = record { base = base; rows = record { items = rows } }

-- the graft of a branch made by hand: its path's base and own rows, the number of its first state, and its rows
abbrev pub H : ℕ → Rows → ℕ → Rows → Command
H base path number rows = ByHand (record { path = path_of base path; rows = rows }) (number ∷ [])

-- a row of two players who are there
abbrev pub row_of : ℕ → ℕ → List Cell
row_of a b = Word a ∷ Word b ∷ []

abbrev pub differ : ℕ → ℕ → ℕ → Differ
differ state t p = record { state = state; frame = t; player = p }

-- a claim by its players, its base, its time, its kept paths' rows from the base on, its start and its entries
abbrev pub claimed : ℕ → ℕ → Rows → List Rows → ℕ → List Differ → Line
claimed players base time paths from differs =
    claim (record { players = players; base = base; time = time; kept = map (path_of base) paths; from = from; differs = differs })

abbrev pub at : ℕ → ℕ → ℕ → ℕ → ℕ → Line
at n from rerun settled state = frame n from rerun settled (state ∷ [])

-- the lines after the first n
abbrev pub rest : ℕ → List Line → List Line
rest zero ls = ls
rest (suc n) [] = []
rest (suc n) (l ∷ ls) = rest n ls
