-- Worked examples, by computation.
use Rattle.std.proofs.Common.{◌≡◌, ℕ, zero, suc, List, [], ◌∷◌, ◌++◌, refl, Some, None}
use Rattle.roll_frame.specs.Cells.{Rows}
use Rattle.roll_frame.specs.Settings.{start_refusal, none_before, none_first}
use Rattle.roll_frame.specs.declared.settings.Settings.{Settings}
use Rattle.roll_frame.specs.declared.profile.Profile.TheVariants.{Ggpo, Wide}
use Rattle.roll_frame.specs.declared.refusal.Refusal.TheVariants.{InvalidRequest, PlayerOutOfRange}
use Rattle.roll_frame.specs.declared.row.Cell.TheVariants.{Word, Gone}
use Rattle.test_rules.proofs.Scripts.{Command, G, B, C, L, R, D, S, A, H, Line, ok, taken, repeated, refused, gone, job, kept, added, claim, at, tally, do_command, fresh, lines, rest, row_of, path_of, full, two}

-- two frames, and what they print
abbrev frames : List Command
frames = L 1 1 ∷ A ∷ L 1 1 ∷ A ∷ []

abbrev shown : List Line
shown = ok ∷ at 1 0 1 0 1 ∷ ok ∷ at 2 1 1 0 11 ∷ []

abbrev times : ℕ → List Command → List Command
times zero commands = []
times (suc k) commands = commands ++ times k commands

pub sync_at_start : lines (two 0 full) (S ∷ []) ≡ at 0 0 0 0 0 ∷ []
sync_at_start = refl

pub two_frames : lines (two 0 full) frames ≡ shown
two_frames = refl

pub late_input :
    lines (two 0 full) (frames ++ R 2 0 3 ∷ S ∷ C ∷ [])
    ≡ shown ++ taken ∷ at 2 0 2 1 77 ∷ claim (record { players = 2; base = 0; time = row_of 1 3 ∷ row_of 1 3 ∷ []; kept = path_of 0 [] ∷ []; from = 0; differs = [] }) ∷ []
late_input = refl

pub grafted_guess :
    lines (two 0 full) (frames ++ G 2 2 (3 ∷ []) ∷ B 0 ∷ R 2 0 3 ∷ S ∷ C ∷ [])
    ≡ shown ++ job 0 2 ∷ added 2 ∷ taken ∷ at 2 2 0 1 77 ∷ claim (record { players = 2; base = 1; time = row_of 1 3 ∷ []; kept = path_of 1 [] ∷ path_of 1 (row_of 1 3 ∷ []) ∷ []; from = 2; differs = [] }) ∷ []
grafted_guess = refl

pub right_prediction : lines (two 0 full) (frames ++ R 2 0 0 ∷ S ∷ []) ≡ shown ++ taken ∷ at 2 2 0 1 11 ∷ []
right_prediction = refl

pub branch_ahead :
    lines (two 0 full) (frames ++ R 2 0 0 ∷ S ∷ L 1 1 ∷ A ∷ G 2 3 (3 ∷ 0 ∷ []) ∷ B 0 ∷ R 2 1 3 ∷ S ∷ C ∷ [])
    ≡ shown ++ taken ∷ at 2 2 0 1 11 ∷ ok ∷ at 3 2 1 1 111 ∷ job 0 2 ∷ added 2 ∷ taken ∷ at 3 2 1 2 177
    ∷ claim (record { players = 2; base = 2; time = row_of 1 3 ∷ []; kept = path_of 2 [] ∷ path_of 2 (row_of 1 0 ∷ []) ∷ []; from = 2; differs = record { state = 1; frame = 2; player = 2 } ∷ [] }) ∷ []
branch_ahead = refl

pub prediction_threshold : rest 16 (lines (two 0 full) (times 8 (L 1 0 ∷ A ∷ []) ++ L 1 0 ∷ R 2 0 0 ∷ L 1 0 ∷ [])) ≡ refused 4 ∷ taken ∷ ok ∷ []
prediction_threshold = refl

pub input_delay : lines (two 2 full) (L 1 9 ∷ A ∷ L 1 0 ∷ A ∷ L 1 0 ∷ A ∷ []) ≡ ok ∷ at 1 0 1 0 0 ∷ ok ∷ at 2 1 1 0 0 ∷ ok ∷ at 3 2 1 0 9 ∷ []
input_delay = refl

pub gap_and_conflict : lines (two 0 full) (R 2 5 1 ∷ R 2 0 1 ∷ R 2 0 1 ∷ R 2 0 2 ∷ []) ≡ refused 103 ∷ taken ∷ repeated ∷ refused 104 ∷ []
gap_and_conflict = refl

pub disconnect : lines (two 0 full) (frames ++ D 2 ∷ S ∷ R 2 0 3 ∷ D 2 ∷ []) ≡ shown ++ gone 2 ∷ at 2 0 2 2 66 ∷ refused 9 ∷ refused 9 ∷ []
disconnect = refl

pub disconnect_claim :
    rest 6 (lines (two 0 full) (frames ++ D 2 ∷ S ∷ C ∷ []))
    ≡ claim (record { players = 2; base = 0; time = (Word 1 ∷ Gone ∷ []) ∷ (Word 1 ∷ Gone ∷ []) ∷ []; kept = path_of 0 [] ∷ []; from = 0; differs = [] }) ∷ []
disconnect_claim = refl

pub same_branch_twice :
    lines (two 0 full) (frames ++ G 2 2 (3 ∷ []) ∷ G 2 2 (3 ∷ []) ∷ R 2 0 3 ∷ S ∷ B 0 ∷ R 2 1 3 ∷ S ∷ B 1 ∷ [])
    ≡ shown ++ job 0 2 ∷ job 1 2 ∷ taken ∷ at 2 0 2 1 77 ∷ added 0 ∷ taken ∷ at 2 2 0 2 77 ∷ refused 110 ∷ []
same_branch_twice = refl

pub dead_branch :
    lines (two 0 full) (frames ++ G 2 2 (3 ∷ []) ∷ G 2 2 (3 ∷ []) ∷ R 2 0 5 ∷ B 0 ∷ S ∷ B 1 ∷ [])
    ≡ shown ++ job 0 2 ∷ job 1 2 ∷ taken ∷ added 0 ∷ at 2 0 2 1 121 ∷ refused 112 ∷ []
dead_branch = refl

pub guess_of_prediction : lines (two 0 full) (L 1 1 ∷ G 2 1 (0 ∷ []) ∷ B 0 ∷ A ∷ []) ≡ ok ∷ job 0 1 ∷ added 1 ∷ at 1 1 0 0 1 ∷ []
guess_of_prediction = refl

pub refusals_in_order :
    lines (two 0 full) (L 2 1 ∷ A ∷ L 1 1 ∷ L 1 1 ∷ R 1 0 1 ∷ D 1 ∷ G 5 1 (0 ∷ []) ∷ C ∷ B 7 ∷ [])
    ≡ refused 2 ∷ refused 101 ∷ ok ∷ refused 102 ∷ refused 2 ∷ refused 2 ∷ refused 2 ∷ refused 117 ∷ refused 120 ∷ []
refusals_in_order = refl

-- the reply to a branch made by hand, whose first state has this number, grafted on a fresh session
abbrev by_hand : ℕ → Rows → ℕ → Rows → Line
by_hand base path number rows = (do_command (two 0 full) tally (fresh (two 0 full)) (H base path number rows)).1

abbrev zeros : ℕ → Rows
zeros zero = []
zeros (suc k) = row_of 0 0 ∷ zeros k

pub strange_branch : by_hand 0 [] 4 (row_of 1 3 ∷ []) ≡ refused 108
strange_branch = refl

pub branches_made_by_hand :
    by_hand 1 [] 0 (zeros 1) ∷ by_hand 0 (zeros 24) 0 (zeros 1) ∷ by_hand 0 (row_of 0 7 ∷ []) 14 (zeros 1) ∷ []
    ≡ refused 108 ∷ refused 109 ∷ refused 111 ∷ []
branches_made_by_hand = refl

pub guess_kept_already : lines (two 0 full) (frames ++ G 2 2 (0 ∷ []) ∷ G 2 0 (1 ∷ []) ∷ G 2 25 (1 ∷ []) ∷ []) ≡ shown ++ kept ∷ refused 11 ∷ refused 11 ∷ []
guess_kept_already = refl

-- player 2's words 0 of the frames below n
abbrev remotes : ℕ → List Command
remotes zero = []
remotes (suc n) = remotes n ++ R 2 n 0 ∷ []

-- a full queue comes last: a word that leaves a gap, or is confirmed otherwise, or repeated, isn't refused for it
pub full_input_queue :
    rest 127 (lines (two 0 full) (remotes 129 ++ R 2 129 0 ∷ R 2 5 1 ∷ R 2 5 0 ∷ L 1 0 ∷ A ∷ R 2 128 0 ∷ []))
    ≡ taken ∷ refused 105 ∷ refused 103 ∷ refused 104 ∷ repeated ∷ ok ∷ at 1 0 1 1 0 ∷ taken ∷ []
full_input_queue = refl

abbrev one : Settings
one = record (two 0 full) { players = 1; limit = 2 }

pub frame_limit : rest 4 (lines one (L 1 0 ∷ A ∷ L 1 0 ∷ A ∷ L 1 0 ∷ [])) ≡ refused 106 ∷ []
frame_limit = refl

-- the threshold comes before the last frame
pub threshold_and_limit :
    lines (record (two 0 full) { limit = 1; threshold = 1 }) (L 1 0 ∷ A ∷ L 1 0 ∷ R 2 0 0 ∷ L 1 0 ∷ [])
    ≡ ok ∷ at 1 0 1 0 0 ∷ refused 4 ∷ taken ∷ refused 106 ∷ []
threshold_and_limit = refl

-- a player who has left repeats nothing, and leaves no gap
pub gone_player : lines (two 0 full) (R 2 0 3 ∷ D 2 ∷ R 2 0 3 ∷ R 2 0 4 ∷ R 2 5 1 ∷ []) ≡ taken ∷ gone 2 ∷ refused 9 ∷ refused 9 ∷ refused 9 ∷ []
gone_player = refl

-- a repeated word is no event, so a full log doesn't refuse it; and a full log comes after all other tests
pub repeated_in_full_log :
    lines (record (two 0 full) { log = 1 }) (R 2 0 3 ∷ R 2 0 3 ∷ R 2 0 4 ∷ R 2 2 3 ∷ A ∷ D 1 ∷ L 2 0 ∷ R 2 1 3 ∷ D 2 ∷ L 1 0 ∷ [])
    ≡ taken ∷ repeated ∷ refused 104 ∷ refused 103 ∷ refused 101 ∷ refused 2 ∷ refused 2 ∷ refused 114 ∷ refused 114 ∷ refused 114 ∷ []
repeated_in_full_log = refl

-- the settled frame is never past the frame: two rows are confirmed and saved, and settled one by one as frames pass
pub settled_up_to_frame :
    lines (two 1 full) (L 1 5 ∷ R 2 0 0 ∷ R 2 1 0 ∷ H 0 [] 0 (row_of 0 0 ∷ row_of 5 0 ∷ []) ∷ S ∷ A ∷ L 1 7 ∷ A ∷ [])
    ≡ ok ∷ taken ∷ taken ∷ added 2 ∷ at 0 0 0 0 0 ∷ at 1 1 0 1 0 ∷ ok ∷ at 2 2 0 2 5 ∷ []
settled_up_to_frame = refl

pub full_log : lines (record (two 0 full) { log = 2 }) (L 1 0 ∷ A ∷ S ∷ []) ≡ ok ∷ at 1 0 1 0 0 ∷ refused 114 ∷ []
full_log = refl

abbrev five : Settings
five = record { profile = Wide; players = 5; local = 1; delays = []; masks = full ∷ full ∷ full ∷ full ∷ full ∷ []; before = none_before; first = none_first; threshold = 15; limit = 1048576; log = 16777216 }

-- settings out of range: five players, two hundred, none; a threshold of 9, of 0; a delay of player 2, a
-- delay of 9; no local player, a local player 3 of two; too many frames and entries, and none
pub too_many_players : start_refusal (record five { profile = Ggpo }) ≡ Some PlayerOutOfRange
too_many_players = refl

pub far_too_many_players : start_refusal (record five { players = 200; local = 0 }) ≡ Some PlayerOutOfRange
far_too_many_players = refl

pub no_players : start_refusal (record five { players = 0 }) ≡ Some PlayerOutOfRange
no_players = refl

pub great_threshold : start_refusal (record (two 0 full) { threshold = 9 }) ≡ Some InvalidRequest
great_threshold = refl

pub no_threshold : start_refusal (record (two 0 full) { threshold = 0 }) ≡ Some InvalidRequest
no_threshold = refl

pub remote_delay : start_refusal (record (two 0 full) { delays = 0 ∷ 1 ∷ [] }) ≡ Some InvalidRequest
remote_delay = refl

pub long_delay : start_refusal (two 9 full) ≡ Some InvalidRequest
long_delay = refl

pub no_local_player : start_refusal (record (two 0 full) { local = 0 }) ≡ Some InvalidRequest
no_local_player = refl

pub local_player_outside : start_refusal (record (two 0 full) { local = 5 }) ≡ Some InvalidRequest
local_player_outside = refl

pub limits_out_of_range :
    start_refusal (record (two 0 full) { limit = 0 }) ∷ start_refusal (record (two 0 full) { limit = 1048577 }) ∷ start_refusal (record (two 0 full) { log = 0 }) ∷ start_refusal (record (two 0 full) { log = 16777217 }) ∷ []
    ≡ Some InvalidRequest ∷ Some InvalidRequest ∷ Some InvalidRequest ∷ Some InvalidRequest ∷ []
limits_out_of_range = refl

-- nine players, and a threshold of 16, of the wide profile
pub wide_out_of_range : start_refusal (record five { players = 9 }) ∷ start_refusal (record five { threshold = 16 }) ∷ [] ≡ Some PlayerOutOfRange ∷ Some InvalidRequest ∷ []
wide_out_of_range = refl

-- at each limit: four players, and eight of the wide profile; a delay of a second local player; one frame, one entry
pub sessions_start_at_limits :
    start_refusal (record (two 0 full) { players = 4 }) ∷ start_refusal (record five { players = 8 }) ∷ start_refusal (record (two 8 full) { local = 3; delays = 8 ∷ 8 ∷ [] }) ∷ start_refusal (record (two 0 full) { limit = 1; log = 1; threshold = 1 }) ∷ []
    ≡ None ∷ None ∷ None ∷ None ∷ []
sessions_start_at_limits = refl

pub sessions_start : start_refusal (two 8 1) ∷ start_refusal one ∷ start_refusal five ∷ [] ≡ None ∷ None ∷ None ∷ []
sessions_start = refl

pub masked_prediction :
    lines (two 0 1) (L 1 1 ∷ A ∷ R 2 0 3 ∷ L 1 0 ∷ A ∷ R 2 1 1 ∷ S ∷ G 2 4 (3 ∷ []) ∷ B 0 ∷ R 2 2 3 ∷ L 1 0 ∷ A ∷ L 1 0 ∷ A ∷ [])
    ≡ ok ∷ at 1 0 1 0 1 ∷ taken ∷ ok ∷ at 2 0 2 1 72 ∷ taken ∷ at 2 2 0 2 72 ∷ job 0 2 ∷ added 2 ∷ taken ∷ ok ∷ at 3 3 0 3 726 ∷ ok ∷ at 4 4 0 3 7262 ∷ []
masked_prediction = refl

-- the same commands up to the second frame, with nothing masked
pub unmasked_prediction : lines (two 0 full) (L 1 1 ∷ A ∷ R 2 0 3 ∷ L 1 0 ∷ A ∷ []) ≡ ok ∷ at 1 0 1 0 1 ∷ taken ∷ ok ∷ at 2 0 2 1 76 ∷ []
unmasked_prediction = refl

pub five_players :
    lines five (L 1 1 ∷ A ∷ R 5 0 2 ∷ S ∷ C ∷ [])
    ≡ ok ∷ at 1 0 1 0 1 ∷ taken ∷ at 1 0 1 0 11 ∷ claim (record { players = 5; base = 0; time = (Word 1 ∷ Word 0 ∷ Word 0 ∷ Word 0 ∷ Word 2 ∷ []) ∷ []; kept = path_of 0 [] ∷ []; from = 0; differs = [] }) ∷ []
five_players = refl

pub wide_threshold : rest 30 (lines five (times 15 (L 1 0 ∷ A ∷ []) ++ L 1 0 ∷ [])) ≡ refused 4 ∷ []
wide_threshold = refl
