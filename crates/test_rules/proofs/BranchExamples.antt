-- Branches made by hand, by computation: no guess makes most of these, and each shows one step of their judgement.
use Rattle.std.proofs.Common.{◌≡◌, ℕ, zero, suc, List, [], ◌∷◌, ◌++◌, refl}
use Rattle.roll_frame.specs.Cells.{Rows}
use Rattle.roll_frame.specs.declared.row.Cell.{Cell}
use Rattle.roll_frame.specs.declared.row.Cell.TheVariants.{Word, Gone}
use Rattle.test_rules.proofs.Scripts.{Command, L, R, D, S, A, H, Line, ok, taken, refused, gone, added, at, lines, rest, row_of, full, two}

-- three states are kept, of frames 0, 1 and 2: of no row, and of one and two rows 1,0. Nothing is settled
abbrev frames : List Command
frames = L 1 1 ∷ A ∷ L 1 1 ∷ A ∷ []

-- the lines after those
abbrev after_frames : List Command → List Line
after_frames commands = rest 4 (lines (two 0 full) (frames ++ commands))

-- the row of frame 0 is settled, and the states of frames 1 and 2 are kept, whose numbers are 1 and 11
abbrev settled_one : List Command
settled_one = frames ++ R 2 0 0 ∷ S ∷ []

-- the lines after those
abbrev after_settled : List Command → List Line
after_settled commands = rest 6 (lines (two 0 full) (settled_one ++ commands))

abbrev zeros : ℕ → Rows
zeros zero = []
zeros (suc k) = row_of 0 0 ∷ zeros k

abbrev empty : List Cell
empty = []

abbrev narrow : List Cell
narrow = Word 0 ∷ []

abbrev broad : List Cell
broad = Word 0 ∷ Word 0 ∷ Word 0 ∷ []

-- where each script begins
pub three_states : lines (two 0 full) settled_one ≡ ok ∷ at 1 0 1 0 1 ∷ ok ∷ at 2 1 1 0 11 ∷ taken ∷ at 2 2 0 1 11 ∷ []
three_states = refl

-- The anchor. A path that ends before the settled frame is compared there, one row on: 100,000 comes to 1 like 0 does.
-- No comparison of the first state, at the end of its path, which would answer 108. What it saves is right
pub right_at_anchor : after_settled (H 0 [] 100000 (row_of 1 0 ∷ row_of 1 5 ∷ []) ∷ R 2 1 5 ∷ S ∷ []) ≡ added 1 ∷ taken ∷ at 2 2 0 2 21 ∷ []
right_at_anchor = refl

-- the same, wrong at the anchor: 4 comes to 41 there. A path that ends before the settled frame is judged too
pub wrong_at_anchor : after_settled (H 0 [] 4 (row_of 1 0 ∷ row_of 1 5 ∷ []) ∷ H 0 [] 0 (row_of 1 0 ∷ row_of 1 5 ∷ []) ∷ []) ≡ refused 108 ∷ added 1 ∷ []
wrong_at_anchor = refl

-- 100,000 at frame 0, which is the anchor, comes to what is right one row on: no comparison of the last state
pub right_at_end_alone : lines (two 0 full) (H 0 [] 100000 (zeros 1) ∷ H 0 [] 0 (zeros 1) ∷ []) ≡ refused 108 ∷ added 1 ∷ []
right_at_end_alone = refl

-- the anchor of a path past the settled frame, 0 here, is the path's end: 100,001 in place of 1 is wrong there, though
-- it comes to what is right at the kept state of frame 2; no comparison at the settled frame, or at the last kept state
pub anchor_past_settled :
    after_frames (H 0 (row_of 1 0 ∷ []) 100001 (row_of 1 0 ∷ row_of 1 5 ∷ []) ∷ H 0 (row_of 1 0 ∷ []) 0 (row_of 1 0 ∷ row_of 1 5 ∷ []) ∷ H 0 (row_of 1 0 ∷ []) 1 (row_of 1 0 ∷ row_of 1 5 ∷ []) ∷ [])
    ≡ refused 108 ∷ refused 108 ∷ added 1 ∷ []
anchor_past_settled = refl

-- two rows past it, and a path behind one settled row: each has its number at the path's end, not at the settled frame
pub anchor_at_path_end :
    after_frames (H 0 (row_of 1 0 ∷ row_of 1 0 ∷ []) 1 (row_of 1 5 ∷ []) ∷ H 0 (row_of 1 0 ∷ row_of 1 0 ∷ []) 11 (row_of 1 5 ∷ []) ∷ [])
    ++ after_settled (H 1 (row_of 1 0 ∷ []) 1 (row_of 2 5 ∷ []) ∷ H 1 (row_of 1 0 ∷ []) 11 (row_of 2 5 ∷ []) ∷ H 1 [] 1 (row_of 1 0 ∷ row_of 2 5 ∷ []) ∷ [])
    ≡ refused 108 ∷ added 1 ∷ refused 108 ∷ added 1 ∷ added 0 ∷ []
anchor_at_path_end = refl

-- Rows of another width. In the path: no test of the branch's own rows alone, which would leave 112 to these
pub width_in_path :
    lines (two 0 full) (H 0 (narrow ∷ []) 0 (zeros 1) ∷ H 0 (broad ∷ []) 0 (zeros 1) ∷ [])
    ++ after_frames (H 0 (row_of 1 0 ∷ narrow ∷ []) 11 (zeros 1) ∷ H 0 (empty ∷ row_of 1 0 ∷ []) 11 (zeros 1) ∷ [])
    ≡ refused 108 ∷ refused 108 ∷ refused 108 ∷ refused 108 ∷ []
width_in_path = refl

-- in the branch's own rows, the first and a later one: no test of the path alone, which would add 0 and 1 states
pub width_in_rows :
    lines (two 0 full) (H 0 [] 0 (broad ∷ []) ∷ H 0 [] 0 (row_of 0 0 ∷ narrow ∷ []) ∷ H 0 [] 0 (row_of 0 0 ∷ row_of 0 0 ∷ []) ∷ [])
    ≡ refused 108 ∷ refused 108 ∷ added 2 ∷ []
width_in_rows = refl

-- a base past the settled frame is refused though the frame is further on, and the timeline's rows lead to a kept state
-- with this number: those rows may change. The same path by its own rows is let in
pub base_past_settled :
    after_frames (H 1 [] 1 (row_of 1 5 ∷ []) ∷ H 2 [] 11 (row_of 1 5 ∷ []) ∷ H 0 (row_of 1 0 ∷ []) 1 (row_of 1 5 ∷ []) ∷ [])
    ++ after_settled (H 2 [] 11 (row_of 1 5 ∷ []) ∷ H 1 [] 1 (row_of 1 5 ∷ []) ∷ [])
    ≡ refused 108 ∷ refused 108 ∷ added 1 ∷ refused 108 ∷ added 1 ∷ []
base_past_settled = refl

-- The tests in their order. A base past the settled frame, and another width, come before too many rows
pub stranger_before_too_far : lines (two 0 full) (H 1 (zeros 24) 0 (zeros 1) ∷ H 0 (narrow ∷ zeros 23) 0 (zeros 1) ∷ H 0 (zeros 24) 0 (broad ∷ []) ∷ []) ≡ refused 108 ∷ refused 108 ∷ refused 108 ∷ []
stranger_before_too_far = refl

-- a branch ends at most 24 rows past the settled frame, 0 and then 1: no count from frame 0, and none of own rows alone
pub rows_past_settled :
    lines (two 0 full) (H 0 (zeros 16) 0 (zeros 8) ∷ H 0 (zeros 17) 0 (zeros 8) ∷ [])
    ++ after_settled (H 1 (zeros 16) 0 (zeros 8) ∷ H 1 (zeros 17) 0 (zeros 8) ∷ H 0 (row_of 1 0 ∷ row_of 1 9 ∷ zeros 15) 0 (zeros 8) ∷ [])
    ≡ refused 111 ∷ refused 109 ∷ refused 112 ∷ refused 109 ∷ refused 111 ∷ []
rows_past_settled = refl

-- one that ends at the settled frame is late, whatever its row and its number; one that ends a row later isn't
pub late_before_dead : after_settled (H 0 [] 7 (row_of 5 5 ∷ []) ∷ H 0 [] 0 (row_of 1 0 ∷ row_of 1 0 ∷ []) ∷ []) ≡ refused 110 ∷ added 0 ∷ []
late_before_dead = refl

-- an impossible anchor, by a word of the path or of the rows up to the settled frame, comes before one that isn't kept,
-- and that before a wrong number
pub dead_before_orphan :
    after_settled (H 0 (row_of 5 0 ∷ []) 50 (row_of 1 0 ∷ []) ∷ H 0 [] 0 (row_of 5 0 ∷ row_of 1 0 ∷ []) ∷ H 0 (row_of 1 0 ∷ row_of 1 7 ∷ []) 99 (row_of 1 0 ∷ []) ∷ H 0 (row_of 1 0 ∷ row_of 1 7 ∷ []) 25 (row_of 1 0 ∷ []) ∷ [])
    ≡ refused 112 ∷ refused 112 ∷ refused 111 ∷ refused 111 ∷ []
dead_before_orphan = refl

-- a wrong number is refused also where nothing would be new
pub stranger_with_nothing_new : after_settled (H 0 (row_of 1 0 ∷ []) 2 (row_of 1 0 ∷ []) ∷ H 0 (row_of 1 0 ∷ []) 1 (row_of 1 0 ∷ []) ∷ []) ≡ refused 108 ∷ added 0 ∷ []
stranger_with_nothing_new = refl

-- What is new: the possible rows past the anchor, here one of two, and none; the same branch again adds none. The state
-- that was saved is found
pub possible_prefixes :
    lines (two 0 full) (R 2 0 7 ∷ R 2 1 0 ∷ H 0 [] 0 (row_of 1 7 ∷ row_of 1 3 ∷ []) ∷ H 0 [] 0 (row_of 1 7 ∷ row_of 1 3 ∷ []) ∷ H 0 [] 0 (row_of 2 3 ∷ row_of 1 0 ∷ []) ∷ L 1 1 ∷ A ∷ [])
    ≡ taken ∷ taken ∷ added 1 ∷ added 0 ∷ added 0 ∷ ok ∷ at 1 1 0 1 15 ∷ []
possible_prefixes = refl

-- a graft settles what it brings: the row of frame 0, whose word came before it. So a branch that ends there is late
pub settled_by_graft : after_frames (R 2 0 3 ∷ H 0 [] 0 (row_of 1 3 ∷ row_of 1 3 ∷ []) ∷ H 0 [] 0 (row_of 1 3 ∷ []) ∷ S ∷ []) ≡ taken ∷ added 2 ∷ refused 110 ∷ at 2 2 0 1 77 ∷ []
settled_by_graft = refl

-- a cell of a player who has left, in a frame that isn't confirmed, is possible, and right once the player leaves
pub gone_ahead : lines (two 0 full) (H 0 [] 0 ((Word 0 ∷ Gone ∷ []) ∷ []) ∷ L 1 0 ∷ D 2 ∷ A ∷ []) ≡ added 1 ∷ ok ∷ gone 2 ∷ at 1 1 0 1 5 ∷ []
gone_ahead = refl

-- it isn't where a word is confirmed, nor is a word where the player has left, 0 neither
pub gone_or_there :
    lines (two 0 full) (R 2 0 0 ∷ H 0 [] 0 ((Word 0 ∷ Gone ∷ []) ∷ []) ∷ D 2 ∷ H 0 [] 0 (row_of 0 0 ∷ row_of 0 0 ∷ []) ∷ H 0 [] 0 (row_of 0 0 ∷ (Word 0 ∷ Gone ∷ []) ∷ []) ∷ [])
    ≡ taken ∷ added 0 ∷ gone 2 ∷ added 1 ∷ added 1 ∷ []
gone_or_there = refl

-- a full log comes after all other tests, and refuses a branch that adds none too
pub log_full_of_branches :
    lines (record (two 0 full) { log = 1 }) (H 0 [] 0 (zeros 1) ∷ H 0 [] 4 (zeros 2) ∷ H 0 [] 0 (zeros 2) ∷ H 0 [] 0 (zeros 1) ∷ [])
    ≡ added 1 ∷ refused 108 ∷ refused 114 ∷ refused 114 ∷ []
log_full_of_branches = refl
