-- Partial rolls, by computation: the game refused in a roll, after so many new states.
use Rattle.std.proofs.Common.{◌≡◌, List, [], ◌∷◌, ◌++◌, refl, Some, None}
use Rattle.test_rules.proofs.Scripts.{Command, G, C, L, R, S, A, P, Line, ok, taken, refused, job, at, lines, rest, claimed, shown_after, row_of, full, two}

-- at frame 2, after a word that wasn't predicted: a roll to frame 2 costs 2, and makes the states 7 and 77
abbrev late_word : List Command
late_word = L 1 1 ∷ A ∷ L 1 1 ∷ A ∷ R 2 0 3 ∷ []

-- the lines after those
abbrev then : List Command → List Line
then commands = rest 5 (lines (two 0 full) (late_word ++ commands))

-- the roll that isn't refused
pub whole_roll : then (S ∷ []) ≡ at 2 0 2 1 77 ∷ []
whole_roll = refl

-- after no state: the next roll costs what it would have cost. A partial roll of no state is an event
pub partial_of_none : then (P 2 0 ∷ C ∷ S ∷ []) ≡ refused 107 ∷ refused 117 ∷ at 2 0 2 1 77 ∷ []
partial_of_none = refl

-- after one state: the next roll starts there, so the state stays saved, and it alone
pub partial_of_one : then (P 2 1 ∷ C ∷ S ∷ []) ≡ refused 107 ∷ refused 117 ∷ at 2 1 1 1 77 ∷ []
partial_of_one = refl

-- after all states: the next roll runs none, yet the partial one showed none and left no claim
pub partial_of_all : then (P 2 2 ∷ C ∷ S ∷ []) ≡ refused 107 ∷ refused 117 ∷ at 2 2 0 1 77 ∷ []
partial_of_all = refl

-- two partial rolls, one after the other: the second starts where the first one ended, and one state is left to it
pub partial_twice : then (P 2 1 ∷ P 2 2 ∷ P 2 1 ∷ S ∷ []) ≡ refused 107 ∷ refused 11 ∷ refused 107 ∷ at 2 2 0 1 77 ∷ []
partial_twice = refl

-- one that can't be is refused and changes nothing: more states than the roll has, a frame that is past, the next
-- frame without the local word, and one after the next. The claim is still that of the last roll
pub impossible_partial :
    then (P 2 3 ∷ P 1 0 ∷ P 0 0 ∷ P 3 0 ∷ P 4 0 ∷ C ∷ S ∷ [])
    ≡ refused 11 ∷ refused 11 ∷ refused 11 ∷ refused 11 ∷ refused 11 ∷ claimed 2 0 (row_of 1 0 ∷ row_of 1 0 ∷ []) ([] ∷ (row_of 1 0 ∷ []) ∷ []) 1 [] ∷ at 2 0 2 1 77 ∷ []
impossible_partial = refl

-- to the next frame, once the local word is given: after 0, 1, 2 and all 3 states; one more can't be
pub partial_to_next : then (L 1 1 ∷ P 3 0 ∷ A ∷ []) ++ then (L 1 1 ∷ P 3 1 ∷ A ∷ []) ++ then (L 1 1 ∷ P 3 2 ∷ A ∷ []) ++ then (L 1 1 ∷ P 3 3 ∷ A ∷ []) ++ then (L 1 1 ∷ P 3 4 ∷ A ∷ [])
    ≡ (ok ∷ refused 107 ∷ at 3 0 3 1 777 ∷ []) ++ (ok ∷ refused 107 ∷ at 3 1 2 1 777 ∷ []) ++ (ok ∷ refused 107 ∷ at 3 2 1 1 777 ∷ []) ++ (ok ∷ refused 107 ∷ at 3 3 0 1 777 ∷ []) ++ ok ∷ refused 11 ∷ at 3 0 3 1 777 ∷ []
partial_to_next = refl

-- the frame stays, and so do the words that were given for it: a second one is refused, and the next roll goes there
pub partial_keeps_frame :
    lines (two 0 full) (L 1 1 ∷ P 1 1 ∷ L 1 1 ∷ S ∷ P 2 0 ∷ A ∷ P 2 0 ∷ [])
    ≡ ok ∷ refused 107 ∷ refused 102 ∷ at 0 0 0 0 0 ∷ refused 11 ∷ at 1 1 0 0 1 ∷ refused 11 ∷ []
partial_keeps_frame = refl

-- of two local players both have to be given
pub partial_of_two_local :
    lines (record (two 0 full) { local = 3 }) (L 1 1 ∷ P 1 0 ∷ L 2 1 ∷ P 1 1 ∷ A ∷ []) ≡ ok ∷ refused 11 ∷ ok ∷ refused 107 ∷ at 1 1 0 1 3 ∷ []
partial_of_two_local = refl

-- to the frame, after a partial roll to the next one: what both share is saved
pub partial_to_next_then_sync : then (L 1 1 ∷ P 3 1 ∷ S ∷ P 3 1 ∷ S ∷ []) ≡ ok ∷ refused 107 ∷ at 2 1 1 1 77 ∷ refused 107 ∷ at 2 2 0 1 77 ∷ []
partial_to_next_then_sync = refl

-- no state is shown after one, also where it made all; one that is refused leaves what was shown, and a roll shows again
pub shown_after_partial :
    shown_after (two 0 full) (S ∷ P 0 0 ∷ []) ∷ shown_after (two 0 full) (late_word ++ P 2 2 ∷ []) ∷ shown_after (two 0 full) (late_word ++ P 2 3 ∷ []) ∷ shown_after (two 0 full) (late_word ++ P 2 1 ∷ S ∷ []) ∷ []
    ≡ None ∷ None ∷ Some (row_of 1 0 ∷ row_of 1 0 ∷ []) ∷ Some (row_of 1 3 ∷ row_of 1 3 ∷ []) ∷ []
shown_after_partial = refl

-- on a fresh session too, where it costs nothing and can make no state
pub partial_at_start : lines (two 0 full) (P 0 1 ∷ P 1 0 ∷ S ∷ C ∷ P 0 0 ∷ C ∷ []) ≡ refused 11 ∷ refused 11 ∷ at 0 0 0 0 0 ∷ claimed 2 0 [] ([] ∷ []) 0 [] ∷ refused 107 ∷ refused 117 ∷ []
partial_at_start = refl

-- what it saves is settled at once, where it is confirmed: a guess may then end 25 rows on, and a word of frame 0 that
-- other states contradict leaves only the settled one
pub partial_settles :
    then (G 2 25 (1 ∷ []) ∷ P 2 0 ∷ G 2 25 (1 ∷ []) ∷ P 2 1 ∷ G 2 25 (1 ∷ []) ∷ S ∷ C ∷ [])
    ≡ refused 11 ∷ refused 107 ∷ refused 11 ∷ refused 107 ∷ job 0 8 ∷ at 2 1 1 1 77 ∷ claimed 2 1 (row_of 1 3 ∷ []) ([] ∷ []) 1 [] ∷ []
partial_settles = refl

-- what one saved is kept, so a roll after another word that wasn't predicted starts from it: 7, and then 1 and twice 5
pub partial_then_word : then (P 2 1 ∷ R 2 1 5 ∷ S ∷ []) ≡ refused 107 ∷ taken ∷ at 2 1 1 2 81 ∷ []
partial_then_word = refl

-- it is an entry of the log: refused where the log is full, after its own test, and one entry more where it isn't
pub partial_in_log :
    lines (record (two 0 full) { log = 2 }) (L 1 0 ∷ A ∷ P 1 1 ∷ P 1 0 ∷ []) ++ lines (record (two 0 full) { log = 2 }) (L 1 0 ∷ P 1 0 ∷ A ∷ [])
    ≡ ok ∷ at 1 0 1 0 0 ∷ refused 11 ∷ refused 114 ∷ ok ∷ refused 107 ∷ refused 114 ∷ []
partial_in_log = refl
