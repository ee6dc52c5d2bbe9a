-- Claims, by computation: what one lists, in which order, and where its entries stand.
use Rattle.std.proofs.Common.{◌≡◌, ℕ, List, [], ◌∷◌, ◌++◌, refl}
use Rattle.roll_frame.specs.declared.row.Cell.{Cell}
use Rattle.roll_frame.specs.declared.row.Cell.TheVariants.{Word, Gone}
use Rattle.roll_frame.specs.declared.settings.Settings.{Settings}
use Rattle.test_rules.proofs.Scripts.{Command, C, L, R, D, S, A, H, P, Line, ok, taken, refused, gone, added, at, lines, rest, claimed, differ, row_of, full, two}

-- three players, of whom the first is local
abbrev three : Settings
three = record (two 0 full) { players = 3; delays = 0 ∷ 0 ∷ 0 ∷ []; masks = full ∷ full ∷ full ∷ [] }

abbrev cells : ℕ → ℕ → ℕ → List Cell
cells a b c = Word a ∷ Word b ∷ Word c ∷ []

abbrev zero_row : List Cell
zero_row = cells 0 0 0

-- at frame 1 two branches, of two rows each; then a roll to frame 2
abbrev branched : List Command
branched = L 1 0 ∷ A ∷ L 1 0 ∷ H 0 (zero_row ∷ []) 0 (cells 0 0 4 ∷ zero_row ∷ []) ∷ H 0 [] 0 (cells 0 3 4 ∷ cells 0 0 4 ∷ []) ∷ A ∷ []

abbrev branched_lines : List Line
branched_lines = ok ∷ at 1 0 1 0 0 ∷ ok ∷ added 2 ∷ added 2 ∷ at 2 1 1 0 0 ∷ []

abbrev claim_of_two : Line
claim_of_two =
    claimed 3 0 (zero_row ∷ zero_row ∷ [])
    ([] ∷ (zero_row ∷ []) ∷ (cells 0 3 4 ∷ []) ∷ (zero_row ∷ cells 0 0 4 ∷ []) ∷ (cells 0 3 4 ∷ cells 0 0 4 ∷ []) ∷ (zero_row ∷ cells 0 0 4 ∷ zero_row ∷ []) ∷ [])
    1
    (differ 3 1 3 ∷ differ 4 0 2 ∷ [])

-- an entry for each path of two rows, at its first frame and least player, though later ones differ too; none for one as
-- short as the start, though it differs, and none for one past the end
pub least_places : lines three (branched ++ C ∷ []) ≡ branched_lines ++ claim_of_two ∷ []
least_places = refl

-- the claim stays until the next roll, whatever comes and is saved meanwhile: it isn't that of what is kept now
pub claim_stays : rest 6 (lines three (branched ++ R 2 0 3 ∷ H 0 [] 0 (cells 0 3 9 ∷ []) ∷ D 3 ∷ L 1 5 ∷ C ∷ [])) ≡ taken ∷ added 1 ∷ gone 3 ∷ ok ∷ claim_of_two ∷ []
claim_stays = refl

-- with a settled row: the lists begin behind it, and frames still count from 0. A path that a word has ruled out isn't
-- listed, and one of the length of the roll's end has an entry
pub claim_past_settled :
    rest 6 (lines three (branched ++ R 2 0 0 ∷ R 3 0 0 ∷ S ∷ C ∷ L 1 0 ∷ A ∷ C ∷ []))
    ≡ taken ∷ taken ∷ at 2 2 0 1 0 ∷ claimed 3 1 (zero_row ∷ []) ([] ∷ (zero_row ∷ []) ∷ (cells 0 0 4 ∷ []) ∷ (cells 0 0 4 ∷ zero_row ∷ []) ∷ []) 2 []
    ∷ ok ∷ at 3 2 1 1 0 ∷ claimed 3 1 (zero_row ∷ zero_row ∷ []) ([] ∷ (zero_row ∷ []) ∷ (cells 0 0 4 ∷ []) ∷ (cells 0 0 4 ∷ zero_row ∷ []) ∷ []) 2 (differ 3 1 3 ∷ []) ∷ []
claim_past_settled = refl

-- the order of paths: that in which they came doesn't count; at word 0 who is there comes before who has left, and both
-- before word 1. A cell of one who has left differs from word 0
pub gone_in_order :
    lines (two 0 full) (H 0 [] 0 (row_of 0 1 ∷ []) ∷ H 0 [] 0 ((Word 0 ∷ Gone ∷ []) ∷ []) ∷ L 1 0 ∷ A ∷ C ∷ S ∷ C ∷ [])
    ≡ added 1 ∷ added 1 ∷ ok ∷ at 1 0 1 0 0 ∷ claimed 2 0 (row_of 0 0 ∷ []) ([] ∷ ((Word 0 ∷ Gone ∷ []) ∷ []) ∷ (row_of 0 1 ∷ []) ∷ []) 0 (differ 1 0 2 ∷ differ 2 0 2 ∷ [])
    ∷ at 1 1 0 0 0 ∷ claimed 2 0 (row_of 0 0 ∷ []) ([] ∷ (row_of 0 0 ∷ []) ∷ ((Word 0 ∷ Gone ∷ []) ∷ []) ∷ (row_of 0 1 ∷ []) ∷ []) 1 [] ∷ []
gone_in_order = refl

-- what a partial roll saved is listed by the next claim, and is where that roll starts: the partial one has no claim of
-- its own
pub claim_after_partial :
    rest 4 (lines (two 0 full) (L 1 1 ∷ A ∷ L 1 1 ∷ A ∷ R 2 0 3 ∷ P 2 1 ∷ C ∷ H 0 [] 0 (row_of 1 3 ∷ row_of 1 2 ∷ []) ∷ S ∷ C ∷ []))
    ≡ taken ∷ refused 107 ∷ refused 117 ∷ added 1 ∷ at 2 1 1 1 77 ∷ claimed 2 1 (row_of 1 3 ∷ []) ([] ∷ (row_of 1 2 ∷ []) ∷ []) 1 (differ 1 1 2 ∷ []) ∷ []
claim_after_partial = refl
