-- Branches fill the tree up to 240 kept states, and 224 in the wide profile.
use Rattle.std.proofs.Common.{◌≡◌, ℕ, zero, suc, ◌+◌, List, [], ◌∷◌, ◌++◌, refl}
use Rattle.roll_frame.specs.declared.entry.Entry.TheVariants.{Local, Advance}
use Rattle.roll_frame.specs.declared.profile.Profile.TheVariants.{Wide}
use Rattle.roll_frame.specs.declared.settings.Settings.{Settings}
use Rattle.test_rules.proofs.Scripts.{Command, Do, G, B, H, ok, refused, frame, added, lines, row_of, two, full, rest}

-- k guesses of 8 rows, of this word and the next ones, each grafted as this job and the next ones
abbrev guesses : (word job : ℕ) → ℕ → List Command
guesses word job zero = []
guesses word job (suc k) = guesses word job k ++ G 2 8 ((word + k) ∷ []) ∷ B (job + k) ∷ []

pub full_tree : rest 61 (lines (two 0 full) (guesses 1 0 29 ++ G 2 7 (30 ∷ []) ∷ B 29 ∷ G 2 1 (31 ∷ []) ∷ B 30 ∷ Do (Local 1 0) ∷ Do Advance ∷ [])) ≡ refused 113 ∷ ok ∷ frame 1 0 1 0 (0 ∷ []) ∷ []
full_tree = refl

-- a second branch of the first guess, grafted at the end, adds nothing: it is accepted though the tree is full. One that
-- would add is refused for its wrong number first, and then for want of room
pub full_tree_again :
    rest 62 (lines (two 0 full) (G 2 8 (1 ∷ []) ∷ G 2 8 (1 ∷ []) ∷ B 0 ∷ guesses 2 2 28 ++ G 2 7 (30 ∷ []) ∷ B 30 ∷ G 2 1 (31 ∷ []) ∷ B 31 ∷ Do (Local 1 0) ∷ Do Advance ∷ B 1 ∷ H 0 [] 4 (row_of 0 99 ∷ []) ∷ H 0 [] 0 (row_of 0 99 ∷ []) ∷ []))
    ≡ refused 113 ∷ ok ∷ frame 1 0 1 0 (0 ∷ []) ∷ added 0 ∷ refused 108 ∷ refused 113 ∷ []
full_tree_again = refl

abbrev wide_two : Settings
wide_two = record (two 0 full) { profile = Wide }

pub wide_full_tree : rest 57 (lines wide_two (guesses 1 0 27 ++ G 2 7 (28 ∷ []) ∷ B 27 ∷ G 2 1 (29 ∷ []) ∷ B 28 ∷ Do (Local 1 0) ∷ Do Advance ∷ [])) ≡ refused 113 ∷ ok ∷ frame 1 0 1 0 (0 ∷ []) ∷ []
wide_full_tree = refl
