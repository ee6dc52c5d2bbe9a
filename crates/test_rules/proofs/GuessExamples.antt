-- Guesses, by computation: which are refused, which rows a job has, and what its branch saves.
use Rattle.std.proofs.Common.{◌≡◌, ℕ, zero, suc, List, [], ◌∷◌, refl}
use Rattle.test_rules.proofs.Scripts.{G, B, L, R, D, S, A, ok, taken, refused, gone, job, kept, added, at, lines, full, two}

-- a guess may end at the frame limit, and not past it: no guess of frames that no session reaches
pub guess_to_frame_limit : lines (record (two 0 full) { limit = 2 }) (G 2 2 (5 ∷ []) ∷ G 2 3 (5 ∷ []) ∷ []) ≡ job 0 2 ∷ refused 11 ∷ []
guess_to_frame_limit = refl

-- the same where the limit is more than 24 frames away: 24 rows past the settled frame, and no more
pub guess_of_24_rows : lines (two 0 full) (G 2 24 (5 ∷ []) ∷ G 2 25 (5 ∷ []) ∷ G 2 0 (5 ∷ []) ∷ []) ≡ job 0 8 ∷ refused 11 ∷ refused 11 ∷ []
guess_of_24_rows = refl

abbrev countdown : ℕ → List ℕ
countdown zero = []
countdown (suc k) = k ∷ countdown k

-- 1 to 24 words: 25 are refused, and so are none
pub guess_of_24_words : lines (two 0 full) (G 2 24 (countdown 24) ∷ G 2 24 (countdown 25) ∷ G 2 1 (countdown 1) ∷ G 2 1 [] ∷ []) ≡ job 0 8 ∷ refused 11 ∷ job 1 1 ∷ refused 11 ∷ []
guess_of_24_words = refl

-- the same with a settled row, which is a confirmed word too: the words of a guess are counted by themselves
pub guess_of_24_words_past_settled :
    lines (two 0 full) (L 1 1 ∷ A ∷ R 2 0 0 ∷ S ∷ G 2 25 (countdown 24) ∷ G 2 25 (countdown 25) ∷ [])
    ≡ ok ∷ at 1 0 1 0 1 ∷ taken ∷ at 1 1 0 1 1 ∷ job 0 8 ∷ refused 11 ∷ []
guess_of_24_words_past_settled = refl

-- the end of a guess counts from the settled frame, here 1: it isn't past that, or 25 rows past it, in the refused ones;
-- the job of the last one starts at the kept state of frame 1: that of frame 2 came from another row
pub guess_past_settled :
    lines (two 0 full) (L 1 1 ∷ A ∷ L 1 1 ∷ A ∷ R 2 0 0 ∷ S ∷ G 2 1 (5 ∷ []) ∷ G 2 25 (5 ∷ []) ∷ G 2 26 (5 ∷ []) ∷ G 2 2 (5 ∷ []) ∷ [])
    ≡ ok ∷ at 1 0 1 0 1 ∷ ok ∷ at 2 1 1 0 11 ∷ taken ∷ at 2 2 0 1 11 ∷ refused 11 ∷ job 0 8 ∷ refused 11 ∷ job 1 1 ∷ []
guess_past_settled = refl

-- a job has at most 8 rows, and starts where the kept states end: no job of 20 rows, and none that runs a row again
pub long_guess :
    lines (two 0 full) (G 2 20 (3 ∷ []) ∷ B 0 ∷ G 2 20 (3 ∷ []) ∷ B 1 ∷ G 2 20 (3 ∷ []) ∷ B 2 ∷ G 2 20 (3 ∷ []) ∷ [])
    ≡ job 0 8 ∷ added 8 ∷ job 1 8 ∷ added 8 ∷ job 2 4 ∷ added 4 ∷ kept ∷ []
long_guess = refl

-- each guessed word counts for one frame, the last one for all later frames: all three states are found again
pub guessed_words :
    lines (two 0 full) (G 2 3 (3 ∷ 4 ∷ []) ∷ B 0 ∷ R 2 0 3 ∷ R 2 1 4 ∷ L 1 0 ∷ A ∷ L 1 0 ∷ A ∷ L 1 0 ∷ A ∷ [])
    ≡ job 0 3 ∷ added 3 ∷ taken ∷ taken ∷ ok ∷ at 1 1 0 1 6 ∷ ok ∷ at 2 2 0 2 68 ∷ ok ∷ at 3 3 0 2 688 ∷ []
guessed_words = refl

-- guessed words come after the confirmed ones, and replace none of them
pub guess_after_confirmed :
    lines (two 0 full) (R 2 0 7 ∷ G 2 2 (3 ∷ []) ∷ B 0 ∷ L 1 0 ∷ A ∷ R 2 1 3 ∷ L 1 0 ∷ A ∷ [])
    ≡ taken ∷ job 0 2 ∷ added 2 ∷ ok ∷ at 1 1 0 1 14 ∷ taken ∷ ok ∷ at 2 2 0 2 146 ∷ []
guess_after_confirmed = refl

-- a local player may be guessed: no refusal 2 for it
pub guess_of_local_player : lines (two 0 full) (G 1 2 (4 ∷ 5 ∷ []) ∷ B 0 ∷ L 1 4 ∷ A ∷ L 1 5 ∷ A ∷ []) ≡ job 0 2 ∷ added 2 ∷ ok ∷ at 1 1 0 0 4 ∷ ok ∷ at 2 2 0 0 45 ∷ []
guess_of_local_player = refl

-- who isn't there, then who has left, and only then the words and the end
pub guess_refusals_in_order : lines (two 0 full) (D 2 ∷ G 3 0 [] ∷ G 0 1 (1 ∷ []) ∷ G 2 0 [] ∷ G 2 1 (1 ∷ []) ∷ []) ≡ gone 2 ∷ refused 2 ∷ refused 2 ∷ refused 9 ∷ refused 9 ∷ []
guess_refusals_in_order = refl

-- a job is taken away by its first graft, also by one that is refused, and its number isn't given again
pub job_is_taken_away :
    lines (two 0 full) (G 2 2 (3 ∷ []) ∷ B 0 ∷ B 0 ∷ G 2 2 (4 ∷ []) ∷ R 2 0 5 ∷ L 1 0 ∷ A ∷ B 1 ∷ B 1 ∷ B 0 ∷ G 2 2 (6 ∷ []) ∷ [])
    ≡ job 0 2 ∷ added 2 ∷ refused 120 ∷ job 1 2 ∷ taken ∷ ok ∷ at 1 0 1 1 10 ∷ refused 112 ∷ refused 120 ∷ refused 120 ∷ job 2 1 ∷ []
job_is_taken_away = refl
