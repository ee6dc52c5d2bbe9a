-- Random scripts with branches made by hand (H), right and wrong, with the lines that an independent program, written
-- from the rules, printed for them.
use Rattle.std.proofs.Common.{◌≡◌, [], ◌∷◌, refl}
use Rattle.roll_frame.specs.declared.profile.Profile.TheVariants.{Ggpo, Wide}
use Rattle.roll_frame.specs.declared.row.Cell.TheVariants.{Word, Gone}
use Rattle.test_rules.proofs.Scripts.{G, B, C, L, R, D, S, A, P, H, ok, taken, refused, gone, job, added, at, claimed, differ, lines}
use Rattle.roll_frame.specs.Settings.{none_before, none_first}

-- two players: thirteen branches by hand, of which five add states, one adds none; refused 108 four times, 110 once,
-- 111 once, 112 once; one claim with three entries
random_branches_1 :
    lines (record { profile = Wide; players = 2; local = 2; delays = 0 ∷ 0 ∷ []; masks = 2 ∷ 4294967295 ∷ []; before = none_before; first = none_first; threshold = 3; limit = 1048576; log = 16777216 })
    (H 0 [] 0 ((Word 0 ∷ Word 3 ∷ []) ∷ (Gone ∷ Word 3 ∷ []) ∷ (Word 0 ∷ Word 1 ∷ []) ∷ (Word 2 ∷ Word 3 ∷ []) ∷ []) ∷ L 2 0 ∷ A ∷ L 2 2 ∷ A ∷ H 0 ((Word 0 ∷ Word 0 ∷ []) ∷ (Word 0 ∷ Word 2 ∷ []) ∷ []) 4 ((Word 0 ∷ Word 1 ∷ []) ∷ (Gone ∷ Word 2 ∷ []) ∷ (Gone ∷ Word 3 ∷ []) ∷ []) ∷ L 2 0 ∷ L 2 0 ∷ H 1 [] 4 ((Word 0 ∷ Word 2 ∷ []) ∷ []) ∷ H 0 ((Word 0 ∷ Word 0 ∷ []) ∷ (Word 0 ∷ Word 2 ∷ []) ∷ []) 4 ((Word 2 ∷ Word 0 ∷ []) ∷ (Word 0 ∷ []) ∷ []) ∷ R 1 0 1 ∷ H 0 [] 0 ((Word 1 ∷ Word 0 ∷ []) ∷ (Word 1 ∷ Word 2 ∷ []) ∷ []) ∷ H 0 [] 100000 ((Word 1 ∷ Word 0 ∷ []) ∷ (Gone ∷ Word 2 ∷ []) ∷ (Word 3 ∷ Word 0 ∷ []) ∷ []) ∷ H 1 ((Word 1 ∷ Word 9 ∷ []) ∷ []) 15 ((Word 0 ∷ Word 0 ∷ []) ∷ (Word 0 ∷ Word 0 ∷ []) ∷ []) ∷ A ∷ C ∷ R 1 1 2 ∷ L 2 0 ∷ A ∷ P 5 1 ∷ S ∷ H 0 ((Word 1 ∷ Word 0 ∷ []) ∷ (Word 2 ∷ Word 2 ∷ []) ∷ []) 16 ((Word 0 ∷ Word 0 ∷ []) ∷ (Word 2 ∷ Word 0 ∷ []) ∷ []) ∷ H 0 ((Word 1 ∷ Word 0 ∷ []) ∷ (Word 2 ∷ Word 2 ∷ []) ∷ (Word 0 ∷ Word 0 ∷ []) ∷ []) 161 ((Word 1 ∷ Word 0 ∷ []) ∷ (Word 0 ∷ Word 1 ∷ []) ∷ []) ∷ H 0 ((Word 1 ∷ Word 0 ∷ []) ∷ (Word 2 ∷ Word 2 ∷ []) ∷ []) 16 ((Word 0 ∷ Word 0 ∷ []) ∷ (Word 2 ∷ Word 0 ∷ []) ∷ []) ∷ H 2 ((Word 0 ∷ Word 0 ∷ []) ∷ (Word 2 ∷ Word 0 ∷ []) ∷ (Word 2 ∷ Word 0 ∷ []) ∷ []) 16022 ((Word 1 ∷ Word 0 ∷ []) ∷ (Word 1 ∷ Word 0 ∷ []) ∷ (Word 2 ∷ Gone ∷ []) ∷ []) ∷ H 1 ((Word 2 ∷ Word 2 ∷ []) ∷ (Word 0 ∷ Word 0 ∷ []) ∷ (Word 2 ∷ Word 0 ∷ []) ∷ []) 1602 ((Word 0 ∷ Word 0 ∷ []) ∷ (Word 2 ∷ Word 0 ∷ []) ∷ (Word 2 ∷ Word 0 ∷ []) ∷ (Word 1 ∷ []) ∷ []) ∷ H 0 [] 0 ((Word 1 ∷ Word 0 ∷ []) ∷ []) ∷ L 2 2 ∷ S ∷ A ∷ L 2 0 ∷ L 2 2 ∷ A ∷ L 2 3 ∷ A ∷ [])
    ≡ added 4 ∷ ok ∷ at 1 0 1 0 0 ∷ ok ∷ at 2 1 1 0 4 ∷ added 3 ∷ ok ∷ refused 102 ∷ refused 108 ∷ refused 108 ∷ taken ∷ added 2 ∷ added 2 ∷ refused 112 ∷ at 3 1 2 1 140 ∷ claimed 2 1 ((Word 0 ∷ Word 2 ∷ []) ∷ (Word 0 ∷ Word 0 ∷ []) ∷ []) ([] ∷ ((Gone ∷ Word 2 ∷ []) ∷ []) ∷ ((Word 1 ∷ Word 2 ∷ []) ∷ []) ∷ ((Gone ∷ Word 2 ∷ []) ∷ (Word 3 ∷ Word 0 ∷ []) ∷ []) ∷ []) 1 (differ 1 1 1 ∷ differ 2 1 1 ∷ differ 3 1 1 ∷ []) ∷ taken ∷ ok ∷ at 4 1 3 2 1622 ∷ refused 11 ∷ at 4 4 0 2 1622 ∷ added 2 ∷ refused 108 ∷ added 0 ∷ refused 111 ∷ refused 108 ∷ refused 110 ∷ ok ∷ at 4 4 0 2 1622 ∷ at 5 4 1 2 16226 ∷ refused 4 ∷ refused 4 ∷ refused 101 ∷ refused 4 ∷ refused 101 ∷ []
random_branches_1 = refl

-- two players: fifteen branches by hand, of which six add states, two add none; refused 108 five times, 109 once, 110
-- once; one claim with two entries; one partial roll; a player leaves
random_branches_2 :
    lines (record { profile = Ggpo; players = 2; local = 1; delays = 1 ∷ 0 ∷ []; masks = 4294967295 ∷ 0 ∷ []; before = none_before; first = none_first; threshold = 5; limit = 1048576; log = 16777216 })
    (H 1 [] 0 ((Word 1 ∷ Word 0 ∷ []) ∷ []) ∷ H 0 ((Word 0 ∷ Gone ∷ []) ∷ (Word 0 ∷ Word 0 ∷ []) ∷ (Word 2 ∷ Word 0 ∷ []) ∷ (Word 2 ∷ Word 0 ∷ []) ∷ (Word 0 ∷ Word 1 ∷ []) ∷ (Word 0 ∷ Word 1 ∷ []) ∷ (Word 2 ∷ Word 0 ∷ []) ∷ (Word 1 ∷ Word 0 ∷ []) ∷ (Word 0 ∷ Word 0 ∷ []) ∷ (Word 1 ∷ Word 0 ∷ []) ∷ (Word 3 ∷ Word 0 ∷ []) ∷ (Word 1 ∷ Word 1 ∷ []) ∷ (Word 0 ∷ Word 0 ∷ []) ∷ (Word 1 ∷ Word 2 ∷ []) ∷ (Word 0 ∷ Word 0 ∷ []) ∷ (Word 0 ∷ Word 1 ∷ []) ∷ (Word 2 ∷ Word 0 ∷ []) ∷ (Word 2 ∷ Word 2 ∷ []) ∷ (Word 0 ∷ Word 0 ∷ []) ∷ (Word 0 ∷ Gone ∷ []) ∷ (Word 1 ∷ Word 3 ∷ []) ∷ (Word 0 ∷ Gone ∷ []) ∷ (Word 2 ∷ Word 0 ∷ []) ∷ (Gone ∷ Word 0 ∷ []) ∷ []) 0 ((Word 0 ∷ Word 0 ∷ []) ∷ (Word 0 ∷ Word 0 ∷ []) ∷ []) ∷ R 2 0 0 ∷ H 0 [] 100000 ((Word 0 ∷ Word 0 ∷ []) ∷ (Word 0 ∷ Gone ∷ []) ∷ (Word 0 ∷ Word 0 ∷ []) ∷ (Word 0 ∷ Word 0 ∷ []) ∷ []) ∷ H 0 [] 0 ((Word 0 ∷ Word 0 ∷ []) ∷ (Word 0 ∷ Word 3 ∷ []) ∷ []) ∷ H 0 [] 0 ((Word 0 ∷ Word 0 ∷ []) ∷ (Word 3 ∷ Word 0 ∷ []) ∷ (Word 2 ∷ Gone ∷ []) ∷ (Word 0 ∷ Word 0 ∷ []) ∷ []) ∷ R 2 1 0 ∷ H 0 [] 0 ((Word 0 ∷ Word 0 ∷ []) ∷ (Word 0 ∷ Word 0 ∷ []) ∷ []) ∷ R 2 2 0 ∷ H 0 ((Word 0 ∷ Word 0 ∷ []) ∷ []) 1 ((Word 3 ∷ Word 0 ∷ []) ∷ (Word 0 ∷ Word 0 ∷ []) ∷ []) ∷ H 0 ((Word 0 ∷ Word 0 ∷ []) ∷ []) 0 ((Word 2 ∷ Word 0 ∷ []) ∷ []) ∷ L 1 3 ∷ A ∷ H 0 [] 0 ((Word 0 ∷ Word 0 ∷ []) ∷ []) ∷ L 1 2 ∷ A ∷ H 0 ((Word 0 ∷ Word 0 ∷ []) ∷ (Word 3 ∷ Word 0 ∷ []) ∷ []) 10 ((Word 2 ∷ Word 0 ∷ []) ∷ []) ∷ L 1 0 ∷ H 1 ((Word 3 ∷ Word 0 ∷ []) ∷ []) 3 ((Word 3 ∷ Word 0 ∷ []) ∷ (Word 0 ∷ Word 1 ∷ []) ∷ (Word 2 ∷ Word 2 ∷ []) ∷ (Word 2 ∷ Word 0 ∷ []) ∷ []) ∷ L 1 1 ∷ H 2 [] 100003 ((Word 2 ∷ Word 0 ∷ []) ∷ []) ∷ H 2 [] 3 ((Word 2 ∷ Word 0 ∷ []) ∷ (Word 0 ∷ Gone ∷ []) ∷ []) ∷ H 0 ((Word 0 ∷ Word 0 ∷ []) ∷ (Word 3 ∷ Word 0 ∷ []) ∷ (Word 2 ∷ Word 0 ∷ []) ∷ (Word 0 ∷ Gone ∷ []) ∷ []) 325 ((Word 0 ∷ Word 0 ∷ []) ∷ []) ∷ P 2 0 ∷ C ∷ A ∷ H 0 ((Word 0 ∷ Word 0 ∷ []) ∷ (Word 3 ∷ Word 0 ∷ []) ∷ (Word 2 ∷ Word 0 ∷ []) ∷ []) 32 ((Word 0 ∷ Gone ∷ []) ∷ (Word 0 ∷ Word 0 ∷ []) ∷ []) ∷ G 2 4 (3 ∷ 0 ∷ []) ∷ B 0 ∷ S ∷ L 1 2 ∷ A ∷ C ∷ D 2 ∷ [])
    ≡ refused 108 ∷ refused 109 ∷ taken ∷ refused 108 ∷ added 2 ∷ added 3 ∷ taken ∷ added 1 ∷ taken ∷ refused 108 ∷ added 1 ∷ ok ∷ at 1 1 0 1 0 ∷ refused 110 ∷ ok ∷ at 2 2 0 2 3 ∷ refused 108 ∷ ok ∷ added 0 ∷ refused 102 ∷ refused 108 ∷ added 2 ∷ added 1 ∷ refused 107 ∷ refused 117 ∷ at 3 3 0 3 32 ∷ added 0 ∷ job 0 1 ∷ added 1 ∷ at 3 3 0 3 32 ∷ ok ∷ at 4 3 1 3 320 ∷ claimed 2 3 ((Word 0 ∷ Word 0 ∷ []) ∷ []) ([] ∷ ((Word 0 ∷ Gone ∷ []) ∷ []) ∷ ((Word 0 ∷ Word 3 ∷ []) ∷ []) ∷ []) 3 (differ 1 3 2 ∷ differ 2 3 2 ∷ []) ∷ gone 2 ∷ []
random_branches_2 = refl

-- two players: nine branches by hand, of which three add states, two add none; refused 108 four times; two claims,
-- one of them with one entry; the last frame is reached
random_branches_3 :
    lines (record { profile = Ggpo; players = 2; local = 1; delays = 1 ∷ 0 ∷ []; masks = 0 ∷ 4294967295 ∷ []; before = none_before; first = none_first; threshold = 6; limit = 7; log = 16777216 })
    (L 1 0 ∷ A ∷ H 0 [] 0 ((Word 0 ∷ Word 0 ∷ []) ∷ (Word 0 ∷ Word 0 ∷ []) ∷ (Word 0 ∷ Word 0 ∷ []) ∷ []) ∷ H 0 ((Word 0 ∷ Word 0 ∷ []) ∷ []) 0 ((Word 0 ∷ Word 0 ∷ []) ∷ []) ∷ H 0 [] 7 ((Word 0 ∷ Word 0 ∷ []) ∷ (Word 0 ∷ Word 0 ∷ []) ∷ (Word 1 ∷ Gone ∷ []) ∷ []) ∷ H 0 ((Word 0 ∷ Word 0 ∷ []) ∷ []) 0 ((Word 0 ∷ Word 0 ∷ []) ∷ (Word 1 ∷ Word 0 ∷ []) ∷ (Word 2 ∷ []) ∷ []) ∷ R 2 0 1 ∷ L 1 3 ∷ A ∷ L 1 0 ∷ A ∷ R 2 1 2 ∷ R 2 2 0 ∷ H 1 [] 3 ((Word 0 ∷ Word 2 ∷ []) ∷ (Word 3 ∷ Word 0 ∷ []) ∷ (Word 0 ∷ Word 0 ∷ []) ∷ (Word 0 ∷ Word 3 ∷ []) ∷ []) ∷ L 1 1 ∷ A ∷ L 1 2 ∷ A ∷ C ∷ H 0 ((Word 0 ∷ Word 1 ∷ []) ∷ (Word 0 ∷ Word 2 ∷ []) ∷ []) 24 ((Word 3 ∷ Word 0 ∷ []) ∷ (Word 0 ∷ Word 1 ∷ []) ∷ (Word 0 ∷ Gone ∷ []) ∷ []) ∷ R 2 3 0 ∷ P 6 1 ∷ S ∷ H 0 [] 500 ((Word 0 ∷ Word 1 ∷ []) ∷ (Word 0 ∷ Word 2 ∷ []) ∷ (Word 3 ∷ Word 0 ∷ []) ∷ (Word 0 ∷ Word 0 ∷ []) ∷ (Word 1 ∷ Word 0 ∷ []) ∷ (Word 2 ∷ Gone ∷ []) ∷ []) ∷ L 1 0 ∷ A ∷ C ∷ L 1 2 ∷ A ∷ H 4 ((Word 1 ∷ Word 0 ∷ []) ∷ []) 24301 ((Word 2 ∷ Word 0 ∷ []) ∷ (Word 0 ∷ Word 0 ∷ []) ∷ []) ∷ H 5 [] 2430 ((Word 2 ∷ Word 0 ∷ []) ∷ []) ∷ L 1 2 ∷ A ∷ R 2 4 2 ∷ [])
    ≡ ok ∷ at 1 0 1 0 0 ∷ added 2 ∷ added 0 ∷ refused 108 ∷ refused 108 ∷ taken ∷ ok ∷ at 2 0 2 1 22 ∷ ok ∷ at 3 2 1 1 225 ∷ taken ∷ taken ∷ refused 108 ∷ ok ∷ at 4 1 3 3 2430 ∷ ok ∷ at 5 4 1 3 24301 ∷ claimed 2 3 ((Word 0 ∷ Word 0 ∷ []) ∷ (Word 1 ∷ Word 0 ∷ []) ∷ []) ([] ∷ ((Word 0 ∷ Word 0 ∷ []) ∷ []) ∷ []) 4 [] ∷ added 1 ∷ taken ∷ refused 11 ∷ at 5 5 0 4 24301 ∷ added 1 ∷ ok ∷ at 6 5 1 4 243012 ∷ claimed 2 4 ((Word 1 ∷ Word 0 ∷ []) ∷ (Word 2 ∷ Word 0 ∷ []) ∷ []) ([] ∷ ((Word 1 ∷ Word 0 ∷ []) ∷ []) ∷ ((Word 1 ∷ Word 0 ∷ []) ∷ (Word 2 ∷ Gone ∷ []) ∷ []) ∷ []) 5 (differ 2 5 2 ∷ []) ∷ ok ∷ at 7 6 1 4 430120 ∷ added 0 ∷ refused 108 ∷ refused 106 ∷ refused 101 ∷ taken ∷ []
random_branches_3 = refl

-- two players: nine branches by hand, of which four add states, one adds none; refused 108 four times; four claims,
-- one of them with one entry; one partial roll
random_branches_4 :
    lines (record { profile = Ggpo; players = 2; local = 2; delays = 0 ∷ 0 ∷ []; masks = 1 ∷ 0 ∷ []; before = none_before; first = none_first; threshold = 5; limit = 1048576; log = 16777216 })
    (L 2 0 ∷ S ∷ P 0 0 ∷ H 2 [] 0 ((Word 0 ∷ Word 0 ∷ []) ∷ []) ∷ H 0 [] 0 ((Word 0 ∷ Word 0 ∷ []) ∷ (Gone ∷ Word 3 ∷ []) ∷ []) ∷ A ∷ L 2 3 ∷ A ∷ C ∷ H 0 [] 0 ((Word 1 ∷ Word 0 ∷ []) ∷ (Word 0 ∷ Word 3 ∷ []) ∷ []) ∷ H 0 [] 0 ((Word 2 ∷ Word 0 ∷ []) ∷ (Gone ∷ []) ∷ (Word 3 ∷ Word 1 ∷ []) ∷ []) ∷ R 1 0 3 ∷ H 0 [] 0 ((Word 3 ∷ Word 0 ∷ []) ∷ (Gone ∷ Word 3 ∷ []) ∷ (Word 0 ∷ Word 3 ∷ []) ∷ (Word 0 ∷ Word 0 ∷ []) ∷ []) ∷ R 1 1 1 ∷ R 1 2 3 ∷ L 2 0 ∷ R 1 3 0 ∷ H 0 [] 7 ((Word 3 ∷ Word 0 ∷ []) ∷ (Word 1 ∷ Word 3 ∷ []) ∷ (Word 3 ∷ Word 0 ∷ []) ∷ (Word 0 ∷ Word 0 ∷ []) ∷ []) ∷ H 0 ((Word 3 ∷ Word 0 ∷ []) ∷ []) 3 ((Word 0 ∷ Word 3 ∷ []) ∷ (Word 3 ∷ Word 0 ∷ []) ∷ (Word 0 ∷ Word 0 ∷ []) ∷ (Word 0 ∷ Word 1 ∷ []) ∷ []) ∷ A ∷ C ∷ H 3 [] 373 ((Word 0 ∷ Word 0 ∷ []) ∷ (Word 2 ∷ Gone ∷ []) ∷ []) ∷ G 1 5 (2 ∷ 0 ∷ []) ∷ R 1 4 3 ∷ R 1 5 0 ∷ H 3 ((Word 0 ∷ Word 0 ∷ []) ∷ []) 103730 ((Word 3 ∷ Word 1 ∷ []) ∷ (Word 0 ∷ Word 0 ∷ []) ∷ (Gone ∷ Word 1 ∷ []) ∷ (Word 3 ∷ Word 0 ∷ []) ∷ []) ∷ R 1 6 2 ∷ L 2 0 ∷ A ∷ D 2 ∷ L 2 2 ∷ A ∷ C ∷ L 2 2 ∷ A ∷ C ∷ [])
    ≡ ok ∷ at 0 0 0 0 0 ∷ refused 107 ∷ refused 108 ∷ added 2 ∷ at 1 1 0 0 0 ∷ ok ∷ at 2 1 1 0 6 ∷ claimed 2 0 ((Word 0 ∷ Word 0 ∷ []) ∷ (Word 0 ∷ Word 3 ∷ []) ∷ []) ([] ∷ ((Word 0 ∷ Word 0 ∷ []) ∷ []) ∷ ((Word 0 ∷ Word 0 ∷ []) ∷ (Gone ∷ Word 3 ∷ []) ∷ []) ∷ []) 1 (differ 2 1 1 ∷ []) ∷ added 2 ∷ refused 108 ∷ taken ∷ added 4 ∷ taken ∷ taken ∷ ok ∷ taken ∷ refused 108 ∷ added 0 ∷ at 3 1 2 3 373 ∷ claimed 2 1 ((Word 1 ∷ Word 3 ∷ []) ∷ (Word 3 ∷ Word 0 ∷ []) ∷ []) ([] ∷ []) 1 [] ∷ added 2 ∷ job 0 1 ∷ taken ∷ taken ∷ refused 108 ∷ taken ∷ ok ∷ at 4 4 0 4 3730 ∷ refused 2 ∷ ok ∷ at 5 4 1 5 37307 ∷ claimed 2 4 ((Word 3 ∷ Word 2 ∷ []) ∷ []) ([] ∷ []) 4 [] ∷ ok ∷ at 6 5 1 6 373074 ∷ claimed 2 5 ((Word 0 ∷ Word 2 ∷ []) ∷ []) ([] ∷ []) 5 [] ∷ []
random_branches_4 = refl

-- three players: ten branches by hand, of which five add states; refused 108 three times, 111 twice; three claims,
-- one of them with two entries
random_branches_5 :
    lines (record { profile = Ggpo; players = 3; local = 1; delays = 0 ∷ 0 ∷ 0 ∷ []; masks = 4294967295 ∷ 4294967295 ∷ 0 ∷ []; before = none_before; first = none_first; threshold = 2; limit = 1048576; log = 16777216 })
    (S ∷ C ∷ L 1 0 ∷ A ∷ C ∷ L 1 0 ∷ A ∷ L 1 2 ∷ H 0 ((Word 0 ∷ Word 0 ∷ Word 0 ∷ []) ∷ (Word 0 ∷ Word 0 ∷ Word 0 ∷ []) ∷ []) 0 ((Word 0 ∷ Word 0 ∷ Word 0 ∷ []) ∷ (Word 0 ∷ Word 0 ∷ Word 0 ∷ []) ∷ (Word 0 ∷ Word 3 ∷ Word 0 ∷ []) ∷ []) ∷ L 1 1 ∷ A ∷ H 0 ((Word 0 ∷ Word 0 ∷ Word 0 ∷ []) ∷ (Word 0 ∷ Word 0 ∷ Word 0 ∷ []) ∷ (Word 0 ∷ Word 0 ∷ Word 3 ∷ []) ∷ []) 9 ((Word 0 ∷ Word 0 ∷ Word 0 ∷ []) ∷ (Word 0 ∷ Word 0 ∷ Word 0 ∷ []) ∷ (Word 0 ∷ Word 3 ∷ Word 0 ∷ []) ∷ []) ∷ R 2 0 1 ∷ L 1 1 ∷ A ∷ H 0 [] 100000 ((Word 0 ∷ Word 1 ∷ Word 0 ∷ []) ∷ (Word 0 ∷ Gone ∷ Gone ∷ []) ∷ (Word 1 ∷ Word 1 ∷ Word 1 ∷ []) ∷ []) ∷ H 0 ((Word 0 ∷ Word 1 ∷ Gone ∷ []) ∷ []) 7 ((Word 1 ∷ Word 1 ∷ Word 1 ∷ []) ∷ (Word 0 ∷ Word 0 ∷ Gone ∷ []) ∷ (Word 1 ∷ Word 0 ∷ Word 0 ∷ []) ∷ (Word 1 ∷ Word 0 ∷ Gone ∷ []) ∷ []) ∷ L 1 0 ∷ A ∷ H 0 [] 0 ((Word 0 ∷ Word 1 ∷ Word 3 ∷ []) ∷ (Word 0 ∷ Word 1 ∷ Gone ∷ []) ∷ (Word 1 ∷ Word 3 ∷ Gone ∷ []) ∷ (Word 0 ∷ Word 0 ∷ Word 0 ∷ []) ∷ []) ∷ G 2 4 (0 ∷ 0 ∷ []) ∷ B 0 ∷ H 0 [] 7 ((Word 0 ∷ Word 1 ∷ Word 0 ∷ []) ∷ []) ∷ H 0 ((Word 0 ∷ Word 1 ∷ Word 0 ∷ []) ∷ (Word 0 ∷ Word 0 ∷ Word 0 ∷ []) ∷ (Word 0 ∷ Word 0 ∷ Word 0 ∷ []) ∷ (Word 0 ∷ Word 0 ∷ Word 0 ∷ []) ∷ []) 2000 ((Word 3 ∷ Word 1 ∷ Gone ∷ []) ∷ (Word 0 ∷ Gone ∷ Word 0 ∷ []) ∷ []) ∷ B 0 ∷ H 0 ((Word 0 ∷ Word 1 ∷ Word 3 ∷ []) ∷ (Word 0 ∷ Word 1 ∷ Gone ∷ []) ∷ (Word 1 ∷ Word 3 ∷ Gone ∷ []) ∷ []) 1182 ((Word 1 ∷ Word 1 ∷ []) ∷ (Word 1 ∷ Word 1 ∷ Word 0 ∷ []) ∷ (Word 1 ∷ Word 1 ∷ Word 0 ∷ []) ∷ []) ∷ R 3 0 0 ∷ R 3 1 2 ∷ H 0 [] 0 ((Word 0 ∷ Word 1 ∷ Word 0 ∷ []) ∷ (Word 0 ∷ Gone ∷ Word 2 ∷ []) ∷ (Word 0 ∷ Word 0 ∷ Word 0 ∷ []) ∷ []) ∷ L 1 0 ∷ A ∷ C ∷ H 0 ((Word 0 ∷ Word 1 ∷ Word 0 ∷ []) ∷ (Word 0 ∷ Gone ∷ Word 2 ∷ []) ∷ (Word 0 ∷ Word 0 ∷ Word 0 ∷ []) ∷ []) 310 ((Word 0 ∷ Word 1 ∷ Gone ∷ []) ∷ []) ∷ L 1 1 ∷ A ∷ [])
    ≡ at 0 0 0 0 0 ∷ claimed 3 0 [] ([] ∷ []) 0 [] ∷ ok ∷ at 1 0 1 0 0 ∷ claimed 3 0 ((Word 0 ∷ Word 0 ∷ Word 0 ∷ []) ∷ []) ([] ∷ []) 0 [] ∷ ok ∷ at 2 1 1 0 0 ∷ refused 4 ∷ added 3 ∷ refused 4 ∷ refused 101 ∷ refused 111 ∷ taken ∷ refused 4 ∷ refused 101 ∷ refused 108 ∷ refused 111 ∷ refused 4 ∷ refused 101 ∷ added 4 ∷ job 0 4 ∷ added 4 ∷ refused 108 ∷ added 2 ∷ refused 120 ∷ refused 108 ∷ taken ∷ taken ∷ added 2 ∷ ok ∷ at 3 1 2 1 282 ∷ claimed 3 1 ((Word 0 ∷ Word 1 ∷ Word 2 ∷ []) ∷ (Word 0 ∷ Word 1 ∷ Word 0 ∷ []) ∷ []) ([] ∷ ((Word 0 ∷ Gone ∷ Word 2 ∷ []) ∷ []) ∷ ((Word 0 ∷ Gone ∷ Word 2 ∷ []) ∷ (Word 0 ∷ Word 0 ∷ Word 0 ∷ []) ∷ []) ∷ []) 1 (differ 1 1 2 ∷ differ 2 1 2 ∷ []) ∷ added 1 ∷ refused 4 ∷ refused 101 ∷ []
random_branches_5 = refl

-- two players: seven branches by hand, of which one adds states, two add none; refused 108 once, 110 once, 114 twice;
-- the log gets full
random_branches_6 :
    lines (record { profile = Ggpo; players = 2; local = 1; delays = 0 ∷ 0 ∷ []; masks = 4294967295 ∷ 4294967295 ∷ []; before = none_before; first = none_first; threshold = 6; limit = 1048576; log = 14 })
    (L 1 2 ∷ A ∷ L 1 1 ∷ A ∷ L 1 0 ∷ A ∷ R 2 0 2 ∷ H 0 [] 0 ((Word 0 ∷ Word 2 ∷ []) ∷ (Word 1 ∷ Word 2 ∷ []) ∷ (Word 0 ∷ Word 2 ∷ []) ∷ (Word 0 ∷ Word 2 ∷ []) ∷ []) ∷ L 1 1 ∷ A ∷ G 2 5 (0 ∷ []) ∷ B 0 ∷ H 0 [] 500000 ((Word 2 ∷ Word 2 ∷ []) ∷ (Word 1 ∷ Word 0 ∷ []) ∷ (Word 0 ∷ Word 2 ∷ []) ∷ []) ∷ H 0 [] 0 ((Word 2 ∷ Word 2 ∷ []) ∷ (Word 1 ∷ Word 0 ∷ []) ∷ (Word 0 ∷ Word 0 ∷ []) ∷ []) ∷ H 0 [] 0 ((Word 2 ∷ Word 2 ∷ []) ∷ []) ∷ H 0 ((Word 2 ∷ Word 2 ∷ Word 0 ∷ []) ∷ []) 6 ((Word 1 ∷ Word 0 ∷ []) ∷ (Word 0 ∷ Word 0 ∷ []) ∷ (Word 1 ∷ Word 0 ∷ []) ∷ (Word 1 ∷ Word 0 ∷ []) ∷ []) ∷ L 1 2 ∷ A ∷ R 2 1 1 ∷ S ∷ B 1 ∷ A ∷ R 2 1 2 ∷ A ∷ G 2 5 (1 ∷ []) ∷ B 1 ∷ A ∷ A ∷ R 2 1 3 ∷ H 0 ((Word 2 ∷ Word 2 ∷ []) ∷ (Word 1 ∷ Word 0 ∷ []) ∷ (Word 0 ∷ Word 0 ∷ []) ∷ (Word 1 ∷ Word 0 ∷ []) ∷ []) 6101 ((Word 2 ∷ Word 1 ∷ []) ∷ (Word 2 ∷ Word 2 ∷ []) ∷ []) ∷ H 1 ((Word 1 ∷ Word 0 ∷ []) ∷ (Word 0 ∷ Word 0 ∷ []) ∷ []) 610 ((Word 2 ∷ Word 1 ∷ []) ∷ (Word 2 ∷ Word 2 ∷ []) ∷ []) ∷ R 2 1 0 ∷ R 2 1 3 ∷ P 5 1 ∷ S ∷ [])
    ≡ ok ∷ at 1 0 1 0 2 ∷ ok ∷ at 2 1 1 0 21 ∷ ok ∷ at 3 2 1 0 210 ∷ taken ∷ added 0 ∷ ok ∷ at 4 0 4 1 6545 ∷ job 0 4 ∷ added 4 ∷ added 1 ∷ added 0 ∷ refused 110 ∷ refused 108 ∷ ok ∷ refused 114 ∷ refused 114 ∷ refused 114 ∷ refused 120 ∷ refused 114 ∷ refused 114 ∷ refused 114 ∷ job 1 4 ∷ refused 114 ∷ refused 114 ∷ refused 114 ∷ refused 114 ∷ refused 114 ∷ refused 114 ∷ refused 114 ∷ refused 114 ∷ refused 114 ∷ refused 114 ∷ []
random_branches_6 = refl
