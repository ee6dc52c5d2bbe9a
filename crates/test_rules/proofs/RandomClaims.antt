-- Random scripts that ask for the claims of their rolls, with the lines that an independent program, written from the
-- rules, printed for them: what each claim lists, and its entries, of which there are some in about half of the claims.
use Rattle.std.proofs.Common.{◌≡◌, [], ◌∷◌, refl}
use Rattle.roll_frame.specs.declared.profile.Profile.TheVariants.{Ggpo, Wide}
use Rattle.roll_frame.specs.declared.row.Cell.TheVariants.{Word}
use Rattle.test_rules.proofs.Scripts.{G, B, C, L, R, D, S, A, P, ok, taken, refused, gone, job, kept, added, at, claimed, differ, lines}
use Rattle.roll_frame.specs.Settings.{none_before, none_first}

-- two players: five claims, two of them with two entries in all; the log gets full
random_claims_1 :
    lines (record { profile = Ggpo; players = 2; local = 2; delays = 0 ∷ 0 ∷ []; masks = 4294967295 ∷ 0 ∷ []; before = none_before; first = none_first; threshold = 4; limit = 1048576; log = 16 })
    (S ∷ C ∷ G 1 2 (1 ∷ 0 ∷ []) ∷ B 0 ∷ L 2 0 ∷ A ∷ C ∷ G 1 3 (3 ∷ []) ∷ B 1 ∷ R 1 0 3 ∷ L 2 1 ∷ A ∷ C ∷ L 2 1 ∷ A ∷ C ∷ R 1 1 2 ∷ G 1 5 (3 ∷ []) ∷ B 2 ∷ L 2 3 ∷ A ∷ C ∷ G 1 6 (0 ∷ 3 ∷ 1 ∷ []) ∷ B 3 ∷ L 2 0 ∷ A ∷ R 1 2 2 ∷ G 1 7 (0 ∷ []) ∷ B 4 ∷ L 2 3 ∷ L 2 0 ∷ G 1 27 (0 ∷ 3 ∷ 0 ∷ []) ∷ L 2 0 ∷ D 1 ∷ [])
    ≡ at 0 0 0 0 0 ∷ claimed 2 0 [] ([] ∷ []) 0 [] ∷ job 0 2 ∷ added 2 ∷ ok ∷ at 1 0 1 0 0 ∷ claimed 2 0 ((Word 0 ∷ Word 0 ∷ []) ∷ []) ([] ∷ ((Word 1 ∷ Word 0 ∷ []) ∷ []) ∷ ((Word 1 ∷ Word 0 ∷ []) ∷ (Word 0 ∷ Word 0 ∷ []) ∷ []) ∷ []) 0 (differ 1 0 1 ∷ []) ∷ job 1 3 ∷ added 3 ∷ taken ∷ ok ∷ at 2 1 1 1 35 ∷ claimed 2 1 ((Word 3 ∷ Word 1 ∷ []) ∷ []) ([] ∷ []) 1 [] ∷ ok ∷ at 3 2 1 1 355 ∷ claimed 2 1 ((Word 3 ∷ Word 1 ∷ []) ∷ (Word 3 ∷ Word 1 ∷ []) ∷ []) ([] ∷ ((Word 3 ∷ Word 1 ∷ []) ∷ []) ∷ []) 2 [] ∷ taken ∷ job 2 4 ∷ added 4 ∷ ok ∷ at 4 2 2 2 3448 ∷ claimed 2 2 ((Word 2 ∷ Word 1 ∷ []) ∷ (Word 2 ∷ Word 3 ∷ []) ∷ []) ([] ∷ ((Word 3 ∷ Word 1 ∷ []) ∷ []) ∷ []) 2 (differ 1 2 1 ∷ []) ∷ job 3 4 ∷ added 4 ∷ ok ∷ refused 114 ∷ refused 114 ∷ job 4 4 ∷ refused 114 ∷ refused 102 ∷ refused 102 ∷ refused 11 ∷ refused 102 ∷ refused 114 ∷ []
random_claims_1 = refl

-- two players: one claim with two entries; one partial roll; the log gets full; a player leaves
random_claims_2 :
    lines (record { profile = Wide; players = 2; local = 1; delays = 0 ∷ 0 ∷ []; masks = 1 ∷ 4294967295 ∷ []; before = none_before; first = none_first; threshold = 4; limit = 7; log = 14 })
    (L 1 1 ∷ A ∷ R 2 0 0 ∷ G 2 2 (2 ∷ 3 ∷ 1 ∷ []) ∷ B 0 ∷ G 2 3 (1 ∷ []) ∷ B 1 ∷ L 1 0 ∷ P 1 0 ∷ C ∷ G 2 3 (2 ∷ 0 ∷ 0 ∷ []) ∷ B 2 ∷ G 2 2 (2 ∷ 3 ∷ 2 ∷ []) ∷ G 2 2 (1 ∷ 3 ∷ []) ∷ B 3 ∷ A ∷ C ∷ G 2 2 (2 ∷ 0 ∷ 1 ∷ []) ∷ D 2 ∷ G 2 26 (1 ∷ []) ∷ P 3 1 ∷ S ∷ G 2 3 (2 ∷ []) ∷ R 2 1 2 ∷ R 2 1 0 ∷ S ∷ B 1 ∷ R 2 0 1 ∷ A ∷ L 1 3 ∷ A ∷ G 2 3 (3 ∷ 2 ∷ []) ∷ A ∷ R 2 1 3 ∷ [])
    ≡ ok ∷ at 1 0 1 0 1 ∷ taken ∷ job 0 1 ∷ added 1 ∷ job 1 2 ∷ added 2 ∷ ok ∷ refused 107 ∷ refused 117 ∷ job 2 2 ∷ added 2 ∷ kept ∷ job 3 1 ∷ added 1 ∷ at 2 1 1 1 10 ∷ claimed 2 1 ((Word 0 ∷ Word 0 ∷ []) ∷ []) ([] ∷ ((Word 0 ∷ Word 1 ∷ []) ∷ []) ∷ ((Word 0 ∷ Word 2 ∷ []) ∷ []) ∷ ((Word 0 ∷ Word 2 ∷ []) ∷ (Word 0 ∷ Word 0 ∷ []) ∷ []) ∷ []) 1 (differ 1 1 2 ∷ differ 2 1 2 ∷ []) ∷ kept ∷ gone 2 ∷ refused 9 ∷ refused 11 ∷ at 2 1 1 2 15 ∷ refused 9 ∷ refused 9 ∷ refused 9 ∷ at 2 2 0 2 15 ∷ refused 120 ∷ refused 9 ∷ refused 101 ∷ ok ∷ refused 114 ∷ refused 9 ∷ refused 114 ∷ refused 9 ∷ []
random_claims_2 = refl

-- three players: four claims, three of them with five entries in all; one partial roll
random_claims_3 :
    lines (record { profile = Ggpo; players = 3; local = 4; delays = 0 ∷ 0 ∷ 1 ∷ []; masks = 4294967295 ∷ 1 ∷ 3 ∷ []; before = none_before; first = none_first; threshold = 5; limit = 7; log = 16777216 })
    (R 2 0 0 ∷ L 3 3 ∷ A ∷ G 1 2 (0 ∷ 3 ∷ []) ∷ B 0 ∷ L 3 2 ∷ A ∷ C ∷ G 1 3 (3 ∷ []) ∷ B 1 ∷ P 2 0 ∷ S ∷ R 2 1 1 ∷ G 1 3 (1 ∷ 3 ∷ []) ∷ B 2 ∷ L 3 0 ∷ A ∷ C ∷ P 4 0 ∷ S ∷ G 1 1 (0 ∷ []) ∷ R 1 0 0 ∷ L 3 1 ∷ A ∷ C ∷ G 1 25 (0 ∷ 0 ∷ []) ∷ R 2 2 2 ∷ G 2 5 (3 ∷ []) ∷ B 3 ∷ L 3 1 ∷ A ∷ C ∷ G 1 7 (2 ∷ []) ∷ B 4 ∷ L 3 1 ∷ A ∷ [])
    ≡ taken ∷ ok ∷ at 1 0 1 0 0 ∷ job 0 1 ∷ added 1 ∷ ok ∷ at 2 1 1 0 9 ∷ claimed 3 0 ((Word 0 ∷ Word 0 ∷ Word 0 ∷ []) ∷ (Word 0 ∷ Word 0 ∷ Word 3 ∷ []) ∷ []) ([] ∷ ((Word 0 ∷ Word 0 ∷ Word 0 ∷ []) ∷ []) ∷ ((Word 0 ∷ Word 0 ∷ Word 0 ∷ []) ∷ (Word 3 ∷ Word 0 ∷ Word 3 ∷ []) ∷ []) ∷ []) 1 (differ 2 1 1 ∷ []) ∷ job 1 3 ∷ added 3 ∷ refused 107 ∷ at 2 2 0 0 9 ∷ taken ∷ job 2 3 ∷ added 3 ∷ ok ∷ at 3 1 2 0 118 ∷ claimed 3 0 ((Word 0 ∷ Word 0 ∷ Word 0 ∷ []) ∷ (Word 0 ∷ Word 1 ∷ Word 3 ∷ []) ∷ (Word 0 ∷ Word 1 ∷ Word 2 ∷ []) ∷ []) ([] ∷ ((Word 0 ∷ Word 0 ∷ Word 0 ∷ []) ∷ []) ∷ ((Word 1 ∷ Word 0 ∷ Word 0 ∷ []) ∷ []) ∷ ((Word 3 ∷ Word 0 ∷ Word 0 ∷ []) ∷ []) ∷ ((Word 1 ∷ Word 0 ∷ Word 0 ∷ []) ∷ (Word 3 ∷ Word 1 ∷ Word 3 ∷ []) ∷ []) ∷ ((Word 1 ∷ Word 0 ∷ Word 0 ∷ []) ∷ (Word 3 ∷ Word 1 ∷ Word 3 ∷ []) ∷ (Word 3 ∷ Word 1 ∷ Word 2 ∷ []) ∷ []) ∷ []) 1 (differ 4 0 1 ∷ differ 5 0 1 ∷ []) ∷ refused 11 ∷ at 3 3 0 0 118 ∷ kept ∷ taken ∷ ok ∷ at 4 3 1 1 1182 ∷ claimed 3 1 ((Word 0 ∷ Word 1 ∷ Word 3 ∷ []) ∷ (Word 0 ∷ Word 1 ∷ Word 2 ∷ []) ∷ (Word 0 ∷ Word 1 ∷ Word 0 ∷ []) ∷ []) ([] ∷ ((Word 0 ∷ Word 1 ∷ Word 3 ∷ []) ∷ []) ∷ ((Word 0 ∷ Word 1 ∷ Word 3 ∷ []) ∷ (Word 0 ∷ Word 1 ∷ Word 2 ∷ []) ∷ []) ∷ []) 3 [] ∷ refused 11 ∷ taken ∷ job 3 3 ∷ added 3 ∷ ok ∷ at 5 3 2 1 12003 ∷ claimed 3 1 ((Word 0 ∷ Word 1 ∷ Word 3 ∷ []) ∷ (Word 0 ∷ Word 2 ∷ Word 2 ∷ []) ∷ (Word 0 ∷ Word 0 ∷ Word 0 ∷ []) ∷ (Word 0 ∷ Word 0 ∷ Word 1 ∷ []) ∷ []) ([] ∷ ((Word 0 ∷ Word 1 ∷ Word 3 ∷ []) ∷ []) ∷ ((Word 0 ∷ Word 1 ∷ Word 3 ∷ []) ∷ (Word 0 ∷ Word 2 ∷ Word 2 ∷ []) ∷ []) ∷ ((Word 0 ∷ Word 1 ∷ Word 3 ∷ []) ∷ (Word 0 ∷ Word 2 ∷ Word 2 ∷ []) ∷ (Word 0 ∷ Word 3 ∷ Word 0 ∷ []) ∷ []) ∷ ((Word 0 ∷ Word 1 ∷ Word 3 ∷ []) ∷ (Word 0 ∷ Word 2 ∷ Word 2 ∷ []) ∷ (Word 0 ∷ Word 3 ∷ Word 0 ∷ []) ∷ (Word 0 ∷ Word 1 ∷ Word 1 ∷ []) ∷ []) ∷ []) 3 (differ 3 3 2 ∷ differ 4 3 2 ∷ []) ∷ job 4 6 ∷ added 6 ∷ ok ∷ at 6 5 1 1 120033 ∷ []
random_claims_3 = refl

-- two players: four claims, two of them with two entries in all
random_claims_4 :
    lines (record { profile = Wide; players = 2; local = 1; delays = 0 ∷ 0 ∷ []; masks = 3 ∷ 3 ∷ []; before = none_before; first = none_first; threshold = 8; limit = 9; log = 16777216 })
    (L 1 3 ∷ A ∷ L 1 0 ∷ G 2 2 (3 ∷ 3 ∷ 1 ∷ []) ∷ B 0 ∷ R 2 0 3 ∷ A ∷ S ∷ C ∷ L 1 1 ∷ A ∷ C ∷ G 2 4 (1 ∷ 2 ∷ 1 ∷ []) ∷ B 1 ∷ G 2 6 (0 ∷ 2 ∷ []) ∷ B 2 ∷ L 1 0 ∷ B 0 ∷ B 3 ∷ R 2 1 0 ∷ R 2 3 2 ∷ A ∷ C ∷ G 2 6 (1 ∷ 3 ∷ []) ∷ B 3 ∷ A ∷ G 2 7 (0 ∷ 3 ∷ 0 ∷ []) ∷ B 4 ∷ R 2 2 2 ∷ G 2 6 (3 ∷ 0 ∷ []) ∷ B 5 ∷ L 1 2 ∷ A ∷ C ∷ [])
    ≡ ok ∷ at 1 0 1 0 3 ∷ ok ∷ job 0 2 ∷ added 2 ∷ taken ∷ at 2 2 0 1 96 ∷ at 2 2 0 1 96 ∷ claimed 2 1 ((Word 0 ∷ Word 3 ∷ []) ∷ []) ([] ∷ ((Word 0 ∷ Word 3 ∷ []) ∷ []) ∷ []) 2 [] ∷ ok ∷ at 3 2 1 1 967 ∷ claimed 2 1 ((Word 0 ∷ Word 3 ∷ []) ∷ (Word 1 ∷ Word 3 ∷ []) ∷ []) ([] ∷ ((Word 0 ∷ Word 3 ∷ []) ∷ []) ∷ []) 2 [] ∷ job 1 3 ∷ added 3 ∷ job 2 5 ∷ added 5 ∷ ok ∷ refused 120 ∷ refused 120 ∷ taken ∷ refused 103 ∷ at 4 2 2 2 9010 ∷ claimed 2 2 ((Word 1 ∷ Word 0 ∷ []) ∷ (Word 0 ∷ Word 0 ∷ []) ∷ []) ([] ∷ ((Word 1 ∷ Word 2 ∷ []) ∷ []) ∷ []) 2 (differ 1 2 2 ∷ []) ∷ job 3 4 ∷ added 4 ∷ refused 101 ∷ job 4 4 ∷ added 4 ∷ taken ∷ job 5 3 ∷ added 3 ∷ ok ∷ at 5 3 2 3 90546 ∷ claimed 2 3 ((Word 0 ∷ Word 2 ∷ []) ∷ (Word 2 ∷ Word 2 ∷ []) ∷ []) ([] ∷ ((Word 0 ∷ Word 3 ∷ []) ∷ []) ∷ []) 3 (differ 1 3 2 ∷ []) ∷ []
random_claims_4 = refl

-- two players: four claims without entries; one partial roll; the log gets full; the last frame is reached
random_claims_5 :
    lines (record { profile = Ggpo; players = 2; local = 1; delays = 2 ∷ 0 ∷ []; masks = 1 ∷ 1 ∷ []; before = none_before; first = none_first; threshold = 6; limit = 5; log = 17 })
    (L 1 3 ∷ A ∷ C ∷ L 1 0 ∷ S ∷ C ∷ A ∷ R 2 0 2 ∷ L 1 0 ∷ A ∷ P 3 0 ∷ G 2 6 (2 ∷ []) ∷ S ∷ C ∷ S ∷ C ∷ R 2 1 0 ∷ L 1 2 ∷ A ∷ R 2 2 0 ∷ L 1 0 ∷ A ∷ L 1 3 ∷ R 2 3 1 ∷ P 6 0 ∷ S ∷ R 2 3 0 ∷ D 2 ∷ P 5 0 ∷ S ∷ G 2 7 (0 ∷ []) ∷ R 2 2 1 ∷ R 2 3 3 ∷ G 2 6 (0 ∷ []) ∷ A ∷ [])
    ≡ ok ∷ at 1 0 1 0 0 ∷ claimed 2 0 ((Word 0 ∷ Word 0 ∷ []) ∷ []) ([] ∷ []) 0 [] ∷ ok ∷ at 1 1 0 0 0 ∷ claimed 2 0 ((Word 0 ∷ Word 0 ∷ []) ∷ []) ([] ∷ ((Word 0 ∷ Word 0 ∷ []) ∷ []) ∷ []) 1 [] ∷ at 2 1 1 0 0 ∷ taken ∷ ok ∷ at 3 0 3 1 403 ∷ refused 107 ∷ refused 11 ∷ at 3 3 0 1 403 ∷ claimed 2 1 ((Word 0 ∷ Word 0 ∷ []) ∷ (Word 3 ∷ Word 0 ∷ []) ∷ []) ([] ∷ ((Word 0 ∷ Word 0 ∷ []) ∷ []) ∷ ((Word 0 ∷ Word 0 ∷ []) ∷ (Word 3 ∷ Word 0 ∷ []) ∷ []) ∷ []) 3 [] ∷ at 3 3 0 1 403 ∷ claimed 2 1 ((Word 0 ∷ Word 0 ∷ []) ∷ (Word 3 ∷ Word 0 ∷ []) ∷ []) ([] ∷ ((Word 0 ∷ Word 0 ∷ []) ∷ []) ∷ ((Word 0 ∷ Word 0 ∷ []) ∷ (Word 3 ∷ Word 0 ∷ []) ∷ []) ∷ []) 3 [] ∷ taken ∷ ok ∷ at 4 3 1 2 4030 ∷ taken ∷ ok ∷ at 5 4 1 3 40300 ∷ refused 106 ∷ refused 114 ∷ refused 11 ∷ refused 114 ∷ refused 114 ∷ refused 114 ∷ refused 114 ∷ refused 114 ∷ refused 11 ∷ refused 104 ∷ refused 114 ∷ refused 11 ∷ refused 101 ∷ []
random_claims_5 = refl

-- three players: two claims, one of them with one entry
random_claims_6 :
    lines (record { profile = Ggpo; players = 3; local = 2; delays = 0 ∷ 0 ∷ 0 ∷ []; masks = 3 ∷ 3 ∷ 3 ∷ []; before = none_before; first = none_first; threshold = 3; limit = 5; log = 16777216 })
    (G 1 3 (2 ∷ []) ∷ B 0 ∷ G 1 2 (2 ∷ 2 ∷ 0 ∷ []) ∷ R 1 0 3 ∷ G 3 2 (1 ∷ 2 ∷ []) ∷ B 1 ∷ L 2 3 ∷ A ∷ L 2 3 ∷ A ∷ C ∷ G 3 3 (3 ∷ []) ∷ B 2 ∷ L 2 1 ∷ A ∷ G 3 5 (0 ∷ 1 ∷ 1 ∷ []) ∷ B 3 ∷ G 1 6 (2 ∷ 1 ∷ 0 ∷ []) ∷ G 2 6 (0 ∷ 1 ∷ []) ∷ L 2 1 ∷ R 1 1 2 ∷ R 3 0 1 ∷ G 1 5 (3 ∷ 1 ∷ []) ∷ B 4 ∷ L 2 3 ∷ A ∷ C ∷ G 3 7 (3 ∷ 3 ∷ 0 ∷ []) ∷ G 3 5 (0 ∷ 0 ∷ []) ∷ B 5 ∷ L 2 2 ∷ A ∷ L 3 2 ∷ L 2 1 ∷ [])
    ≡ job 0 3 ∷ added 3 ∷ kept ∷ taken ∷ job 1 2 ∷ added 2 ∷ ok ∷ at 1 0 1 0 9 ∷ ok ∷ at 2 1 1 0 99 ∷ claimed 3 0 ((Word 3 ∷ Word 3 ∷ Word 0 ∷ []) ∷ (Word 3 ∷ Word 3 ∷ Word 0 ∷ []) ∷ []) ([] ∷ ((Word 3 ∷ Word 3 ∷ Word 0 ∷ []) ∷ []) ∷ []) 1 [] ∷ job 2 3 ∷ added 3 ∷ ok ∷ at 3 2 1 0 995 ∷ job 3 4 ∷ added 4 ∷ refused 11 ∷ refused 11 ∷ refused 4 ∷ taken ∷ taken ∷ job 4 5 ∷ added 5 ∷ ok ∷ at 4 2 2 1 13181 ∷ claimed 3 1 ((Word 2 ∷ Word 3 ∷ Word 1 ∷ []) ∷ (Word 2 ∷ Word 1 ∷ Word 1 ∷ []) ∷ (Word 2 ∷ Word 3 ∷ Word 1 ∷ []) ∷ []) ([] ∷ ((Word 2 ∷ Word 3 ∷ Word 1 ∷ []) ∷ []) ∷ ((Word 2 ∷ Word 3 ∷ Word 1 ∷ []) ∷ (Word 3 ∷ Word 1 ∷ Word 1 ∷ []) ∷ []) ∷ []) 2 (differ 2 2 1 ∷ []) ∷ refused 11 ∷ job 5 4 ∷ added 4 ∷ refused 4 ∷ refused 101 ∷ refused 2 ∷ refused 4 ∷ []
random_claims_6 = refl
