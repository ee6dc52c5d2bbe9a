-- Random scripts, with the lines that an independent program, written from the rules, printed for them.
use Rattle.std.proofs.Common.{◌≡◌, [], ◌∷◌, refl}
use Rattle.roll_frame.specs.declared.profile.Profile.TheVariants.{Ggpo, Wide}
use Rattle.roll_frame.specs.declared.entry.Entry.TheVariants.{Local, Remote, Disconnect, Sync, Advance}
use Rattle.test_rules.proofs.Scripts.{Do, G, B, ok, taken, refused, gone, frame, job, kept, added, lines}
use Rattle.roll_frame.specs.Settings.{none_before, none_first}

random_1 : lines (record { profile = Wide; players = 1; local = 1; delays = 2 ∷ []; masks = 0 ∷ []; before = none_before; first = none_first; threshold = 4; limit = 1048576; log = 16777216 }) (G 1 0 (0 ∷ 1 ∷ 1 ∷ 3 ∷ []) ∷ G 1 5 (1 ∷ 3 ∷ 0 ∷ 3 ∷ []) ∷ B 0 ∷ Do (Local 1 0) ∷ Do Advance ∷ Do Sync ∷ Do (Local 1 2) ∷ Do Advance ∷ G 1 0 (1 ∷ 1 ∷ []) ∷ Do Sync ∷ Do (Remote 1 2 1) ∷ Do (Remote 1 2 3) ∷ Do (Disconnect 1) ∷ Do (Local 1 3) ∷ Do Advance ∷ Do (Disconnect 1) ∷ Do (Remote 1 2 1) ∷ Do Sync ∷ Do (Remote 1 2 0) ∷ G 1 6 (1 ∷ 3 ∷ []) ∷ B 1 ∷ G 1 1 (3 ∷ 3 ∷ 0 ∷ 0 ∷ []) ∷ Do (Remote 1 2 1) ∷ G 1 0 (3 ∷ 3 ∷ 3 ∷ []) ∷ Do Sync ∷ Do Sync ∷ Do (Local 1 1) ∷ Do Advance ∷ Do (Disconnect 1) ∷ Do (Remote 1 2 3) ∷ Do (Remote 1 2 1) ∷ G 1 7 (3 ∷ 3 ∷ []) ∷ Do (Local 1 0) ∷ Do Advance ∷ Do (Remote 1 1 3) ∷ Do (Local 1 2) ∷ Do Advance ∷ Do (Remote 1 2 1) ∷ Do (Local 1 3) ∷ Do Advance ∷ Do (Remote 1 2 3) ∷ Do (Local 1 1) ∷ Do Advance ∷ []) ≡ refused 11 ∷ job 0 5 ∷ added 5 ∷ ok ∷ frame 1 1 0 1 (0 ∷ []) ∷ frame 1 1 0 1 (0 ∷ []) ∷ ok ∷ frame 2 2 0 2 (0 ∷ []) ∷ refused 11 ∷ frame 2 2 0 2 (0 ∷ []) ∷ refused 2 ∷ refused 2 ∷ refused 2 ∷ ok ∷ frame 3 2 1 3 (0 ∷ []) ∷ refused 2 ∷ refused 2 ∷ frame 3 3 0 3 (0 ∷ []) ∷ refused 2 ∷ job 1 3 ∷ added 3 ∷ refused 11 ∷ refused 2 ∷ refused 11 ∷ frame 3 3 0 3 (0 ∷ []) ∷ frame 3 3 0 3 (0 ∷ []) ∷ ok ∷ frame 4 4 0 4 (2 ∷ []) ∷ refused 2 ∷ refused 2 ∷ refused 2 ∷ job 2 1 ∷ ok ∷ frame 5 5 0 5 (23 ∷ []) ∷ refused 2 ∷ ok ∷ frame 6 6 0 6 (231 ∷ []) ∷ refused 2 ∷ ok ∷ frame 7 6 1 7 (2310 ∷ []) ∷ refused 2 ∷ ok ∷ frame 8 7 1 8 (23102 ∷ []) ∷ []
random_1 = refl

random_2 : lines (record { profile = Ggpo; players = 1; local = 1; delays = 0 ∷ []; masks = 2 ∷ []; before = none_before; first = none_first; threshold = 3; limit = 1048576; log = 16777216 }) (Do (Local 1 1) ∷ Do Advance ∷ Do Sync ∷ Do Sync ∷ Do (Local 1 2) ∷ Do Advance ∷ Do Sync ∷ G 1 8 (3 ∷ 1 ∷ 0 ∷ 0 ∷ []) ∷ Do (Remote 1 0 1) ∷ B 0 ∷ Do (Remote 1 0 0) ∷ Do (Local 1 3) ∷ Do Advance ∷ Do (Local 1 3) ∷ Do Advance ∷ Do (Disconnect 1) ∷ Do (Disconnect 1) ∷ G 1 10 (1 ∷ 1 ∷ 0 ∷ []) ∷ B 1 ∷ Do (Remote 1 1 3) ∷ Do (Local 1 3) ∷ Do Advance ∷ Do (Remote 1 1 1) ∷ Do (Remote 1 0 3) ∷ Do (Local 1 3) ∷ Do Advance ∷ G 1 12 (1 ∷ 1 ∷ 1 ∷ []) ∷ B 2 ∷ G 1 7 (1 ∷ 3 ∷ []) ∷ Do (Remote 1 0 3) ∷ Do (Local 1 1) ∷ Do Advance ∷ Do (Disconnect 1) ∷ Do (Local 1 0) ∷ Do Advance ∷ Do (Local 1 1) ∷ Do Advance ∷ G 1 14 (1 ∷ 0 ∷ []) ∷ G 1 12 (0 ∷ []) ∷ Do (Remote 1 0 3) ∷ Do (Local 1 0) ∷ Do Advance ∷ B 4 ∷ Do (Local 1 0) ∷ Do Advance ∷ Do (Remote 1 0 3) ∷ Do (Local 1 0) ∷ Do Advance ∷ Do (Remote 1 0 0) ∷ Do (Disconnect 1) ∷ []) ≡ ok ∷ frame 1 0 1 1 (1 ∷ []) ∷ frame 1 1 0 1 (1 ∷ []) ∷ frame 1 1 0 1 (1 ∷ []) ∷ ok ∷ frame 2 1 1 2 (12 ∷ []) ∷ frame 2 2 0 2 (12 ∷ []) ∷ job 0 6 ∷ refused 2 ∷ added 6 ∷ refused 2 ∷ ok ∷ frame 3 3 0 3 (123 ∷ []) ∷ ok ∷ frame 4 3 1 4 (1233 ∷ []) ∷ refused 2 ∷ refused 2 ∷ job 1 6 ∷ added 6 ∷ refused 2 ∷ ok ∷ frame 5 4 1 5 (12333 ∷ []) ∷ refused 2 ∷ refused 2 ∷ ok ∷ frame 6 5 1 6 (123333 ∷ []) ∷ job 2 6 ∷ added 6 ∷ kept ∷ refused 2 ∷ ok ∷ frame 7 7 0 7 (233331 ∷ []) ∷ refused 2 ∷ ok ∷ frame 8 7 1 8 (333310 ∷ []) ∷ ok ∷ frame 9 8 1 9 (333101 ∷ []) ∷ job 3 5 ∷ job 4 3 ∷ refused 2 ∷ ok ∷ frame 10 9 1 10 (331010 ∷ []) ∷ added 2 ∷ ok ∷ frame 11 11 0 11 (310100 ∷ []) ∷ refused 2 ∷ ok ∷ frame 12 12 0 12 (101000 ∷ []) ∷ refused 2 ∷ refused 2 ∷ []
random_2 = refl

random_3 : lines (record { profile = Wide; players = 5; local = 4; delays = 0 ∷ 0 ∷ 2 ∷ 0 ∷ 0 ∷ []; masks = 3 ∷ 4294967295 ∷ 3 ∷ 4294967295 ∷ 0 ∷ []; before = none_before; first = none_first; threshold = 5; limit = 1048576; log = 16777216 }) (Do (Local 3 1) ∷ Do Advance ∷ Do (Local 3 2) ∷ Do Advance ∷ Do (Remote 5 0 1) ∷ Do Sync ∷ Do (Local 3 1) ∷ Do Advance ∷ Do (Remote 1 1 0) ∷ Do (Local 3 0) ∷ Do Advance ∷ Do (Remote 1 0 1) ∷ Do Sync ∷ Do (Remote 4 0 3) ∷ G 4 3 (0 ∷ 0 ∷ 0 ∷ []) ∷ Do (Remote 3 3 1) ∷ G 3 7 (3 ∷ 1 ∷ 3 ∷ 3 ∷ []) ∷ Do (Remote 2 0 3) ∷ B 1 ∷ Do (Local 3 3) ∷ Do Advance ∷ Do (Disconnect 2) ∷ G 3 10 (3 ∷ []) ∷ G 5 6 (0 ∷ 0 ∷ 1 ∷ []) ∷ B 2 ∷ Do (Disconnect 1) ∷ Do (Remote 1 1 0) ∷ Do (Local 3 2) ∷ Do Advance ∷ G 1 3 (1 ∷ []) ∷ G 3 11 (3 ∷ 0 ∷ 0 ∷ []) ∷ Do (Remote 1 2 3) ∷ Do (Remote 2 1 1) ∷ Do Sync ∷ Do (Local 3 0) ∷ Do Advance ∷ Do (Disconnect 3) ∷ Do (Remote 2 2 1) ∷ Do (Remote 5 1 3) ∷ B 4 ∷ G 1 13 (1 ∷ 3 ∷ 3 ∷ []) ∷ G 3 10 (3 ∷ 1 ∷ 3 ∷ []) ∷ Do (Remote 4 0 1) ∷ Do (Local 3 1) ∷ Do Advance ∷ Do (Local 3 3) ∷ Do Advance ∷ []) ≡ ok ∷ frame 1 0 1 0 (0 ∷ []) ∷ ok ∷ frame 2 1 1 0 (0 ∷ []) ∷ taken ∷ frame 2 0 2 0 (50 ∷ []) ∷ ok ∷ frame 3 2 1 0 (503 ∷ []) ∷ refused 103 ∷ ok ∷ frame 4 3 1 0 (5036 ∷ []) ∷ taken ∷ frame 4 0 4 0 (6147 ∷ []) ∷ taken ∷ job 0 3 ∷ refused 2 ∷ job 1 7 ∷ taken ∷ added 0 ∷ ok ∷ frame 5 0 5 1 (261472 ∷ []) ∷ gone 2 ∷ job 2 8 ∷ job 3 5 ∷ added 8 ∷ gone 1 ∷ refused 9 ∷ ok ∷ frame 6 1 5 1 (648072 ∷ []) ∷ refused 9 ∷ job 4 5 ∷ refused 9 ∷ refused 9 ∷ frame 6 6 0 1 (648072 ∷ []) ∷ refused 4 ∷ refused 101 ∷ refused 2 ∷ refused 9 ∷ taken ∷ refused 112 ∷ refused 9 ∷ job 5 8 ∷ refused 104 ∷ refused 4 ∷ refused 101 ∷ refused 4 ∷ refused 101 ∷ []
random_3 = refl

random_4 : lines (record { profile = Wide; players = 1; local = 1; delays = 0 ∷ []; masks = 4294967295 ∷ []; before = none_before; first = none_first; threshold = 2; limit = 1048576; log = 16777216 }) (Do (Local 1 3) ∷ Do Advance ∷ G 1 3 (1 ∷ 0 ∷ 0 ∷ []) ∷ Do (Local 1 0) ∷ Do Advance ∷ G 1 4 (0 ∷ 1 ∷ []) ∷ Do (Local 1 3) ∷ Do Advance ∷ Do (Local 1 3) ∷ Do Advance ∷ G 1 3 (1 ∷ 1 ∷ []) ∷ Do (Local 1 3) ∷ Do Advance ∷ Do (Local 1 3) ∷ Do Advance ∷ Do Sync ∷ B 1 ∷ B 0 ∷ Do (Remote 1 0 3) ∷ Do (Local 1 2) ∷ Do Advance ∷ Do (Local 1 3) ∷ Do Advance ∷ Do (Local 1 0) ∷ Do Advance ∷ Do (Local 1 2) ∷ Do Advance ∷ Do Sync ∷ Do (Local 1 2) ∷ Do Advance ∷ G 1 11 (1 ∷ []) ∷ Do Sync ∷ Do (Remote 1 0 1) ∷ G 1 16 (1 ∷ 0 ∷ []) ∷ B 2 ∷ G 1 17 (0 ∷ 1 ∷ []) ∷ B 3 ∷ Do (Local 1 0) ∷ Do Advance ∷ Do (Local 1 0) ∷ Do Advance ∷ G 1 10 (1 ∷ 1 ∷ 0 ∷ []) ∷ G 1 19 (1 ∷ []) ∷ Do Sync ∷ B 4 ∷ Do (Local 1 3) ∷ Do Advance ∷ Do (Remote 1 0 3) ∷ Do (Local 1 0) ∷ Do Advance ∷ Do (Remote 1 0 1) ∷ Do Sync ∷ []) ≡ ok ∷ frame 1 0 1 1 (3 ∷ []) ∷ job 0 2 ∷ ok ∷ frame 2 1 1 2 (30 ∷ []) ∷ job 1 2 ∷ ok ∷ frame 3 2 1 3 (303 ∷ []) ∷ ok ∷ frame 4 3 1 4 (3033 ∷ []) ∷ refused 11 ∷ ok ∷ frame 5 4 1 5 (30333 ∷ []) ∷ ok ∷ frame 6 5 1 6 (303333 ∷ []) ∷ frame 6 6 0 6 (303333 ∷ []) ∷ refused 110 ∷ refused 110 ∷ refused 2 ∷ ok ∷ frame 7 6 1 7 (33332 ∷ []) ∷ ok ∷ frame 8 7 1 8 (333323 ∷ []) ∷ ok ∷ frame 9 8 1 9 (333230 ∷ []) ∷ ok ∷ frame 10 9 1 10 (332302 ∷ []) ∷ frame 10 10 0 10 (332302 ∷ []) ∷ ok ∷ frame 11 10 1 11 (323022 ∷ []) ∷ refused 11 ∷ frame 11 11 0 11 (323022 ∷ []) ∷ refused 2 ∷ job 2 5 ∷ added 5 ∷ job 3 6 ∷ added 6 ∷ ok ∷ frame 12 12 0 12 (230220 ∷ []) ∷ ok ∷ frame 13 12 1 13 (302200 ∷ []) ∷ refused 11 ∷ job 4 6 ∷ frame 13 13 0 13 (302200 ∷ []) ∷ added 6 ∷ ok ∷ frame 14 13 1 14 (22003 ∷ []) ∷ refused 2 ∷ ok ∷ frame 15 14 1 15 (220030 ∷ []) ∷ refused 2 ∷ frame 15 15 0 15 (220030 ∷ []) ∷ []
random_4 = refl

random_5 : lines (record { profile = Ggpo; players = 3; local = 2; delays = 0 ∷ 0 ∷ 0 ∷ []; masks = 1 ∷ 4294967295 ∷ 2 ∷ []; before = none_before; first = none_first; threshold = 2; limit = 1048576; log = 16777216 }) (Do (Remote 1 0 3) ∷ Do (Local 2 1) ∷ Do Advance ∷ Do (Local 2 1) ∷ Do Advance ∷ Do (Remote 1 1 0) ∷ G 1 2 (0 ∷ 0 ∷ 0 ∷ 0 ∷ []) ∷ Do (Local 2 1) ∷ Do Advance ∷ B 0 ∷ Do (Local 2 1) ∷ Do Advance ∷ Do (Local 2 1) ∷ Do Advance ∷ Do (Remote 3 1 0) ∷ Do (Local 2 1) ∷ Do Advance ∷ Do (Local 2 3) ∷ Do Advance ∷ Do (Remote 1 2 0) ∷ Do (Remote 3 0 0) ∷ Do Sync ∷ G 1 8 (1 ∷ 1 ∷ 3 ∷ []) ∷ Do (Remote 2 0 3) ∷ Do (Local 2 3) ∷ Do Advance ∷ Do (Disconnect 1) ∷ B 1 ∷ Do (Remote 2 0 3) ∷ G 2 11 (1 ∷ []) ∷ Do (Local 2 1) ∷ Do Advance ∷ Do Sync ∷ B 2 ∷ Do (Local 2 1) ∷ Do Advance ∷ Do (Remote 2 0 1) ∷ G 1 16 (1 ∷ 0 ∷ 1 ∷ []) ∷ Do (Local 2 3) ∷ Do Advance ∷ Do (Remote 2 0 1) ∷ Do (Local 2 0) ∷ Do Advance ∷ Do (Remote 2 0 0) ∷ G 3 11 (1 ∷ 0 ∷ 3 ∷ []) ∷ Do (Local 2 2) ∷ Do Advance ∷ Do (Local 2 3) ∷ Do Advance ∷ []) ≡ taken ∷ ok ∷ frame 1 0 1 0 (5 ∷ []) ∷ ok ∷ frame 2 1 1 0 (53 ∷ []) ∷ taken ∷ job 0 1 ∷ refused 4 ∷ refused 101 ∷ added 1 ∷ refused 4 ∷ refused 101 ∷ refused 4 ∷ refused 101 ∷ refused 103 ∷ refused 4 ∷ refused 101 ∷ refused 4 ∷ refused 101 ∷ taken ∷ taken ∷ frame 2 2 0 1 (52 ∷ []) ∷ job 1 6 ∷ refused 2 ∷ ok ∷ frame 3 2 1 1 (526 ∷ []) ∷ gone 1 ∷ added 0 ∷ refused 2 ∷ job 2 8 ∷ refused 4 ∷ refused 101 ∷ frame 3 3 0 1 (526 ∷ []) ∷ added 8 ∷ refused 4 ∷ refused 101 ∷ refused 2 ∷ refused 9 ∷ refused 4 ∷ refused 101 ∷ refused 2 ∷ refused 4 ∷ refused 101 ∷ refused 2 ∷ job 3 8 ∷ refused 4 ∷ refused 101 ∷ refused 4 ∷ refused 101 ∷ []
random_5 = refl

random_6 : lines (record { profile = Ggpo; players = 1; local = 1; delays = 0 ∷ []; masks = 1 ∷ []; before = none_before; first = none_first; threshold = 1; limit = 1048576; log = 16777216 }) (G 1 6 (1 ∷ 0 ∷ 1 ∷ []) ∷ Do (Remote 1 1 1) ∷ B 0 ∷ Do (Remote 1 0 3) ∷ Do Sync ∷ G 1 5 (1 ∷ []) ∷ Do (Remote 1 0 1) ∷ G 1 5 (0 ∷ []) ∷ G 1 0 (3 ∷ []) ∷ B 1 ∷ G 1 3 (3 ∷ 3 ∷ []) ∷ Do Sync ∷ G 1 5 (0 ∷ 3 ∷ 1 ∷ []) ∷ Do (Remote 1 0 3) ∷ B 2 ∷ Do (Remote 1 0 3) ∷ Do (Local 1 1) ∷ Do Advance ∷ Do (Remote 1 0 3) ∷ Do (Local 1 0) ∷ Do Advance ∷ Do (Local 1 1) ∷ Do Advance ∷ Do (Local 1 3) ∷ Do Advance ∷ Do Sync ∷ G 1 6 (3 ∷ 1 ∷ 1 ∷ 0 ∷ []) ∷ G 1 1 (1 ∷ 3 ∷ []) ∷ G 1 2 (0 ∷ 0 ∷ 3 ∷ 3 ∷ []) ∷ B 3 ∷ Do (Remote 1 0 3) ∷ Do (Remote 1 1 1) ∷ B 4 ∷ Do (Local 1 3) ∷ Do Advance ∷ Do (Remote 1 0 0) ∷ Do (Remote 1 0 1) ∷ Do (Local 1 2) ∷ Do Advance ∷ Do (Remote 1 0 1) ∷ Do Sync ∷ Do (Local 1 2) ∷ Do Advance ∷ G 1 6 (1 ∷ 1 ∷ 3 ∷ 1 ∷ []) ∷ Do (Remote 1 0 1) ∷ G 1 9 (1 ∷ 3 ∷ 0 ∷ 1 ∷ []) ∷ Do Sync ∷ []) ≡ job 0 6 ∷ refused 2 ∷ added 6 ∷ refused 2 ∷ frame 0 0 0 0 (0 ∷ []) ∷ job 1 4 ∷ refused 2 ∷ job 2 5 ∷ refused 11 ∷ added 4 ∷ job 3 3 ∷ frame 0 0 0 0 (0 ∷ []) ∷ job 4 5 ∷ refused 2 ∷ added 5 ∷ refused 2 ∷ ok ∷ frame 1 1 0 1 (1 ∷ []) ∷ refused 2 ∷ ok ∷ frame 2 2 0 2 (10 ∷ []) ∷ ok ∷ frame 3 3 0 3 (101 ∷ []) ∷ ok ∷ frame 4 3 1 4 (1013 ∷ []) ∷ frame 4 4 0 4 (1013 ∷ []) ∷ job 5 2 ∷ refused 11 ∷ refused 11 ∷ refused 110 ∷ refused 2 ∷ refused 2 ∷ refused 112 ∷ ok ∷ frame 5 4 1 5 (10133 ∷ []) ∷ refused 2 ∷ refused 2 ∷ ok ∷ frame 6 5 1 6 (101332 ∷ []) ∷ refused 2 ∷ frame 6 6 0 6 (101332 ∷ []) ∷ ok ∷ frame 7 6 1 7 (13322 ∷ []) ∷ refused 11 ∷ refused 2 ∷ job 6 2 ∷ frame 7 7 0 7 (13322 ∷ []) ∷ []
random_6 = refl

random_7 : lines (record { profile = Wide; players = 2; local = 3; delays = 0 ∷ 1 ∷ []; masks = 3 ∷ 4294967295 ∷ []; before = none_before; first = none_first; threshold = 5; limit = 1048576; log = 16777216 }) (Do (Local 1 0) ∷ Do (Local 2 2) ∷ Do Advance ∷ Do (Remote 1 0 3) ∷ Do (Remote 1 0 3) ∷ Do Sync ∷ Do Sync ∷ Do (Remote 1 0 3) ∷ Do (Local 1 1) ∷ Do (Local 2 0) ∷ Do Advance ∷ Do Sync ∷ Do Sync ∷ G 1 3 (0 ∷ 3 ∷ 3 ∷ []) ∷ Do (Local 1 0) ∷ Do (Local 2 1) ∷ Do Advance ∷ Do (Remote 2 1 1) ∷ Do Sync ∷ Do (Remote 2 1 0) ∷ G 1 1 (3 ∷ 1 ∷ 1 ∷ []) ∷ G 2 9 (0 ∷ []) ∷ Do (Remote 1 0 0) ∷ B 1 ∷ Do (Remote 1 0 3) ∷ G 2 5 (3 ∷ 1 ∷ 3 ∷ []) ∷ G 1 1 (1 ∷ 3 ∷ 3 ∷ []) ∷ Do (Local 1 3) ∷ Do (Local 2 2) ∷ Do Advance ∷ Do (Local 1 2) ∷ Do (Local 2 3) ∷ Do Advance ∷ Do (Local 1 2) ∷ Do (Local 2 3) ∷ Do Advance ∷ Do (Local 1 0) ∷ Do (Local 2 2) ∷ Do Advance ∷ Do (Local 1 3) ∷ Do (Local 2 1) ∷ Do Advance ∷ G 2 11 (0 ∷ 0 ∷ 1 ∷ 1 ∷ []) ∷ Do (Remote 1 0 3) ∷ Do (Local 1 2) ∷ Do (Local 2 3) ∷ Do Advance ∷ G 2 9 (0 ∷ 0 ∷ []) ∷ Do (Local 1 1) ∷ Do (Local 2 0) ∷ Do Advance ∷ Do (Remote 1 0 1) ∷ Do (Local 1 2) ∷ Do (Local 2 3) ∷ Do Advance ∷ Do Sync ∷ Do (Remote 1 1 3) ∷ B 3 ∷ G 1 15 (1 ∷ 1 ∷ 1 ∷ 0 ∷ []) ∷ []) ≡ ok ∷ ok ∷ frame 1 0 1 1 (0 ∷ []) ∷ refused 2 ∷ refused 2 ∷ frame 1 1 0 1 (0 ∷ []) ∷ frame 1 1 0 1 (0 ∷ []) ∷ refused 2 ∷ ok ∷ ok ∷ frame 2 1 1 2 (5 ∷ []) ∷ frame 2 2 0 2 (5 ∷ []) ∷ frame 2 2 0 2 (5 ∷ []) ∷ job 0 1 ∷ ok ∷ ok ∷ frame 3 2 1 3 (50 ∷ []) ∷ refused 2 ∷ frame 3 3 0 3 (50 ∷ []) ∷ refused 2 ∷ refused 11 ∷ job 1 6 ∷ refused 2 ∷ added 6 ∷ refused 2 ∷ job 2 1 ∷ refused 11 ∷ ok ∷ ok ∷ frame 4 3 1 4 (505 ∷ []) ∷ ok ∷ ok ∷ frame 5 4 1 5 (5056 ∷ []) ∷ ok ∷ ok ∷ frame 6 5 1 6 (50568 ∷ []) ∷ ok ∷ ok ∷ frame 7 6 1 7 (505686 ∷ []) ∷ ok ∷ ok ∷ frame 8 7 1 8 (56867 ∷ []) ∷ job 3 3 ∷ refused 2 ∷ ok ∷ ok ∷ frame 9 8 1 9 (568674 ∷ []) ∷ refused 11 ∷ ok ∷ ok ∷ frame 10 9 1 10 (686747 ∷ []) ∷ refused 2 ∷ ok ∷ ok ∷ frame 11 10 1 11 (867472 ∷ []) ∷ frame 11 11 0 11 (867472 ∷ []) ∷ refused 2 ∷ refused 110 ∷ job 4 4 ∷ []
random_7 = refl

random_8 : lines (record { profile = Wide; players = 4; local = 2; delays = 0 ∷ 0 ∷ 0 ∷ 0 ∷ []; masks = 4294967295 ∷ 1 ∷ 1 ∷ 3 ∷ []; before = none_before; first = none_first; threshold = 6; limit = 1048576; log = 16777216 }) (Do (Local 2 0) ∷ Do Advance ∷ Do (Remote 4 0 1) ∷ Do Sync ∷ Do (Remote 4 1 0) ∷ G 4 7 (3 ∷ 0 ∷ 3 ∷ 1 ∷ []) ∷ Do (Local 2 0) ∷ Do Advance ∷ Do (Remote 4 2 3) ∷ Do (Local 2 1) ∷ Do Advance ∷ G 4 8 (3 ∷ 0 ∷ []) ∷ Do Sync ∷ Do (Remote 1 0 3) ∷ Do (Local 2 2) ∷ Do Advance ∷ G 4 5 (1 ∷ 0 ∷ 0 ∷ []) ∷ G 1 9 (3 ∷ 1 ∷ 3 ∷ []) ∷ B 1 ∷ Do (Remote 2 0 0) ∷ Do (Remote 3 0 3) ∷ Do (Local 2 1) ∷ Do Advance ∷ Do (Remote 1 1 1) ∷ Do (Local 2 0) ∷ Do Advance ∷ Do (Remote 4 3 3) ∷ B 0 ∷ Do (Local 2 2) ∷ Do Advance ∷ Do (Local 2 0) ∷ Do Advance ∷ Do (Local 2 1) ∷ Do Advance ∷ Do (Remote 1 2 1) ∷ B 3 ∷ Do Sync ∷ B 2 ∷ Do (Local 2 2) ∷ Do Advance ∷ Do (Remote 1 2 0) ∷ Do (Local 2 0) ∷ Do Advance ∷ Do (Local 2 0) ∷ Do Advance ∷ G 3 11 (3 ∷ 0 ∷ 3 ∷ 0 ∷ []) ∷ Do (Local 2 1) ∷ Do Advance ∷ Do (Remote 1 4 1) ∷ Do (Remote 3 1 3) ∷ B 4 ∷ Do (Local 2 0) ∷ Do Advance ∷ []) ≡ ok ∷ frame 1 0 1 0 (0 ∷ []) ∷ taken ∷ frame 1 0 1 0 (4 ∷ []) ∷ taken ∷ job 0 6 ∷ ok ∷ frame 2 1 1 0 (40 ∷ []) ∷ taken ∷ ok ∷ frame 3 2 1 0 (414 ∷ []) ∷ job 1 5 ∷ frame 3 3 0 0 (414 ∷ []) ∷ taken ∷ ok ∷ frame 4 0 4 0 (7489 ∷ []) ∷ job 2 2 ∷ job 3 7 ∷ refused 112 ∷ refused 2 ∷ taken ∷ ok ∷ frame 5 0 5 1 (168240 ∷ []) ∷ taken ∷ ok ∷ frame 6 1 5 1 (660196 ∷ []) ∷ taken ∷ refused 112 ∷ ok ∷ frame 7 6 1 1 (601980 ∷ []) ∷ refused 4 ∷ refused 101 ∷ refused 4 ∷ refused 101 ∷ taken ∷ refused 112 ∷ frame 7 7 0 1 (601980 ∷ []) ∷ refused 112 ∷ refused 4 ∷ refused 101 ∷ refused 104 ∷ refused 4 ∷ refused 101 ∷ refused 4 ∷ refused 101 ∷ job 4 8 ∷ refused 4 ∷ refused 101 ∷ refused 103 ∷ taken ∷ added 8 ∷ ok ∷ frame 8 2 6 2 (19816 ∷ []) ∷ []
random_8 = refl

random_9 : lines (record { profile = Ggpo; players = 3; local = 5; delays = 0 ∷ 0 ∷ 1 ∷ []; masks = 3 ∷ 0 ∷ 3 ∷ []; before = none_before; first = none_first; threshold = 6; limit = 1048576; log = 16777216 }) (Do (Local 1 0) ∷ Do (Local 3 2) ∷ Do Advance ∷ Do (Local 1 2) ∷ Do (Local 3 2) ∷ Do Advance ∷ Do (Local 1 1) ∷ Do (Local 3 0) ∷ Do Advance ∷ Do (Local 1 0) ∷ Do (Local 3 2) ∷ Do Advance ∷ G 1 5 (3 ∷ 0 ∷ []) ∷ G 2 2 (0 ∷ 1 ∷ 1 ∷ []) ∷ Do (Remote 1 0 3) ∷ B 0 ∷ B 1 ∷ Do (Local 1 2) ∷ Do (Local 3 2) ∷ Do Advance ∷ Do (Local 1 1) ∷ Do (Local 3 2) ∷ Do Advance ∷ G 1 12 (0 ∷ []) ∷ G 1 6 (0 ∷ 0 ∷ 0 ∷ []) ∷ Do (Remote 1 0 0) ∷ Do Sync ∷ Do (Remote 1 0 0) ∷ Do (Remote 3 1 3) ∷ Do Sync ∷ Do (Local 1 0) ∷ Do (Local 3 0) ∷ Do Advance ∷ Do (Local 1 1) ∷ Do (Local 3 3) ∷ Do Advance ∷ G 3 5 (3 ∷ []) ∷ Do (Remote 1 0 3) ∷ Do (Remote 3 1 3) ∷ Do (Remote 3 2 0) ∷ B 2 ∷ Do (Local 1 3) ∷ Do (Local 3 2) ∷ Do Advance ∷ Do (Local 1 1) ∷ Do (Local 3 0) ∷ Do Advance ∷ Do (Remote 3 1 0) ∷ Do (Remote 1 0 1) ∷ Do (Local 1 0) ∷ Do (Local 3 3) ∷ Do Advance ∷ Do Sync ∷ Do (Local 1 0) ∷ Do (Local 3 0) ∷ Do Advance ∷ Do (Remote 3 1 1) ∷ Do (Remote 1 0 3) ∷ Do (Local 1 1) ∷ Do (Local 3 0) ∷ Do Advance ∷ Do (Remote 2 0 1) ∷ Do (Local 1 3) ∷ Do (Local 3 1) ∷ Do Advance ∷ G 2 11 (0 ∷ []) ∷ Do (Local 1 1) ∷ Do (Local 3 0) ∷ Do Advance ∷ []) ≡ ok ∷ ok ∷ frame 1 0 1 0 (0 ∷ []) ∷ ok ∷ ok ∷ frame 2 1 1 0 (8 ∷ []) ∷ ok ∷ ok ∷ frame 3 2 1 0 (87 ∷ []) ∷ ok ∷ ok ∷ frame 4 3 1 0 (870 ∷ []) ∷ job 0 1 ∷ job 1 1 ∷ refused 2 ∷ added 1 ∷ added 1 ∷ ok ∷ ok ∷ frame 5 4 1 0 (8708 ∷ []) ∷ ok ∷ ok ∷ frame 6 5 1 0 (87087 ∷ []) ∷ job 2 6 ∷ kept ∷ refused 2 ∷ frame 6 6 0 0 (87087 ∷ []) ∷ refused 2 ∷ refused 2 ∷ frame 6 6 0 0 (87087 ∷ []) ∷ refused 4 ∷ refused 4 ∷ refused 101 ∷ refused 4 ∷ refused 4 ∷ refused 101 ∷ kept ∷ refused 2 ∷ refused 2 ∷ refused 2 ∷ added 6 ∷ refused 4 ∷ refused 4 ∷ refused 101 ∷ refused 4 ∷ refused 4 ∷ refused 101 ∷ refused 2 ∷ refused 2 ∷ refused 4 ∷ refused 4 ∷ refused 101 ∷ frame 6 6 0 0 (87087 ∷ []) ∷ refused 4 ∷ refused 4 ∷ refused 101 ∷ refused 2 ∷ refused 2 ∷ refused 4 ∷ refused 4 ∷ refused 101 ∷ taken ∷ ok ∷ ok ∷ frame 7 0 7 1 (870879 ∷ []) ∷ job 3 4 ∷ refused 4 ∷ refused 4 ∷ refused 101 ∷ []
random_9 = refl

random_10 : lines (record { profile = Ggpo; players = 4; local = 9; delays = 2 ∷ 0 ∷ 0 ∷ 1 ∷ []; masks = 1 ∷ 4294967295 ∷ 3 ∷ 0 ∷ []; before = none_before; first = none_first; threshold = 4; limit = 1048576; log = 16777216 }) (Do (Remote 2 1 1) ∷ Do (Local 1 1) ∷ Do (Local 4 3) ∷ Do Advance ∷ Do (Remote 3 1 1) ∷ Do (Remote 3 1 1) ∷ Do (Local 1 1) ∷ Do (Local 4 2) ∷ Do Advance ∷ Do Sync ∷ Do (Local 1 0) ∷ Do (Local 4 1) ∷ Do Advance ∷ Do (Local 1 3) ∷ Do (Local 4 3) ∷ Do Advance ∷ G 2 6 (1 ∷ 1 ∷ 0 ∷ 3 ∷ []) ∷ Do Sync ∷ B 0 ∷ Do (Local 1 1) ∷ Do (Local 4 2) ∷ Do Advance ∷ Do (Local 1 0) ∷ Do (Local 4 2) ∷ Do Advance ∷ Do (Remote 1 1 0) ∷ Do (Local 1 3) ∷ Do (Local 4 1) ∷ Do Advance ∷ Do (Local 1 0) ∷ Do (Local 4 2) ∷ Do Advance ∷ Do (Local 1 1) ∷ Do (Local 4 3) ∷ Do Advance ∷ Do (Remote 4 1 0) ∷ G 2 15 (0 ∷ 1 ∷ []) ∷ Do (Remote 2 1 3) ∷ B 1 ∷ Do (Local 1 1) ∷ Do (Local 4 2) ∷ Do Advance ∷ G 3 13 (0 ∷ 3 ∷ []) ∷ G 3 12 (0 ∷ 1 ∷ []) ∷ Do (Remote 2 0 1) ∷ G 2 15 (3 ∷ 1 ∷ 3 ∷ []) ∷ Do (Remote 2 1 3) ∷ Do (Remote 4 1 1) ∷ Do (Remote 3 0 1) ∷ Do (Remote 2 1 1) ∷ Do (Local 1 2) ∷ Do (Local 4 0) ∷ Do Advance ∷ B 2 ∷ Do (Remote 1 2 1) ∷ Do (Local 1 0) ∷ Do (Local 4 2) ∷ Do Advance ∷ B 4 ∷ G 2 16 (3 ∷ 1 ∷ 1 ∷ 3 ∷ []) ∷ Do (Local 1 2) ∷ Do (Local 4 2) ∷ Do Advance ∷ Do (Remote 2 3 0) ∷ Do (Remote 1 3 0) ∷ Do Sync ∷ []) ≡ refused 103 ∷ ok ∷ ok ∷ frame 1 0 1 0 (0 ∷ []) ∷ refused 103 ∷ refused 103 ∷ ok ∷ ok ∷ frame 2 1 1 0 (12 ∷ []) ∷ frame 2 2 0 0 (12 ∷ []) ∷ ok ∷ ok ∷ frame 3 2 1 0 (129 ∷ []) ∷ ok ∷ ok ∷ frame 4 3 1 0 (1295 ∷ []) ∷ job 0 6 ∷ frame 4 4 0 0 (1295 ∷ []) ∷ added 6 ∷ refused 4 ∷ refused 4 ∷ refused 101 ∷ refused 4 ∷ refused 4 ∷ refused 101 ∷ refused 2 ∷ refused 4 ∷ refused 4 ∷ refused 101 ∷ refused 4 ∷ refused 4 ∷ refused 101 ∷ refused 4 ∷ refused 4 ∷ refused 101 ∷ refused 2 ∷ job 1 8 ∷ refused 103 ∷ added 8 ∷ refused 4 ∷ refused 4 ∷ refused 101 ∷ job 2 8 ∷ job 3 8 ∷ taken ∷ job 4 8 ∷ taken ∷ refused 2 ∷ taken ∷ refused 104 ∷ ok ∷ ok ∷ frame 5 0 5 1 (72961 ∷ []) ∷ refused 112 ∷ refused 2 ∷ refused 4 ∷ refused 4 ∷ refused 101 ∷ refused 112 ∷ job 5 8 ∷ refused 4 ∷ refused 4 ∷ refused 101 ∷ refused 103 ∷ refused 2 ∷ frame 5 5 0 1 (72961 ∷ []) ∷ []
random_10 = refl

random_11 : lines (record { profile = Ggpo; players = 4; local = 3; delays = 2 ∷ 0 ∷ 0 ∷ 0 ∷ []; masks = 4294967295 ∷ 0 ∷ 2 ∷ 1 ∷ []; before = none_before; first = none_first; threshold = 5; limit = 1048576; log = 16777216 }) (Do (Local 1 0) ∷ Do (Local 2 2) ∷ Do Advance ∷ G 2 0 (0 ∷ []) ∷ Do (Local 1 1) ∷ Do (Local 2 0) ∷ Do Advance ∷ G 3 7 (3 ∷ 0 ∷ []) ∷ Do Sync ∷ Do (Remote 1 2 3) ∷ Do (Local 1 0) ∷ Do (Local 2 3) ∷ Do Advance ∷ Do (Remote 2 0 1) ∷ Do (Local 1 0) ∷ Do (Local 2 2) ∷ Do Advance ∷ Do (Local 1 3) ∷ Do (Local 2 2) ∷ Do Advance ∷ Do (Local 1 0) ∷ Do (Local 2 0) ∷ Do Advance ∷ Do (Local 1 0) ∷ Do (Local 2 2) ∷ Do Advance ∷ Do (Remote 4 0 0) ∷ Do Sync ∷ Do (Local 1 3) ∷ Do (Local 2 3) ∷ Do Advance ∷ Do (Local 1 3) ∷ Do (Local 2 0) ∷ Do Advance ∷ B 0 ∷ G 1 8 (3 ∷ 0 ∷ []) ∷ Do (Local 1 2) ∷ Do (Local 2 2) ∷ Do Advance ∷ Do (Local 1 1) ∷ Do (Local 2 2) ∷ Do Advance ∷ Do (Remote 2 0 3) ∷ Do (Remote 4 1 0) ∷ Do (Local 1 3) ∷ Do (Local 2 0) ∷ Do Advance ∷ Do (Local 1 2) ∷ Do (Local 2 0) ∷ Do Advance ∷ Do (Local 1 1) ∷ Do (Local 2 1) ∷ Do Advance ∷ Do (Remote 1 1 1) ∷ B 1 ∷ Do (Remote 1 2 0) ∷ Do Sync ∷ Do (Local 1 3) ∷ Do (Local 2 3) ∷ Do Advance ∷ Do Sync ∷ Do (Local 1 2) ∷ Do (Local 2 1) ∷ Do Advance ∷ Do (Local 1 1) ∷ Do (Local 2 3) ∷ Do Advance ∷ G 2 17 (3 ∷ 3 ∷ []) ∷ B 2 ∷ Do (Local 1 2) ∷ Do (Local 2 2) ∷ Do Advance ∷ Do Sync ∷ []) ≡ ok ∷ ok ∷ frame 1 0 1 0 (4 ∷ []) ∷ refused 11 ∷ ok ∷ ok ∷ frame 2 1 1 0 (40 ∷ []) ∷ job 0 7 ∷ frame 2 2 0 0 (40 ∷ []) ∷ refused 2 ∷ ok ∷ ok ∷ frame 3 2 1 0 (406 ∷ []) ∷ refused 2 ∷ ok ∷ ok ∷ frame 4 3 1 0 (4065 ∷ []) ∷ ok ∷ ok ∷ frame 5 4 1 0 (40654 ∷ []) ∷ refused 4 ∷ refused 4 ∷ refused 101 ∷ refused 4 ∷ refused 4 ∷ refused 101 ∷ taken ∷ frame 5 5 0 0 (40654 ∷ []) ∷ refused 4 ∷ refused 4 ∷ refused 101 ∷ refused 4 ∷ refused 4 ∷ refused 101 ∷ added 2 ∷ job 1 3 ∷ refused 4 ∷ refused 4 ∷ refused 101 ∷ refused 4 ∷ refused 4 ∷ refused 101 ∷ refused 2 ∷ taken ∷ refused 4 ∷ refused 4 ∷ refused 101 ∷ refused 4 ∷ refused 4 ∷ refused 101 ∷ refused 4 ∷ refused 4 ∷ refused 101 ∷ refused 2 ∷ added 3 ∷ refused 2 ∷ frame 5 5 0 0 (40654 ∷ []) ∷ refused 4 ∷ refused 4 ∷ refused 101 ∷ frame 5 5 0 0 (40654 ∷ []) ∷ refused 4 ∷ refused 4 ∷ refused 101 ∷ refused 4 ∷ refused 4 ∷ refused 101 ∷ job 2 8 ∷ added 8 ∷ refused 4 ∷ refused 4 ∷ refused 101 ∷ frame 5 5 0 0 (40654 ∷ []) ∷ []
random_11 = refl

random_12 : lines (record { profile = Ggpo; players = 3; local = 2; delays = 0 ∷ 1 ∷ 0 ∷ []; masks = 0 ∷ 2 ∷ 0 ∷ []; before = none_before; first = none_first; threshold = 1; limit = 1048576; log = 16777216 }) (G 3 1 (3 ∷ []) ∷ Do Sync ∷ Do (Disconnect 2) ∷ Do (Local 2 1) ∷ Do Advance ∷ Do (Local 2 1) ∷ Do Advance ∷ Do (Local 2 3) ∷ Do Advance ∷ G 1 0 (3 ∷ []) ∷ Do (Remote 1 0 1) ∷ Do (Local 2 2) ∷ Do Advance ∷ Do (Disconnect 3) ∷ Do (Remote 3 0 0) ∷ Do (Disconnect 1) ∷ Do Sync ∷ Do (Remote 1 1 3) ∷ Do (Remote 3 1 1) ∷ Do Sync ∷ Do (Remote 3 3 0) ∷ B 0 ∷ Do (Disconnect 3) ∷ Do (Local 2 3) ∷ Do Advance ∷ Do (Remote 2 1 1) ∷ Do (Local 2 3) ∷ Do Advance ∷ Do (Remote 3 1 0) ∷ Do (Local 2 2) ∷ Do Advance ∷ Do (Local 2 0) ∷ Do Advance ∷ Do (Local 2 2) ∷ Do Advance ∷ Do (Local 2 1) ∷ Do Advance ∷ G 1 15 (0 ∷ 0 ∷ []) ∷ G 1 13 (1 ∷ 1 ∷ 3 ∷ []) ∷ Do Sync ∷ Do (Local 2 2) ∷ Do Advance ∷ Do (Remote 2 1 1) ∷ Do (Remote 2 1 0) ∷ Do (Remote 3 2 0) ∷ Do (Local 2 1) ∷ Do Advance ∷ Do (Local 2 3) ∷ Do Advance ∷ G 1 13 (3 ∷ []) ∷ []) ≡ job 0 1 ∷ frame 0 0 0 0 (0 ∷ []) ∷ refused 2 ∷ ok ∷ frame 1 0 1 0 (0 ∷ []) ∷ refused 4 ∷ refused 101 ∷ refused 4 ∷ refused 101 ∷ refused 11 ∷ taken ∷ refused 4 ∷ refused 101 ∷ gone 3 ∷ refused 9 ∷ gone 1 ∷ frame 1 0 1 1 (6 ∷ []) ∷ refused 9 ∷ refused 9 ∷ frame 1 1 0 1 (6 ∷ []) ∷ refused 9 ∷ refused 110 ∷ refused 9 ∷ ok ∷ frame 2 1 1 2 (72 ∷ []) ∷ refused 2 ∷ ok ∷ frame 3 2 1 3 (736 ∷ []) ∷ refused 9 ∷ ok ∷ frame 4 3 1 4 (7376 ∷ []) ∷ ok ∷ frame 5 4 1 5 (73774 ∷ []) ∷ ok ∷ frame 6 5 1 6 (737750 ∷ []) ∷ ok ∷ frame 7 6 1 7 (377514 ∷ []) ∷ refused 9 ∷ refused 9 ∷ frame 7 7 0 7 (377514 ∷ []) ∷ ok ∷ frame 8 7 1 8 (775152 ∷ []) ∷ refused 2 ∷ refused 2 ∷ refused 9 ∷ ok ∷ frame 9 8 1 9 (751534 ∷ []) ∷ ok ∷ frame 10 9 1 10 (515352 ∷ []) ∷ refused 9 ∷ []
random_12 = refl

random_13 : lines (record { profile = Wide; players = 6; local = 32; delays = 0 ∷ 0 ∷ 0 ∷ 0 ∷ 0 ∷ 0 ∷ []; masks = 1 ∷ 1 ∷ 1 ∷ 4294967295 ∷ 3 ∷ 1 ∷ []; before = none_before; first = none_first; threshold = 2; limit = 1048576; log = 16777216 }) (G 1 3 (3 ∷ 3 ∷ []) ∷ Do (Disconnect 3) ∷ B 0 ∷ Do (Local 6 3) ∷ Do Advance ∷ G 6 6 (1 ∷ 1 ∷ []) ∷ B 1 ∷ Do (Remote 5 0 1) ∷ G 4 5 (1 ∷ []) ∷ G 6 4 (3 ∷ 3 ∷ 3 ∷ 0 ∷ []) ∷ Do (Remote 6 0 3) ∷ Do (Local 6 1) ∷ Do Advance ∷ Do (Local 6 3) ∷ Do Advance ∷ Do (Local 6 2) ∷ Do Advance ∷ Do (Local 6 3) ∷ Do Advance ∷ Do (Remote 2 0 1) ∷ Do Sync ∷ Do Sync ∷ B 3 ∷ G 2 3 (3 ∷ 3 ∷ 1 ∷ 1 ∷ []) ∷ Do (Local 6 2) ∷ Do Advance ∷ B 2 ∷ Do (Local 6 1) ∷ Do Advance ∷ Do (Remote 6 0 3) ∷ Do (Local 6 2) ∷ Do Advance ∷ G 3 10 (3 ∷ 3 ∷ []) ∷ Do (Remote 6 1 0) ∷ B 4 ∷ G 2 12 (3 ∷ 0 ∷ []) ∷ Do Sync ∷ Do Sync ∷ Do (Remote 6 0 1) ∷ Do (Local 6 1) ∷ Do Advance ∷ Do (Local 6 0) ∷ Do Advance ∷ B 5 ∷ Do (Local 6 2) ∷ Do Advance ∷ Do Sync ∷ Do Sync ∷ Do (Remote 1 0 1) ∷ Do Sync ∷ Do (Remote 2 1 0) ∷ []) ≡ job 0 3 ∷ gone 3 ∷ added 0 ∷ ok ∷ frame 1 0 1 0 (23 ∷ []) ∷ job 1 5 ∷ added 5 ∷ taken ∷ job 2 5 ∷ job 3 4 ∷ refused 2 ∷ ok ∷ frame 2 0 2 0 (296 ∷ []) ∷ refused 4 ∷ refused 101 ∷ refused 4 ∷ refused 101 ∷ refused 4 ∷ refused 101 ∷ taken ∷ frame 2 0 2 0 (318 ∷ []) ∷ frame 2 2 0 0 (318 ∷ []) ∷ added 0 ∷ job 4 2 ∷ refused 4 ∷ refused 101 ∷ added 0 ∷ refused 4 ∷ refused 101 ∷ refused 2 ∷ refused 4 ∷ refused 101 ∷ refused 9 ∷ refused 2 ∷ added 2 ∷ job 5 8 ∷ frame 2 2 0 0 (318 ∷ []) ∷ frame 2 2 0 0 (318 ∷ []) ∷ refused 2 ∷ refused 4 ∷ refused 101 ∷ refused 4 ∷ refused 101 ∷ added 8 ∷ refused 4 ∷ refused 101 ∷ frame 2 2 0 0 (318 ∷ []) ∷ frame 2 2 0 0 (318 ∷ []) ∷ taken ∷ frame 2 0 2 0 (329 ∷ []) ∷ taken ∷ []
random_13 = refl

random_14 : lines (record { profile = Wide; players = 6; local = 4; delays = 0 ∷ 0 ∷ 1 ∷ 0 ∷ 0 ∷ 0 ∷ []; masks = 2 ∷ 4294967295 ∷ 0 ∷ 2 ∷ 0 ∷ 0 ∷ []; before = none_before; first = none_first; threshold = 6; limit = 1048576; log = 16777216 }) (Do (Remote 1 0 0) ∷ Do (Remote 3 1 3) ∷ Do Sync ∷ Do (Local 3 3) ∷ Do Advance ∷ Do (Local 3 0) ∷ Do Advance ∷ Do (Local 3 3) ∷ Do Advance ∷ Do (Local 3 3) ∷ Do Advance ∷ Do (Local 3 2) ∷ Do Advance ∷ Do (Remote 4 0 0) ∷ G 1 11 (0 ∷ 0 ∷ 3 ∷ []) ∷ B 0 ∷ Do (Remote 2 0 1) ∷ Do Sync ∷ Do (Remote 3 0 1) ∷ Do (Local 3 0) ∷ Do Advance ∷ Do (Local 3 0) ∷ Do Advance ∷ Do (Local 3 2) ∷ Do Advance ∷ Do (Local 3 0) ∷ Do Advance ∷ Do (Remote 6 0 3) ∷ Do (Remote 3 1 1) ∷ Do (Remote 5 0 1) ∷ Do (Remote 2 1 3) ∷ Do (Local 3 1) ∷ Do Advance ∷ Do (Remote 3 0 1) ∷ Do (Local 3 2) ∷ Do Advance ∷ Do (Remote 3 2 3) ∷ Do (Remote 4 1 1) ∷ Do (Remote 2 2 3) ∷ Do Sync ∷ G 1 14 (0 ∷ []) ∷ Do (Local 3 0) ∷ Do Advance ∷ Do (Disconnect 5) ∷ Do (Remote 5 1 1) ∷ Do (Local 3 1) ∷ Do Advance ∷ G 1 13 (3 ∷ 1 ∷ 0 ∷ []) ∷ Do (Local 3 3) ∷ Do Advance ∷ []) ≡ taken ∷ refused 2 ∷ frame 0 0 0 0 (0 ∷ []) ∷ ok ∷ frame 1 0 1 0 (0 ∷ []) ∷ ok ∷ frame 2 1 1 0 (9 ∷ []) ∷ ok ∷ frame 3 2 1 0 (90 ∷ []) ∷ ok ∷ frame 4 3 1 0 (909 ∷ []) ∷ ok ∷ frame 5 4 1 0 (9099 ∷ []) ∷ taken ∷ job 0 8 ∷ added 8 ∷ taken ∷ frame 5 0 5 0 (31321 ∷ []) ∷ refused 2 ∷ ok ∷ frame 6 5 1 0 (313218 ∷ []) ∷ refused 4 ∷ refused 101 ∷ refused 4 ∷ refused 101 ∷ refused 4 ∷ refused 101 ∷ taken ∷ refused 2 ∷ taken ∷ taken ∷ ok ∷ frame 7 0 7 1 (576626 ∷ []) ∷ refused 2 ∷ refused 4 ∷ refused 101 ∷ refused 2 ∷ taken ∷ taken ∷ frame 7 1 6 1 (976626 ∷ []) ∷ job 1 7 ∷ refused 4 ∷ refused 101 ∷ gone 5 ∷ refused 9 ∷ refused 4 ∷ refused 101 ∷ job 2 8 ∷ refused 4 ∷ refused 101 ∷ []
random_14 = refl

random_15 : lines (record { profile = Ggpo; players = 1; local = 1; delays = 0 ∷ []; masks = 4294967295 ∷ []; before = none_before; first = none_first; threshold = 2; limit = 1048576; log = 16777216 }) (G 1 1 (1 ∷ []) ∷ Do (Remote 1 0 1) ∷ Do (Local 1 1) ∷ Do Advance ∷ B 0 ∷ Do (Local 1 3) ∷ Do Advance ∷ G 1 4 (0 ∷ 3 ∷ 1 ∷ 1 ∷ []) ∷ Do (Remote 1 0 1) ∷ Do (Remote 1 1 3) ∷ Do (Remote 1 0 0) ∷ Do (Local 1 1) ∷ Do Advance ∷ Do Sync ∷ G 1 4 (0 ∷ 0 ∷ 0 ∷ 1 ∷ []) ∷ Do (Local 1 2) ∷ Do Advance ∷ G 1 7 (0 ∷ 3 ∷ []) ∷ B 1 ∷ Do (Remote 1 0 1) ∷ Do (Local 1 3) ∷ Do Advance ∷ Do (Remote 1 0 1) ∷ G 1 9 (0 ∷ 3 ∷ []) ∷ Do (Remote 1 0 1) ∷ B 3 ∷ G 1 3 (1 ∷ []) ∷ B 2 ∷ B 4 ∷ Do (Local 1 2) ∷ Do Advance ∷ Do Sync ∷ Do (Remote 1 0 0) ∷ Do Sync ∷ Do (Remote 1 1 3) ∷ Do (Local 1 0) ∷ Do Advance ∷ Do Sync ∷ Do (Local 1 2) ∷ Do Advance ∷ Do (Remote 1 0 3) ∷ Do (Remote 1 0 3) ∷ G 1 11 (3 ∷ []) ∷ B 5 ∷ Do Sync ∷ []) ≡ job 0 1 ∷ refused 2 ∷ ok ∷ frame 1 0 1 1 (1 ∷ []) ∷ refused 110 ∷ ok ∷ frame 2 1 1 2 (13 ∷ []) ∷ job 1 2 ∷ refused 2 ∷ refused 2 ∷ refused 2 ∷ ok ∷ frame 3 2 1 3 (131 ∷ []) ∷ frame 3 3 0 3 (131 ∷ []) ∷ job 2 1 ∷ ok ∷ frame 4 3 1 4 (1312 ∷ []) ∷ job 3 3 ∷ refused 110 ∷ refused 2 ∷ ok ∷ frame 5 4 1 5 (13123 ∷ []) ∷ refused 2 ∷ job 4 4 ∷ refused 2 ∷ refused 112 ∷ refused 11 ∷ refused 110 ∷ added 4 ∷ ok ∷ frame 6 5 1 6 (131232 ∷ []) ∷ frame 6 6 0 6 (131232 ∷ []) ∷ refused 2 ∷ frame 6 6 0 6 (131232 ∷ []) ∷ refused 2 ∷ ok ∷ frame 7 6 1 7 (312320 ∷ []) ∷ frame 7 7 0 7 (312320 ∷ []) ∷ ok ∷ frame 8 7 1 8 (123202 ∷ []) ∷ refused 2 ∷ refused 2 ∷ job 5 3 ∷ added 3 ∷ frame 8 8 0 8 (123202 ∷ []) ∷ []
random_15 = refl

random_16 : lines (record { profile = Wide; players = 4; local = 9; delays = 0 ∷ 0 ∷ 0 ∷ 2 ∷ []; masks = 2 ∷ 1 ∷ 1 ∷ 4294967295 ∷ []; before = none_before; first = none_first; threshold = 4; limit = 1048576; log = 16777216 }) (Do (Local 1 3) ∷ Do (Local 4 1) ∷ Do Advance ∷ Do Sync ∷ Do (Local 1 1) ∷ Do (Local 4 3) ∷ Do Advance ∷ Do (Local 1 1) ∷ Do (Local 4 0) ∷ Do Advance ∷ Do (Remote 3 0 1) ∷ Do (Remote 4 2 1) ∷ Do (Remote 2 0 1) ∷ Do Sync ∷ Do (Local 1 0) ∷ Do (Local 4 0) ∷ Do Advance ∷ Do (Remote 2 1 0) ∷ Do (Remote 3 1 1) ∷ Do (Local 1 2) ∷ Do (Local 4 0) ∷ Do Advance ∷ Do (Remote 4 2 1) ∷ G 1 9 (1 ∷ []) ∷ G 2 5 (1 ∷ 0 ∷ 3 ∷ 0 ∷ []) ∷ G 4 11 (1 ∷ 3 ∷ 3 ∷ []) ∷ B 1 ∷ G 1 5 (0 ∷ 3 ∷ 0 ∷ []) ∷ Do (Remote 2 2 1) ∷ Do Sync ∷ B 0 ∷ Do (Local 1 0) ∷ Do (Local 4 2) ∷ Do Advance ∷ Do (Local 1 3) ∷ Do (Local 4 1) ∷ Do Advance ∷ Do (Local 1 0) ∷ Do (Local 4 1) ∷ Do Advance ∷ Do (Remote 1 0 3) ∷ Do (Local 1 2) ∷ Do (Local 4 2) ∷ Do Advance ∷ Do (Local 1 2) ∷ Do (Local 4 2) ∷ Do Advance ∷ Do (Remote 1 0 0) ∷ G 4 11 (0 ∷ 0 ∷ 0 ∷ 1 ∷ []) ∷ Do Sync ∷ Do (Local 1 2) ∷ Do (Local 4 2) ∷ Do Advance ∷ Do (Local 1 2) ∷ Do (Local 4 1) ∷ Do Advance ∷ Do (Local 1 1) ∷ Do (Local 4 2) ∷ Do Advance ∷ Do (Remote 2 3 0) ∷ Do (Remote 4 2 1) ∷ Do (Local 1 2) ∷ Do (Local 4 0) ∷ Do Advance ∷ Do (Remote 3 2 0) ∷ G 3 18 (3 ∷ 3 ∷ []) ∷ Do (Remote 4 1 0) ∷ []) ≡ ok ∷ ok ∷ frame 1 0 1 0 (3 ∷ []) ∷ frame 1 1 0 0 (3 ∷ []) ∷ ok ∷ ok ∷ frame 2 1 1 0 (31 ∷ []) ∷ ok ∷ ok ∷ frame 3 2 1 0 (315 ∷ []) ∷ taken ∷ refused 2 ∷ taken ∷ frame 3 0 3 1 (870 ∷ []) ∷ ok ∷ ok ∷ frame 4 3 1 1 (8717 ∷ []) ∷ taken ∷ taken ∷ ok ∷ ok ∷ frame 5 1 4 2 (84955 ∷ []) ∷ refused 2 ∷ job 0 4 ∷ job 1 3 ∷ job 2 6 ∷ added 3 ∷ kept ∷ taken ∷ frame 5 3 2 2 (85177 ∷ []) ∷ refused 112 ∷ ok ∷ ok ∷ frame 6 5 1 2 (851775 ∷ []) ∷ refused 4 ∷ refused 4 ∷ refused 101 ∷ refused 4 ∷ refused 4 ∷ refused 101 ∷ refused 2 ∷ refused 4 ∷ refused 4 ∷ refused 101 ∷ refused 4 ∷ refused 4 ∷ refused 101 ∷ refused 2 ∷ job 3 5 ∷ frame 6 6 0 2 (851775 ∷ []) ∷ refused 4 ∷ refused 4 ∷ refused 101 ∷ refused 4 ∷ refused 4 ∷ refused 101 ∷ refused 4 ∷ refused 4 ∷ refused 101 ∷ taken ∷ refused 2 ∷ refused 4 ∷ refused 4 ∷ refused 101 ∷ taken ∷ job 4 8 ∷ refused 2 ∷ []
random_16 = refl

random_17 : lines (record { profile = Ggpo; players = 3; local = 3; delays = 1 ∷ 0 ∷ 0 ∷ []; masks = 4294967295 ∷ 1 ∷ 0 ∷ []; before = none_before; first = none_first; threshold = 6; limit = 1048576; log = 16777216 }) (G 2 2 (3 ∷ 3 ∷ 3 ∷ []) ∷ Do (Remote 3 0 0) ∷ G 1 1 (1 ∷ 3 ∷ []) ∷ Do (Local 1 0) ∷ Do (Local 2 3) ∷ Do Advance ∷ Do (Remote 3 1 3) ∷ Do (Disconnect 1) ∷ G 2 5 (1 ∷ []) ∷ Do (Remote 1 2 1) ∷ Do (Local 1 2) ∷ Do (Local 2 3) ∷ Do Advance ∷ Do Sync ∷ Do (Local 1 2) ∷ Do (Local 2 1) ∷ Do Advance ∷ Do (Local 1 1) ∷ Do (Local 2 1) ∷ Do Advance ∷ Do (Remote 2 0 1) ∷ Do (Local 1 3) ∷ Do (Local 2 1) ∷ Do Advance ∷ G 3 10 (1 ∷ 3 ∷ []) ∷ Do (Remote 2 0 0) ∷ Do (Remote 3 1 1) ∷ Do (Remote 1 1 0) ∷ Do (Remote 2 0 3) ∷ Do (Local 1 1) ∷ Do (Local 2 3) ∷ Do Advance ∷ Do (Local 1 2) ∷ Do (Local 2 0) ∷ Do Advance ∷ Do Sync ∷ Do (Remote 1 1 1) ∷ G 3 10 (0 ∷ 1 ∷ []) ∷ B 4 ∷ G 1 4 (1 ∷ 1 ∷ 0 ∷ []) ∷ Do (Local 1 2) ∷ Do (Local 2 0) ∷ Do Advance ∷ G 2 9 (1 ∷ 0 ∷ 3 ∷ 0 ∷ []) ∷ Do (Remote 1 1 3) ∷ B 0 ∷ Do Sync ∷ G 1 12 (1 ∷ 0 ∷ 3 ∷ 1 ∷ []) ∷ Do (Remote 2 0 1) ∷ G 1 12 (0 ∷ 1 ∷ 3 ∷ []) ∷ Do (Local 1 2) ∷ Do (Local 2 0) ∷ Do Advance ∷ B 6 ∷ Do (Remote 3 2 3) ∷ Do (Local 1 3) ∷ Do (Local 2 3) ∷ Do Advance ∷ Do (Local 1 1) ∷ Do (Local 2 3) ∷ Do Advance ∷ Do (Remote 2 0 0) ∷ []) ≡ job 0 2 ∷ taken ∷ job 1 1 ∷ ok ∷ ok ∷ frame 1 0 1 1 (6 ∷ []) ∷ taken ∷ refused 2 ∷ job 2 4 ∷ refused 2 ∷ ok ∷ ok ∷ frame 2 1 1 2 (75 ∷ []) ∷ frame 2 2 0 2 (75 ∷ []) ∷ ok ∷ ok ∷ frame 3 2 1 2 (754 ∷ []) ∷ ok ∷ ok ∷ frame 4 3 1 2 (7544 ∷ []) ∷ refused 2 ∷ ok ∷ ok ∷ frame 5 4 1 2 (75443 ∷ []) ∷ job 3 8 ∷ refused 2 ∷ refused 104 ∷ refused 2 ∷ refused 2 ∷ ok ∷ ok ∷ frame 6 5 1 2 (754439 ∷ []) ∷ ok ∷ ok ∷ frame 7 6 1 2 (544391 ∷ []) ∷ frame 7 7 0 2 (544391 ∷ []) ∷ refused 2 ∷ job 4 7 ∷ added 7 ∷ kept ∷ ok ∷ ok ∷ frame 8 7 1 2 (443912 ∷ []) ∷ job 5 1 ∷ refused 2 ∷ refused 110 ∷ frame 8 8 0 2 (443912 ∷ []) ∷ job 6 4 ∷ refused 2 ∷ job 7 4 ∷ refused 4 ∷ refused 4 ∷ refused 101 ∷ added 4 ∷ taken ∷ ok ∷ ok ∷ frame 9 2 7 3 (439128 ∷ []) ∷ refused 4 ∷ refused 4 ∷ refused 101 ∷ refused 2 ∷ []
random_17 = refl

random_18 : lines (record { profile = Wide; players = 6; local = 6; delays = 0 ∷ 2 ∷ 2 ∷ 0 ∷ 0 ∷ 0 ∷ []; masks = 1 ∷ 0 ∷ 2 ∷ 0 ∷ 2 ∷ 1 ∷ []; before = none_before; first = none_first; threshold = 2; limit = 1048576; log = 16777216 }) (Do (Local 2 0) ∷ Do (Local 3 3) ∷ Do Advance ∷ Do (Remote 2 2 0) ∷ Do (Local 2 3) ∷ Do (Local 3 1) ∷ Do Advance ∷ G 4 3 (1 ∷ 0 ∷ 1 ∷ []) ∷ Do (Disconnect 2) ∷ G 4 8 (3 ∷ 3 ∷ 3 ∷ []) ∷ Do (Local 2 3) ∷ Do (Local 3 3) ∷ Do Advance ∷ Do Sync ∷ Do (Local 2 1) ∷ Do (Local 3 2) ∷ Do Advance ∷ G 6 3 (0 ∷ 3 ∷ []) ∷ G 4 3 (3 ∷ 1 ∷ 3 ∷ 0 ∷ []) ∷ B 2 ∷ Do (Local 2 3) ∷ Do (Local 3 3) ∷ Do Advance ∷ G 6 10 (0 ∷ 1 ∷ 0 ∷ 1 ∷ []) ∷ Do (Local 2 0) ∷ Do (Local 3 1) ∷ Do Advance ∷ Do Sync ∷ Do (Remote 2 3 1) ∷ G 5 11 (0 ∷ []) ∷ G 1 10 (1 ∷ 0 ∷ 1 ∷ 1 ∷ []) ∷ Do (Local 2 2) ∷ Do (Local 3 3) ∷ Do Advance ∷ Do (Local 2 3) ∷ Do (Local 3 3) ∷ Do Advance ∷ B 4 ∷ Do (Remote 6 0 0) ∷ B 3 ∷ Do (Remote 2 1 3) ∷ G 4 5 (3 ∷ 0 ∷ 0 ∷ 3 ∷ []) ∷ G 4 11 (3 ∷ 3 ∷ 1 ∷ 1 ∷ []) ∷ B 0 ∷ B 5 ∷ G 2 7 (1 ∷ 3 ∷ []) ∷ Do Sync ∷ Do (Remote 1 0 3) ∷ G 5 7 (1 ∷ 0 ∷ []) ∷ Do (Local 2 1) ∷ Do (Local 3 1) ∷ Do Advance ∷ B 7 ∷ Do (Local 2 3) ∷ Do (Local 3 0) ∷ Do Advance ∷ Do (Remote 1 0 1) ∷ B 6 ∷ G 4 13 (3 ∷ 3 ∷ 3 ∷ 0 ∷ []) ∷ Do (Local 2 2) ∷ Do (Local 3 0) ∷ Do Advance ∷ []) ≡ ok ∷ ok ∷ frame 1 0 1 0 (0 ∷ []) ∷ refused 2 ∷ ok ∷ ok ∷ frame 2 1 1 0 (0 ∷ []) ∷ job 0 3 ∷ refused 2 ∷ job 1 8 ∷ refused 4 ∷ refused 4 ∷ refused 101 ∷ frame 2 2 0 0 (0 ∷ []) ∷ refused 4 ∷ refused 4 ∷ refused 101 ∷ job 2 2 ∷ job 3 3 ∷ added 2 ∷ refused 4 ∷ refused 4 ∷ refused 101 ∷ job 4 8 ∷ refused 4 ∷ refused 4 ∷ refused 101 ∷ frame 2 2 0 0 (0 ∷ []) ∷ refused 2 ∷ job 5 8 ∷ job 6 8 ∷ refused 4 ∷ refused 4 ∷ refused 101 ∷ refused 4 ∷ refused 4 ∷ refused 101 ∷ added 8 ∷ taken ∷ added 3 ∷ refused 2 ∷ job 7 4 ∷ job 8 8 ∷ added 3 ∷ added 8 ∷ job 9 3 ∷ frame 2 2 0 0 (0 ∷ []) ∷ taken ∷ job 10 7 ∷ refused 4 ∷ refused 4 ∷ refused 101 ∷ refused 112 ∷ refused 4 ∷ refused 4 ∷ refused 101 ∷ refused 104 ∷ added 0 ∷ job 11 8 ∷ refused 4 ∷ refused 4 ∷ refused 101 ∷ []
random_18 = refl

random_19 : lines (record { profile = Ggpo; players = 1; local = 1; delays = 1 ∷ []; masks = 3 ∷ []; before = none_before; first = none_first; threshold = 3; limit = 1048576; log = 16777216 }) (Do (Local 1 3) ∷ Do Advance ∷ Do (Local 1 2) ∷ Do Advance ∷ Do (Remote 1 1 1) ∷ Do (Local 1 1) ∷ Do Advance ∷ Do (Local 1 2) ∷ Do Advance ∷ Do (Remote 1 1 1) ∷ Do (Local 1 2) ∷ Do Advance ∷ G 1 9 (3 ∷ 3 ∷ 0 ∷ []) ∷ G 1 5 (0 ∷ []) ∷ Do (Remote 1 1 3) ∷ Do (Remote 1 1 1) ∷ B 0 ∷ Do Sync ∷ Do (Remote 1 1 1) ∷ Do (Local 1 0) ∷ Do Advance ∷ Do (Remote 1 1 3) ∷ G 1 5 (1 ∷ 1 ∷ 1 ∷ 1 ∷ []) ∷ G 1 10 (1 ∷ 3 ∷ 0 ∷ []) ∷ Do (Local 1 3) ∷ Do Advance ∷ G 1 5 (0 ∷ 1 ∷ 3 ∷ 1 ∷ []) ∷ G 1 6 (3 ∷ 1 ∷ 0 ∷ 0 ∷ []) ∷ Do (Local 1 2) ∷ Do Advance ∷ Do (Local 1 2) ∷ Do Advance ∷ B 1 ∷ Do (Local 1 2) ∷ Do Advance ∷ G 1 13 (0 ∷ 1 ∷ []) ∷ Do Sync ∷ Do (Local 1 0) ∷ Do Advance ∷ Do Sync ∷ Do Sync ∷ B 2 ∷ Do (Local 1 3) ∷ Do Advance ∷ Do (Local 1 3) ∷ Do Advance ∷ []) ≡ ok ∷ frame 1 0 1 1 (0 ∷ []) ∷ ok ∷ frame 2 1 1 2 (3 ∷ []) ∷ refused 2 ∷ ok ∷ frame 3 2 1 3 (32 ∷ []) ∷ ok ∷ frame 4 3 1 4 (321 ∷ []) ∷ refused 2 ∷ ok ∷ frame 5 4 1 5 (3212 ∷ []) ∷ job 0 4 ∷ refused 11 ∷ refused 2 ∷ refused 2 ∷ added 4 ∷ frame 5 5 0 5 (3212 ∷ []) ∷ refused 2 ∷ ok ∷ frame 6 6 0 6 (32122 ∷ []) ∷ refused 2 ∷ refused 11 ∷ job 1 4 ∷ ok ∷ frame 7 6 1 7 (321220 ∷ []) ∷ refused 11 ∷ refused 11 ∷ ok ∷ frame 8 7 1 8 (212203 ∷ []) ∷ ok ∷ frame 9 8 1 9 (122032 ∷ []) ∷ refused 112 ∷ ok ∷ frame 10 9 1 10 (220322 ∷ []) ∷ job 2 3 ∷ frame 10 10 0 10 (220322 ∷ []) ∷ ok ∷ frame 11 10 1 11 (203222 ∷ []) ∷ frame 11 11 0 11 (203222 ∷ []) ∷ frame 11 11 0 11 (203222 ∷ []) ∷ added 2 ∷ ok ∷ frame 12 12 0 12 (32220 ∷ []) ∷ ok ∷ frame 13 12 1 13 (322203 ∷ []) ∷ []
random_19 = refl

random_20 : lines (record { profile = Ggpo; players = 2; local = 3; delays = 0 ∷ 0 ∷ []; masks = 0 ∷ 0 ∷ []; before = none_before; first = none_first; threshold = 5; limit = 1048576; log = 16777216 }) (Do (Disconnect 1) ∷ Do (Local 1 2) ∷ Do (Local 2 2) ∷ Do Advance ∷ Do (Remote 1 0 3) ∷ Do (Remote 2 0 3) ∷ Do (Remote 2 0 0) ∷ Do (Local 1 1) ∷ Do (Local 2 0) ∷ Do Advance ∷ Do (Local 1 0) ∷ Do (Local 2 1) ∷ Do Advance ∷ Do (Local 1 3) ∷ Do (Local 2 3) ∷ Do Advance ∷ G 1 10 (0 ∷ []) ∷ Do (Local 1 1) ∷ Do (Local 2 1) ∷ Do Advance ∷ Do Sync ∷ Do (Local 1 3) ∷ Do (Local 2 3) ∷ Do Advance ∷ Do (Local 1 3) ∷ Do (Local 2 2) ∷ Do Advance ∷ B 0 ∷ Do (Local 1 2) ∷ Do (Local 2 1) ∷ Do Advance ∷ Do (Local 1 0) ∷ Do (Local 2 1) ∷ Do Advance ∷ Do (Disconnect 2) ∷ Do (Remote 1 0 0) ∷ Do (Remote 2 0 0) ∷ Do (Local 1 3) ∷ Do (Local 2 0) ∷ Do Advance ∷ G 2 13 (3 ∷ 3 ∷ 0 ∷ 3 ∷ []) ∷ Do (Local 1 2) ∷ Do (Local 2 3) ∷ Do Advance ∷ Do (Local 1 0) ∷ Do (Local 2 0) ∷ Do Advance ∷ Do (Remote 1 1 1) ∷ G 1 12 (3 ∷ 3 ∷ []) ∷ G 1 9 (1 ∷ 0 ∷ []) ∷ Do (Remote 1 0 0) ∷ Do (Local 1 1) ∷ Do (Local 2 1) ∷ Do Advance ∷ Do (Local 1 1) ∷ Do (Local 2 2) ∷ Do Advance ∷ B 1 ∷ Do Sync ∷ Do (Remote 1 0 0) ∷ G 2 17 (1 ∷ []) ∷ Do (Local 1 3) ∷ Do (Local 2 1) ∷ Do Advance ∷ G 1 12 (0 ∷ 1 ∷ 1 ∷ []) ∷ G 2 18 (0 ∷ 0 ∷ 3 ∷ 1 ∷ []) ∷ Do (Local 1 0) ∷ Do (Local 2 0) ∷ Do Advance ∷ []) ≡ refused 2 ∷ ok ∷ ok ∷ frame 1 0 1 1 (6 ∷ []) ∷ refused 2 ∷ refused 2 ∷ refused 2 ∷ ok ∷ ok ∷ frame 2 1 1 2 (61 ∷ []) ∷ ok ∷ ok ∷ frame 3 2 1 3 (612 ∷ []) ∷ ok ∷ ok ∷ frame 4 3 1 4 (6129 ∷ []) ∷ job 0 6 ∷ ok ∷ ok ∷ frame 5 4 1 5 (61293 ∷ []) ∷ frame 5 5 0 5 (61293 ∷ []) ∷ ok ∷ ok ∷ frame 6 5 1 6 (612939 ∷ []) ∷ ok ∷ ok ∷ frame 7 6 1 7 (129397 ∷ []) ∷ refused 112 ∷ ok ∷ ok ∷ frame 8 7 1 8 (293974 ∷ []) ∷ ok ∷ ok ∷ frame 9 8 1 9 (939742 ∷ []) ∷ refused 2 ∷ refused 2 ∷ refused 2 ∷ ok ∷ ok ∷ frame 10 9 1 10 (397423 ∷ []) ∷ job 1 3 ∷ ok ∷ ok ∷ frame 11 10 1 11 (974238 ∷ []) ∷ ok ∷ ok ∷ frame 12 11 1 12 (742380 ∷ []) ∷ refused 2 ∷ refused 11 ∷ refused 11 ∷ refused 2 ∷ ok ∷ ok ∷ frame 13 12 1 13 (423803 ∷ []) ∷ ok ∷ ok ∷ frame 14 13 1 14 (238035 ∷ []) ∷ refused 110 ∷ frame 14 14 0 14 (238035 ∷ []) ∷ refused 2 ∷ job 2 3 ∷ ok ∷ ok ∷ frame 15 14 1 15 (380355 ∷ []) ∷ refused 11 ∷ job 3 3 ∷ ok ∷ ok ∷ frame 16 15 1 16 (803550 ∷ []) ∷ []
random_20 = refl
