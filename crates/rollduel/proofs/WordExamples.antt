-- What words ask for, by computation.
use Rattle.std.proofs.Common.{ap, inl, inr}
use Rattle.std.specs.Prelude.{◌≡◌, None, Some, [], ◌∷◌, codes, refl, true, false}
use Rattle.clap.proofs.OnLiterals.{clap_on_literals}
use Rattle.clap.specs.Faults.{fault_of}
use Rattle.prog_command_line.specs.Commands.{rollduel_app}
use Rattle.prog_command_line.specs.declared.picture.OptionFault.TheVariants.{ManyFrames, NoFrames, NoPicture}
use Rattle.prog_scripts.specs.declared.ending.Ending.{Ending}
use Rattle.prog_scripts.specs.declared.ending.GameName.TheVariants.{Tally, Duel}
use Rattle.prog_scripts.specs.declared.task.Task.TheVariants.{Play, SyncTest, Certify}
use Rattle.rollduel.specs.Endings.{EndsRefused}
use Rattle.rollduel.specs.Requests.{asked_by, live, on_text, picture_by, refused}

pub no_command : asked_by (codes "rollduel" ∷ []) ≡ on_text None (Play Tally) false
unfolding clap_on_literals
no_command = refl

pub plays_a_file : asked_by (codes "rollduel" ∷ codes "play" ∷ codes "a.roll" ∷ []) ≡ on_text (Some (codes "a.roll")) (Play Tally) false
unfolding clap_on_literals
plays_a_file = refl

pub plays_a_duel : asked_by (codes "rollduel" ∷ codes "play" ∷ codes "-" ∷ codes "--game" ∷ codes "duel" ∷ []) ≡ on_text None (Play Duel) false
unfolding clap_on_literals
plays_a_duel = refl

pub game_in_front : asked_by (codes "rollduel" ∷ codes "play" ∷ codes "--game=duel" ∷ codes "a.roll" ∷ []) ≡ on_text (Some (codes "a.roll")) (Play Duel) false
unfolding clap_on_literals
game_in_front = refl

pub explains : asked_by (codes "rollduel" ∷ codes "play" ∷ codes "a.roll" ∷ codes "--explain" ∷ []) ≡ on_text (Some (codes "a.roll")) (Play Tally) true
unfolding clap_on_literals
explains = refl

pub certifies : asked_by (codes "rollduel" ∷ codes "certify" ∷ codes "a.claim" ∷ []) ≡ on_text (Some (codes "a.claim")) Certify false
unfolding clap_on_literals
certifies = refl

pub tests_a_file : asked_by (codes "rollduel" ∷ codes "synctest" ∷ codes "a.rows" ∷ []) ≡ on_text (Some (codes "a.rows")) (SyncTest Tally 1) false
unfolding clap_on_literals
tests_a_file = refl

pub tests_eight_frames : asked_by (codes "rollduel" ∷ codes "synctest" ∷ codes "-" ∷ codes "--frames" ∷ codes "8" ∷ codes "--game=duel" ∷ []) ≡ on_text None (SyncTest Duel 8) false
unfolding clap_on_literals
tests_eight_frames = refl

pub plays_live : asked_by (codes "rollduel" ∷ codes "live" ∷ codes "a.roll" ∷ []) ≡ live (Some (codes "a.roll")) (record { game = Tally; workers = 1 })
unfolding clap_on_literals
plays_live = refl

pub plays_live_with_workers : asked_by (codes "rollduel" ∷ codes "live" ∷ codes "--workers" ∷ codes "4" ∷ codes "-" ∷ codes "--game=duel" ∷ []) ≡ live None (record { game = Duel; workers = 4 })
unfolding clap_on_literals
plays_live_with_workers = refl

pub draws_a_file : picture_by (codes "rollduel" ∷ codes "play" ∷ codes "a.roll" ∷ codes "--picture" ∷ codes "b.svg" ∷ []) ≡ Some (
  codes "b.svg",
  record {
    from = 0;
    to = 600;
    tree = None;
  },
)
unfolding clap_on_literals
draws_a_file = refl

pub draws_what_it_plays : asked_by (codes "rollduel" ∷ codes "play" ∷ codes "a.roll" ∷ codes "--picture" ∷ codes "b.svg" ∷ []) ≡ on_text (Some (codes "a.roll")) (Play Tally) false
unfolding clap_on_literals
draws_what_it_plays = refl

pub draws_nothing : picture_by (codes "rollduel" ∷ codes "play" ∷ codes "a.roll" ∷ []) ≡ None
unfolding clap_on_literals
draws_nothing = refl

pub draws_a_window : picture_by (codes "rollduel" ∷ codes "play" ∷ codes "a.roll" ∷ codes "--picture=b.svg" ∷ codes "--from" ∷ codes "5" ∷ codes "--to=65" ∷ codes "--tree" ∷ codes "9" ∷ []) ≡ Some (
  codes "b.svg",
  record {
    from = 5;
    to = 65;
    tree = Some 9;
  },
)
unfolding clap_on_literals
draws_a_window = refl

pub draws_no_frame : asked_by (codes "rollduel" ∷ codes "play" ∷ codes "a.roll" ∷ codes "--picture" ∷ codes "b.svg" ∷ codes "--from" ∷ codes "5" ∷ codes "--to" ∷ codes "5" ∷ []) ≡ refused NoFrames
unfolding clap_on_literals
draws_no_frame = refl

pub draws_a_part_of_nothing : asked_by (codes "rollduel" ∷ codes "play" ∷ codes "a.roll" ∷ codes "--tree=9" ∷ []) ≡ refused NoPicture
unfolding clap_on_literals
draws_a_part_of_nothing = refl

pub draws_too_much : asked_by (codes "rollduel" ∷ codes "play" ∷ codes "a.roll" ∷ codes "--picture=b.svg" ∷ codes "--to=601" ∷ []) ≡ refused (ManyFrames 0 601)
unfolding clap_on_literals
draws_too_much = refl

-- without a file the program ends with status 2
pub no_file_status : (ending : Ending) → EndsRefused (fault_of rollduel_app (codes "rollduel" ∷ codes "play" ∷ [])) ending → ending.status ≡ 2
unfolding clap_on_literals
no_file_status ending (inl memory) = ap (λ (e : Ending). e.status) memory
no_file_status ending (inr (inl (inl told))) = ap (λ (e : Ending). e.status) told
no_file_status ending (inr (inl (inr unwritten))) = ap (λ (e : Ending). e.status) unwritten
no_file_status ending (inr (inr none)) = absurd none
