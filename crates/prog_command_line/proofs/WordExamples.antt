-- Which words are taken, and why others aren't, by computation.
use Rattle.std.specs.Prelude.{◌≡◌, [], ◌∷◌, codes, refl, true, false}
use Rattle.clap.proofs.OnLiterals.{clap_on_literals}
use Rattle.clap.specs.Faults.{fault_of, is_simple_and_free}
use Rattle.clap.specs.Simple.{is_simple}
use Rattle.clap.specs.Takes.{takes}
use Rattle.clap.specs.declared.error.kind.ErrorKind.TheVariants.{DisplayHelp, DisplayVersion, InvalidSubcommand, InvalidValue, MissingRequiredArgument, UnknownArgument, ValueValidation}
use Rattle.prog_command_line.specs.Commands.{Choices, app_with, rollduel_app}

pub simple : (games : Choices) → is_simple (app_with games) ≡ true
simple games = refl

pub free : (games : Choices) → is_simple_and_free (app_with games) ≡ true
free games = refl

pub takes_nothing : takes rollduel_app (codes "rollduel" ∷ []) ≡ true
unfolding clap_on_literals
takes_nothing = refl

pub takes_a_file : takes rollduel_app (codes "rollduel" ∷ codes "play" ∷ codes "a.roll" ∷ []) ≡ true
unfolding clap_on_literals
takes_a_file = refl

pub takes_a_duel : takes rollduel_app (codes "rollduel" ∷ codes "play" ∷ codes "-" ∷ codes "--game" ∷ codes "duel" ∷ []) ≡ true
unfolding clap_on_literals
takes_a_duel = refl

pub takes_the_game_in_front : takes rollduel_app (codes "rollduel" ∷ codes "play" ∷ codes "--game=duel" ∷ codes "a.roll" ∷ []) ≡ true
unfolding clap_on_literals
takes_the_game_in_front = refl

pub takes_a_claim : takes rollduel_app (codes "rollduel" ∷ codes "certify" ∷ codes "a.claim" ∷ []) ≡ true
unfolding clap_on_literals
takes_a_claim = refl

pub takes_eight_frames : takes rollduel_app (codes "rollduel" ∷ codes "synctest" ∷ codes "-" ∷ codes "--frames" ∷ codes "8" ∷ codes "--game=duel" ∷ []) ≡ true
unfolding clap_on_literals
takes_eight_frames = refl

pub takes_a_picture : takes rollduel_app (codes "rollduel" ∷ codes "play" ∷ codes "a.roll" ∷ codes "--picture" ∷ codes "b.svg" ∷ codes "--to=4294967295" ∷ []) ≡ true
unfolding clap_on_literals
takes_a_picture = refl

pub no_file : takes rollduel_app (codes "rollduel" ∷ codes "play" ∷ []) ≡ false
unfolding clap_on_literals
no_file = refl

pub no_file_fault : fault_of rollduel_app (codes "rollduel" ∷ codes "play" ∷ []) ≡ MissingRequiredArgument ∷ []
unfolding clap_on_literals
no_file_fault = refl

pub no_game : takes rollduel_app (codes "rollduel" ∷ codes "play" ∷ codes "a" ∷ codes "--game" ∷ codes "chess" ∷ []) ≡ false
unfolding clap_on_literals
no_game = refl

pub no_game_fault : fault_of rollduel_app (codes "rollduel" ∷ codes "play" ∷ codes "a" ∷ codes "--game" ∷ codes "chess" ∷ []) ≡ InvalidValue ∷ []
unfolding clap_on_literals
no_game_fault = refl

pub no_frames_fault : fault_of rollduel_app (codes "rollduel" ∷ codes "synctest" ∷ codes "a" ∷ codes "--frames" ∷ codes "0" ∷ []) ≡ ValueValidation ∷ []
unfolding clap_on_literals
no_frames_fault = refl

pub nine_frames_fault : fault_of rollduel_app (codes "rollduel" ∷ codes "synctest" ∷ codes "a" ∷ codes "--frames=9" ∷ []) ≡ ValueValidation ∷ []
unfolding clap_on_literals
nine_frames_fault = refl

pub five_workers_fault : fault_of rollduel_app (codes "rollduel" ∷ codes "live" ∷ codes "a" ∷ codes "--workers" ∷ codes "5" ∷ []) ≡ ValueValidation ∷ []
unfolding clap_on_literals
five_workers_fault = refl

pub unexplained_fault : fault_of rollduel_app (codes "rollduel" ∷ codes "live" ∷ codes "a" ∷ codes "--explain" ∷ []) ≡ UnknownArgument ∷ []
unfolding clap_on_literals
unexplained_fault = refl

pub undrawn_fault : fault_of rollduel_app (codes "rollduel" ∷ codes "live" ∷ codes "a" ∷ codes "--picture" ∷ codes "b.svg" ∷ []) ≡ UnknownArgument ∷ []
unfolding clap_on_literals
undrawn_fault = refl

pub no_frame_fault : fault_of rollduel_app (codes "rollduel" ∷ codes "play" ∷ codes "a" ∷ codes "--picture" ∷ codes "b.svg" ∷ codes "--from=4294967296" ∷ []) ≡ ValueValidation ∷ []
unfolding clap_on_literals
no_frame_fault = refl

pub stray_option_fault : fault_of rollduel_app (codes "rollduel" ∷ codes "certify" ∷ codes "a.claim" ∷ codes "--game" ∷ codes "duel" ∷ []) ≡ UnknownArgument ∷ []
unfolding clap_on_literals
stray_option_fault = refl

pub stray_word_fault : fault_of rollduel_app (codes "rollduel" ∷ codes "a.roll" ∷ []) ≡ UnknownArgument ∷ InvalidSubcommand ∷ []
unfolding clap_on_literals
stray_word_fault = refl

pub help_is_asked_for : fault_of rollduel_app (codes "rollduel" ∷ codes "play" ∷ codes "--help" ∷ []) ≡ DisplayHelp ∷ []
unfolding clap_on_literals
help_is_asked_for = refl

pub version_is_asked_for : fault_of rollduel_app (codes "rollduel" ∷ codes "--version" ∷ []) ≡ DisplayVersion ∷ []
unfolding clap_on_literals
version_is_asked_for = refl
