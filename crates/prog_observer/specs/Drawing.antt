-- What is drawn of a session that was watched.
use Rattle.std.specs.Prelude.{◌≡◌, ℕ, List, map, min, option_map}
use Rattle.prog_picture.specs.Pictures.{HasRolls}
use Rattle.prog_picture.specs.declared.scene.Scene.{Scene}
use Rattle.roll_session.specs.Seen.{Seen}
use Rattle.prog_observer.specs.Hearing.{lane_in, lane_shown}
use Rattle.prog_observer.specs.Observing.{Observed, tree_of}

-- a picture shows what was seen of a session, as it is at the end: its rolls are the rollbacks that were seen
pub record IsDrawn (s : Seen) (seen : Observed) (picture : List ℕ) : Type 0 where
  pub scene : Scene
  pub from : scene.from ≡ seen.window.from
  pub to : scene.to ≡ min seen.window.to seen.frame
  pub lanes : map lane_shown scene.lanes.items ≡ map (lane_in s seen.firsts) seen.heard
  pub rolls : scene.rolls.items ≡ seen.rolls
  pub tree : scene.tree ≡ option_map tree_of seen.sample
  pub drawn : HasRolls scene picture
