-- What is in a picture.
use Rattle.std.specs.Prelude.{◌≡◌, ◌++◌, ℕ, List}
use Rattle.std.specs.List.{flat_map}
use Rattle.prog_picture.specs.Bars.{LacksBars}
use Rattle.prog_picture.specs.Rolls.{roll_marks, roll_text}
use Rattle.prog_picture.specs.Views.{view_of}
use Rattle.prog_picture.specs.declared.scene.Scene.{Scene}

-- the elements of the rollbacks that are shown, each once and in their order, stand one after another, and what stands before
-- and after them draws no rollback
pub record HasRolls (scene : Scene) (picture : List ℕ) : Type 0 where
  pub before : List ℕ
  pub after : List ℕ
  pub whole : picture ≡ before ++ (flat_map roll_text (roll_marks (view_of scene) scene.rolls.items) ++ after)
  pub none_before : LacksBars before
  pub none_after : LacksBars after
