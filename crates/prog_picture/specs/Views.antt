-- Where frames lie in a picture.
use Rattle.std.specs.Prelude.{◌≤◌, ◌+◌, ◌-◌, ◌*◌, ◌/◌, ◌^◌, ℕ, max, min}
use Rattle.prog_picture.specs.declared.scene.Scene.{Scene}
use Rattle.prog_picture.specs.declared.view.View.{View}

-- how wide a frame is where so many are shown
abbrev pub step_of : ℕ → ℕ
step_of frames = min (max (1200 / max frames 1) 2) 60

-- the frames that are shown, 600 at most
abbrev pub end_of : ℕ → ℕ → ℕ
end_of from to = min (max to from) (min (from + 600) (2 ^ 32 - 1))

abbrev pub view_of : Scene → View
view_of scene = record {
  from = scene.from;
  to = end_of scene.from scene.to;
  step = step_of (end_of scene.from scene.to - scene.from);
}

pub record IsView (view : View) : Type 0 where
  pub order : view.from ≤ view.to
  pub few : view.to - view.from ≤ 600
  pub step : view.step ≤ 60

-- where a frame begins; one that isn't shown lies at the nearer end
abbrev pub x_of : View → ℕ → ℕ
x_of view frame = 100 + view.step * (min (max frame view.from) view.to - view.from)
