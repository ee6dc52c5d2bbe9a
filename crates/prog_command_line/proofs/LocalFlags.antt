-- Commands without global arguments.
use Rattle.std.proofs.Common.{◌≡◌, ◌||◌, Bool, true, false, refl}

pub still : (a : Bool) {b : Bool} → b ≡ false → (a || b) ≡ a
still true is_b = refl
still false is_b = is_b
