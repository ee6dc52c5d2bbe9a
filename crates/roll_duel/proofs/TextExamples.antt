-- What the definitions give for the opening of two ships, and after a frame in which player 1 thrusts.
use Rattle.std.specs.Prelude.{◌≡◌, [], ◌∷◌, codes, neg_ℤ, pos, refl}
use Rattle.std.specs.Fmt.{digits}
use Rattle.roll_frame.specs.declared.row.Cell.TheVariants.{Word}
use Rattle.roll_duel.specs.Bytes.{bytes_of, ship_bytes, bullet_bytes, field_of, ships_of, ship_of, bullets_of, bullet_of, step}
use Rattle.roll_duel.specs.Frame.{opening_of}
use Rattle.roll_duel.specs.Ships.{placed}
use Rattle.roll_duel.specs.Text.{duel_text, ship_text}

pub opening_text : duel_text (bytes_of (opening_of 2)) ≡ codes "20480,15360,0,0,0,0,0 61440,46080,0,0,4,0,0 b0"
unfolding duel_text ship_text bytes_of ship_bytes bullet_bytes field_of ships_of ship_of bullets_of bullet_of digits
opening_text = refl

pub thrust_text : duel_text (step (bytes_of (opening_of 2)) (Word 1 ∷ Word 0 ∷ [])) ≡ codes "20496,15360,16,0,0,0,0 61440,46080,0,0,4,0,0 b0"
unfolding duel_text ship_text bytes_of ship_bytes bullet_bytes field_of ships_of ship_of bullets_of bullet_of step digits
thrust_text = refl

pub fired_text : duel_text (step (bytes_of (opening_of 2)) (Word 8 ∷ Word 0 ∷ [])) ≡ codes "20480,15360,0,0,0,8,0 61440,46080,0,0,4,0,0 b1"
unfolding duel_text ship_text bytes_of ship_bytes bullet_bytes field_of ships_of ship_of bullets_of bullet_of step digits
fired_text = refl

pub signed_text : ship_text (record (placed 81898 0 3) { vx = neg_ℤ (pos 32); vy = neg_ℤ (pos 11); cool = 5; hits = 65535 }) ≡ codes "81898,0,-32,-11,3,5,65535"
unfolding ship_text digits
signed_text = refl
