use Rattle.std.proofs.Common.{rules, append_assoc, w16, FitsSigned}
use Rattle.std.proofs.lemmas.Int.{to_z-of_z}
use Rattle.roll_duel.proofs.Reading.{bullet_bytes_are}
use Rattle.roll_duel.proofs.bytes.write_bullet.Goals as goal

pub returns : goal.returns
returns c =
    let fx : FitsSigned w16 c.args.bullet.now.vx = search rules in
    let fy : FitsSigned w16 c.args.bullet.now.vy = search rules in
    let ex = to_z-of_z w16 c.args.bullet.now.vx fx in
    let ey = to_z-of_z w16 c.args.bullet.now.vy fy in
    rw (bullet_bytes_are, c.in_ok-extend_from_slice-5.ensures.items, c.in_ok-extend_from_slice-4.ensures.items, c.in_ok-extend_from_slice-3.ensures.items, c.in_ok-extend_from_slice-2.ensures.items, c.in_ok-extend_from_slice.ensures.items, c.to_be_bytes.ensures, c.to_be_bytes-2.ensures, c.to_be_bytes-3.ensures, c.to_be_bytes-4.ensures, ex, ey) (simp append_assoc)
