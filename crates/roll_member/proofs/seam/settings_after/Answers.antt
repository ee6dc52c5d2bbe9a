use Rattle.std.proofs.Common.{◌∙◌, [], arith, refl}
use Rattle.std.proofs.lemmas.List.FromFn.{fill_by_all}
use Rattle.roll_mesh.specs.declared.limits.TheConstants.{PLAYER_LIMIT}
use Rattle.roll_member.specs.Seam.{given_after, last_before}
use Rattle.roll_member.proofs.seam.settings_after.Goals as goal

pub returns : goal.returns
returns g c =
    let s = g.S.Networked.seen c.args.session.now in
    let before = fill_by_all (λ p. last_before s p c.args.end) c.loop-place.before PLAYER_LIMIT 0
    c.loop-place.invariant.0 (λ p l. c.loop-place.invariant.2 p (omega (arith, l))) in
    let first = fill_by_all (λ p. given_after s p c.args.end) c.loop-place.first PLAYER_LIMIT []
    c.loop-place.invariant.1 (λ p l. c.loop-place.invariant.3 p (omega (arith, l))) in
    c.following.ensures ∙ rw (before, first, c.settings.ensures) refl
