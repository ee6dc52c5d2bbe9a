use Rattle.std.proofs.Common.{◌∙◌, ◌+◌, ◌<◌, List, ℕ, ap, sym, subst, arith}
use Rattle.std.specs.Prelude.{slice_set}
use Rattle.roll_mesh.specs.declared.limits.TheConstants.{PLAYER_LIMIT}
use Rattle.roll_mesh.specs.Meshes.{Seated}
use Rattle.roll_member.specs.Joined.{known}
use Rattle.roll_member.proofs.Known.{known_other}
use Rattle.roll_member.proofs.Joining.{given_other, given_own, no_words, other_of, own_of, still_first, IsGivenTo}
use Rattle.roll_member.proofs.join.give_all.Goals as goal
use Rattle.roll_member.proofs.join.give_all.Goals.{then-is_local, else-is_local}

pub give_own-requires-clause-own : goal.give_own-requires-clause-own
give_own-requires-clause-own g c =
    rw c.loop-place.invariant.has
    (own_of (g.S.Networked.seen c.args.session.now) c.args.mesh.now.seat c.loop-place.place
    (omega (arith, c.loop-place-test.true)) c.requires.seated
    (sym c.is_local.ensures ∙ c.if-is_local.true))

pub give_own-requires-clause-few : goal.give_own-requires-clause-few
give_own-requires-clause-few g c = rw c.loop-place.invariant.has c.requires.few

pub give_own-requires-clause-more : goal.give_own-requires-clause-more
give_own-requires-clause-more g c =
    omega (arith, c.loop-place.invariant.given.none c.loop-place.place (omega arith))

pub loop-place-preserved : goal.loop-place-preserved
loop-place-preserved g c =
    let s = g.S.Networked.seen c.args.session.now in
    let place = c.loop-place.place in
    let mid = c.loop-place.mesh in
    let within : place < PLAYER_LIMIT = omega (arith, c.loop-place-test.true) in
    elim c.if-is_local.branch [
      | then-is_local w ↦ (let e = w.mesh-is ∙ w.give_own.ensures ∙ ap (λ (m : Seated). record mid {
        machine = record mid.machine { has = slice_set mid.machine.has place (known s m.seat place) };
      }) c.loop-place.invariant.has in
          record {
            has = still_first c.args.mesh.now mid c.if-is_local.mesh
                (slice_set mid.machine.has place (known s c.args.mesh.now.seat place))
                c.loop-place.invariant.has e;
            given = subst (λ (has : List ℕ). IsGivenTo s c.args.mesh.now.seat has (place + 1))
                (sym (ap (λ m. m.machine.has) e))
                (given_own s c.args.mesh.now.seat mid.machine.has place within c.loop-place.invariant.given);
          })
      | else-is_local w ↦ (record {
        has = rw w.mesh-is c.loop-place.invariant.has;
        given = rw w.mesh-is
            (given_other s c.args.mesh.now.seat mid.machine.has place
            (known_other s c.args.mesh.now.seat place
            (other_of s c.args.mesh.now.seat place within c.requires.seated
            (sym c.is_local.ensures ∙ w.if-is_local.false))
            ∙ no_words s place within c.requires.fresh (sym c.is_local.ensures ∙ w.if-is_local.false))
            c.loop-place.invariant.given);
      })
    ]
