use Rattle.std.proofs.Common.{◌≡◌, ◌∙◌, ◌+◌, ◌<◌, List, ℕ, ap, sym, subst, arith}
use Rattle.std.specs.Prelude.{slice_set}
use Rattle.std.proofs.lemmas.Bool.{eqb-true}
use Rattle.roll_mesh.specs.declared.limits.TheConstants.{PLAYER_LIMIT}
use Rattle.roll_mesh.specs.Machines.{owner_of}
use Rattle.roll_mesh.specs.Meshes.{Seated}
use Rattle.roll_member.specs.Joined.{known}
use Rattle.roll_member.proofs.Beside.{caught_all, caught_other, caught_own, near_at, rest_more, IsCaughtUp}
use Rattle.roll_member.proofs.join.catch_up.Goals as goal
use Rattle.roll_member.proofs.join.catch_up.Goals.{then-is_local, else-is_local}

pub give_own-requires-clause-own : goal.give_own-requires-clause-own
give_own-requires-clause-own g c =
    let s = g.S.Networked.seen c.args.session.now in
    let place = c.loop-place.place in
    let n = near_at s c.args.mesh.now c.requires.near place (omega (arith, c.loop-place-test.true)) in
    rw c.loop-place.invariant.rest
    (eqb-true (owner_of c.args.mesh.now.seat place) c.args.mesh.now.seat.me
    (sym n.own ∙ sym c.is_local.ensures ∙ c.if-is_local.true))

pub give_own-requires-clause-more : goal.give_own-requires-clause-more
give_own-requires-clause-more g c =
    let s = g.S.Networked.seen c.args.session.now in
    let place = c.loop-place.place in
    let n = near_at s c.args.mesh.now c.requires.near place (omega (arith, c.loop-place-test.true)) in
    omega (
      arith,
      n.few,
      c.loop-place.invariant.caught.later place (omega arith),
      ap (λ (m : Seated). known s m.seat place) c.loop-place.invariant.rest,
    )

pub give_own-requires-clause-few : goal.give_own-requires-clause-few
give_own-requires-clause-few g c = rw c.loop-place.invariant.rest c.requires.few

pub loop-place-preserved : goal.loop-place-preserved
loop-place-preserved g c =
    let s = g.S.Networked.seen c.args.session.now in
    let place = c.loop-place.place in
    let mid = c.loop-place.mesh in
    let within : place < PLAYER_LIMIT = omega (arith, c.loop-place-test.true) in
    let n = near_at s c.args.mesh.now c.requires.near place within in
    elim c.if-is_local.branch [
      | then-is_local w ↦ (let e = w.mesh-is ∙ w.give_own.ensures ∙ ap (λ (m : Seated). record mid {
        machine = record mid.machine { has = slice_set mid.machine.has place (known s m.seat place) };
      }) c.loop-place.invariant.rest in
          record {
            rest = rest_more c.args.mesh.now mid c.if-is_local.mesh
                (slice_set mid.machine.has place (known s c.args.mesh.now.seat place))
                c.loop-place.invariant.rest e;
            caught = subst (λ (has : List ℕ). IsCaughtUp s c.args.mesh.now.seat c.args.mesh.now.machine.has has (place + 1))
                (sym (ap (λ (m : Seated). m.machine.has) e))
                (caught_own s c.args.mesh.now.seat c.args.mesh.now.machine.has mid.machine.has place within c.requires.sized
                c.loop-place.invariant.caught);
          })
      | else-is_local w ↦ (record {
        rest = rw w.mesh-is c.loop-place.invariant.rest;
        caught = rw w.mesh-is
            (caught_other s c.args.mesh.now.seat c.args.mesh.now.machine.has mid.machine.has place
            (n.all (sym n.own ∙ sym c.is_local.ensures ∙ w.if-is_local.false))
            c.loop-place.invariant.caught);
      })
    ]

pub returns : goal.returns
returns g c =
    caught_all (g.S.Networked.seen c.args.session.now) c.args.mesh.now c.loop-place.mesh c.requires.sized
    c.loop-place.invariant.rest
    (rw (← (let e : c.loop-place.place ≡ PLAYER_LIMIT = omega arith in e)) c.loop-place.invariant.caught)
