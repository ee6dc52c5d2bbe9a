use Rattle.std.proofs.Common.{◌∙◌, ap, arith, refl, sym}
use Rattle.roll_frame.specs.declared.entry.Entry.TheVariants.{Graft}
use Rattle.roll_laws.proofs.Glue.{replay-push}
use Rattle.roll_inputs.specs.Boards.{Inputs}
use Rattle.roll_session.proofs.BranchRows.{keeps_branch}
use Rattle.roll_session.proofs.Entering.{room_next}
use Rattle.roll_session.proofs.Grafting.{can_graft, grafted_count, grafted_session, grafted_settles}
use Rattle.roll_session.specs.Gameless.{bare_branch}
use Rattle.roll_session.proofs.Bares.{bare_states, bare_taken, keeps_grafted}
use Rattle.roll_session.proofs.gameless.Core.enter_branch.Goals as goal

pub add_new_states-added-requires-clause-reached : goal.add_new_states-added-requires-clause-reached
add_new_states-added-requires-clause-reached g c =
    let fine = rw (← c.self.view_is) at c.requires.accepted in
    rw c.requires.along (omega (arith, (can_graft c.self.invariant.0 (bare_branch c.args.ticket c.args.route) fine).reached))

pub add_new_states-added-requires-clause-near : goal.add_new_states-added-requires-clause-near
add_new_states-added-requires-clause-near g c =
    let fine = rw (← c.self.view_is) at c.requires.accepted in
    rw c.requires.along (can_graft c.self.invariant.0 (bare_branch c.args.ticket c.args.route) fine).near

pub add_new_states-added-requires-clause-from : goal.add_new_states-added-requires-clause-from
add_new_states-added-requires-clause-from g c =
    let fine = rw (← c.self.view_is) at c.requires.accepted in
    rw c.requires.along (can_graft c.self.invariant.0 (bare_branch c.args.ticket c.args.route) fine).low

pub add_new_states-added-requires-clause-possible : goal.add_new_states-added-requires-clause-possible
add_new_states-added-requires-clause-possible g c =
    let fine = rw (← c.self.view_is) at c.requires.accepted in
    rw c.requires.along (can_graft c.self.invariant.0 (bare_branch c.args.ticket c.args.route) fine).possible

pub add_new_states-added-requires-clause-fits : goal.add_new_states-added-requires-clause-fits
add_new_states-added-requires-clause-fits g c =
    let fine = rw (← c.self.view_is) at c.requires.accepted in
    rw c.requires.along (can_graft c.self.invariant.0 (bare_branch c.args.ticket c.args.route) fine).fits

pub settle-requires : goal.settle-requires
settle-requires g c =
    let fine = rw (← c.self.view_is) at c.requires.accepted in
    let e = rw c.requires.along at c.add_new_states-added.ensures in
    grafted_settles c.self.invariant.0 (bare_branch c.args.ticket c.args.route) fine c.args.states.items c.add_new_states-added.new.saves (record { are = bare_states c.args.route.rows.items c.args.states.items c.requires.many; inputs = e.inputs; paths = e.paths; values = e.values })

pub invariant_of-self : goal.invariant_of-self
invariant_of-self g c =
    let fine = rw (← c.self.view_is) at c.requires.accepted in
    let e = rw c.requires.along at c.add_new_states-added.ensures in (
      rw c.add_graft.ensures.entries
          (bare_taken c.self.inside.settings c.self.inside.log.entries c.settle.new.self c.self.inside.planner (Graft c.args.ticket c.args.route) refl (grafted_session c.self.invariant.0 (bare_branch c.args.ticket c.args.route) fine c.args.states.items c.add_new_states-added.new.saves c.settle.new.self
          (record { are = bare_states c.args.route.rows.items c.args.states.items c.requires.many; inputs = e.inputs; paths = e.paths; values = e.values }) c.settle.ensures.inputs c.settle.ensures.states)),
      room_next c.add_new_states-added.new.saves c.self.invariant.1 (rw (← c.self.view_is) at c.requires.room) c.add_graft.ensures.room c.spend.ensures.promised c.spend.ensures.there (omega (arith, ap (λ (i : Inputs). i.frame) e.inputs)) e.room c.settle.ensures.inputs c.settle.ensures.room,
    )

pub returns-clause-added : goal.returns-clause-added
returns-clause-added g c =
    let fine = rw (← c.self.view_is) at c.requires.accepted in
    let e = rw c.requires.along at c.add_new_states-added.ensures in
    rw (← c.self.view_is) (e.added ∙ sym (grafted_count c.self.invariant.0 (bare_branch c.args.ticket c.args.route) fine))

pub returns-clause-entered : goal.returns-clause-entered
returns-clause-entered g c =
    rw (← c.self.view_is)
    (rw (
      c.add_graft.ensures.entries,
      c.spend.ensures.promised,
      replay-push c.self.inside.settings c.self.inside.log.entries (Graft c.args.ticket c.args.route),
    ) refl)

pub returns-clause-keeps : goal.returns-clause-keeps
returns-clause-keeps g c =
    let e = rw c.requires.along at c.add_new_states-added.ensures in
    rw (← c.self.view_is) (keeps_grafted c.self.inside.saves c.add_new_states-added.new.saves c.settle.new.self c.args.route c.args.states.items e.values e.inputs c.settle.ensures.inputs c.settle.ensures.states)

pub returns-clause-branch : goal.returns-clause-branch
returns-clause-branch g c =
    let e = rw c.requires.along at c.add_new_states-added.ensures in
    let old = c.self.inside.saves in
    rw (← c.self.view_is)
    (keeps_branch c.self.inside.settings c.self.inside.log.entries old c.self.inside.planner c.self.inside.room.promised c.args.route c.settle.new.self c.args.states.items c.self.invariant.0 (rw (← c.self.view_is) at c.requires.accepted) c.requires.many
    (keeps_grafted old c.add_new_states-added.new.saves c.settle.new.self c.args.route c.args.states.items e.values e.inputs c.settle.ensures.inputs c.settle.ensures.states))
