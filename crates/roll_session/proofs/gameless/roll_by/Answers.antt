use Rattle.std.proofs.Common.{◌-◌, ◌∙◌, ap, arith, refl, sym}
use Rattle.roll_frame.specs.declared.entry.Entry.TheVariants.{Partial, Sync}
use Rattle.roll_frame.specs.Events.{replay}
use Rattle.roll_frame.specs.Timeline.{timeline}
use Rattle.roll_inputs.specs.Boards.{Inputs}
use Rattle.roll_laws.proofs.Glue.{replay-push}
use Rattle.roll_session.proofs.Bares.{bare_partial, bare_rolled, no_run}
use Rattle.roll_session.proofs.Entering.{counts_are, few_made, is_close, partial_next, partial_settles, rolled_next, rolled_settles, room_next, rows_fit, starts, states_fit, stepped_frame, widths_fit}
use Rattle.roll_session.proofs.WithGame.{keeps_rolled, still_grows}
use Rattle.roll_session.specs.Calls.{entry_of}
use Rattle.roll_session.specs.Saves.{deepest_toward}
use Rattle.roll_session.proofs.gameless.roll_by.Goals as goal

pub roll-requires-clause-fits : goal.roll-requires-clause-fits
roll-requires-clause-fits g c = let to = rw (← c.core.view_is) at c.requires.to in states_fit c.core.invariant.0 c.args.call c.args.to to

pub roll-requires-clause-time : goal.roll-requires-clause-time
roll-requires-clause-time g c = let to = rw (← c.core.view_is) at c.requires.to in rows_fit c.core.invariant.0 c.args.call c.args.to to

pub roll-requires-clause-widths : goal.roll-requires-clause-widths
roll-requires-clause-widths g c = let to = rw (← c.core.view_is) at c.requires.to in widths_fit c.core.invariant.0 c.args.call c.args.to to

pub finish_roll-requires-clause-near : goal.finish_roll-requires-clause-near
finish_roll-requires-clause-near g c = rw c.in-Ok.ensures.inputs (is_close c.core.invariant.0)

pub settle-requires : goal.settle-requires
settle-requires g c =
    let q = rw (← c.core.view_is) at c.requires in
    let e = c.in-Ok.ensures in
    let old = c.core.inside.saves in
    rolled_settles c.core.invariant.0 c.args.call c.args.to q.to q.allowed.accepted c.roll.new.saves c.finish_roll.new.self
    (record { inputs = e.inputs; paths = e.paths; values = still_grows old c.roll.new.saves c.args.to (c.args.to - old.inputs.settled - deepest_toward old c.args.to) (omega arith) e.paths }) c.finish_roll.ensures.inputs c.finish_roll.ensures.tree

pub invariant_of-core : goal.invariant_of-core
invariant_of-core g c =
    let q = rw (← c.core.view_is) at c.requires in
    let e = c.in-Ok.ensures in
    let old = c.core.inside.saves in (
      rw c.add_call.ensures.entries
          (bare_rolled c.core.inside.settings c.core.inside.log.entries c.settle.new.self c.roll.new.planner c.args.call c.args.to q.to
          (rolled_next c.core.invariant.0 c.args.call c.args.to q.to q.allowed.accepted c.roll.new.saves c.finish_roll.new.self c.settle.new.self c.roll.new.planner 0
          (record { inputs = e.inputs; paths = e.paths; values = still_grows old c.roll.new.saves c.args.to (c.args.to - old.inputs.settled - deepest_toward old c.args.to) (omega arith) e.paths }) c.finish_roll.ensures.inputs c.finish_roll.ensures.tree (record { inputs = c.settle.ensures.inputs; states = c.settle.ensures.states })
          (sym (no_run (timeline (replay c.core.inside.settings c.core.inside.log.entries).players c.args.to))) c.laws.ensures.base e.plan)),
      room_next c.finish_roll.new.self c.core.invariant.1 q.room c.add_call.ensures.room c.spend.ensures.promised c.spend.ensures.there (rw (c.finish_roll.ensures.inputs, e.inputs) (stepped_frame old.inputs (entry_of c.args.call))) (c.finish_roll.ensures.room ∙ e.room) c.settle.ensures.inputs c.settle.ensures.room,
    )

pub settle-requires-in-Err : goal.settle-requires-in-Err
settle-requires-in-Err g c =
    let q = rw (← c.core.view_is) at c.requires in
    let e = c.in-Err.ensures in
    partial_settles c.core.invariant.0 c.args.call c.args.to q.to q.allowed.accepted c.in-Err.made e.made c.roll.new.saves
    (record { inputs = e.inputs; paths = e.partial; values = still_grows c.core.inside.saves c.roll.new.saves c.args.to c.in-Err.made (omega (arith, e.made)) e.partial })

pub invariant_of-core-in-Err : goal.invariant_of-core-in-Err
invariant_of-core-in-Err g c =
    let q = rw (← c.core.view_is) at c.requires in
    let e = c.in-Err.ensures in (
      rw c.add_partial.ensures.entries
          (bare_partial c.core.inside.settings c.core.inside.log.entries c.settle-in-Err.new.self c.roll.new.planner c.args.to c.in-Err.made
          (partial_next c.core.invariant.0 c.args.call c.args.to q.to q.allowed.accepted c.in-Err.made e.made c.roll.new.saves c.settle-in-Err.new.self c.roll.new.planner
          (record { inputs = e.inputs; paths = e.partial; values = still_grows c.core.inside.saves c.roll.new.saves c.args.to c.in-Err.made (omega (arith, e.made)) e.partial }) (record { inputs = c.settle-in-Err.ensures.inputs; states = c.settle-in-Err.ensures.states }) e.no_plan)),
      room_next c.roll.new.saves c.core.invariant.1 q.room c.add_partial.ensures.room c.spend-in-Err.ensures.promised c.spend-in-Err.ensures.there (omega (arith, ap (λ (i : Inputs). i.frame) e.inputs)) e.room c.settle-in-Err.ensures.inputs c.settle-in-Err.ensures.room,
    )

pub returns-in-Ok-clause-entered : goal.returns-in-Ok-clause-entered
returns-in-Ok-clause-entered g c =
    rw (← c.core.view_is)
    (rw (c.add_call.ensures.entries, c.spend.ensures.promised, replay-push c.core.inside.settings c.core.inside.log.entries (entry_of c.args.call)) refl)

pub returns-in-Ok-clause-from : goal.returns-in-Ok-clause-from
returns-in-Ok-clause-from g c = let to = rw (← c.core.view_is) at c.requires.to in rw (← c.core.view_is) (c.in-Ok.ensures.from ∙ starts c.core.invariant.0 c.args.call c.args.to to)

pub returns-in-Ok-clause-state : goal.returns-in-Ok-clause-state
returns-in-Ok-clause-state g c = rw (← c.core.view_is) c.in-Ok.ensures.state

pub returns-in-Ok-clause-counts : goal.returns-in-Ok-clause-counts
returns-in-Ok-clause-counts g c =
    let to = rw (← c.core.view_is) at c.requires.to in
    rw (← c.core.view_is) (c.in-Ok.ensures.counts ∙ counts_are c.core.invariant.0 c.args.call c.args.to to _)

pub returns-in-Ok-clause-values : goal.returns-in-Ok-clause-values
returns-in-Ok-clause-values g c =
    let e = c.in-Ok.ensures in
    rw (← c.core.view_is)
    (keeps_rolled g.G.RawGame.snapshot_value g.G.Game.step c.core.inside.saves c.roll.new.saves c.finish_roll.new.self c.settle.new.self (entry_of c.args.call) e.values e.inputs c.finish_roll.ensures.inputs c.finish_roll.ensures.tree c.settle.ensures.inputs c.settle.ensures.states)

pub returns-in-Err-clause-values : goal.returns-in-Err-clause-values
returns-in-Err-clause-values g c =
    let e = c.in-Err.ensures in
    rw (← c.core.view_is)
    (keeps_rolled g.G.RawGame.snapshot_value g.G.Game.step c.core.inside.saves c.roll.new.saves c.roll.new.saves c.settle-in-Err.new.self Sync e.values e.inputs refl refl c.settle-in-Err.ensures.inputs c.settle-in-Err.ensures.states)

pub returns-in-Err-clause-made : goal.returns-in-Err-clause-made
returns-in-Err-clause-made g c =
    let q = rw (← c.core.view_is) at c.requires in
    rw (← c.core.view_is) (few_made c.core.invariant.0 c.args.call c.args.to q.to q.allowed.accepted c.in-Err.made c.in-Err.ensures.made)

pub returns-in-Err-clause-cut : goal.returns-in-Err-clause-cut
returns-in-Err-clause-cut g c =
    rw (← c.core.view_is)
    (rw (c.add_partial.ensures.entries, c.spend-in-Err.ensures.promised, replay-push c.core.inside.settings c.core.inside.log.entries (Partial c.args.to c.in-Err.made)) refl)
