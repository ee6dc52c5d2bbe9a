use Rattle.std.proofs.Common.{◌≡◌, ◌-◌, ◌∙◌, arith, length, refl, subst, sym}
use Rattle.roll_frame.specs.Events.{replay}
use Rattle.roll_frame.specs.Timeline.{timeline}
use Rattle.roll_laws.proofs.Glue.{replay-push}
use Rattle.roll_session.specs.Calls.{entry_of}
use Rattle.roll_session.specs.Saves.{deepest_toward, GrowsBy}
use Rattle.roll_session.proofs.Entering.{is_close, rolled_next, rolled_settles, room_next, rows_fit, stepped_frame, widths_fit}
use Rattle.roll_session.proofs.Bares.{any_room, bare_rolled, keeps_given, no_run}
use Rattle.roll_session.proofs.WithGame.{still_grows}
use Rattle.roll_session.proofs.gameless.Core.enter.Goals as goal

pub plan-requires-clause-going : goal.plan-requires-clause-going
plan-requires-clause-going g c = any_room c.self.inside.saves c.args.way (rw (← c.self.view_is) at c.requires.can).going

pub plan-requires-clause-time : goal.plan-requires-clause-time
plan-requires-clause-time g c = let q = rw (← c.self.view_is) at c.requires.can in rows_fit c.self.invariant.0 c.args.call c.args.way.to q.to

pub plan-requires-clause-paths : goal.plan-requires-clause-paths
plan-requires-clause-paths g c = let q = rw (← c.self.view_is) at c.requires.can in widths_fit c.self.invariant.0 c.args.call c.args.way.to q.to

pub add_rolled-requires-clause-going : goal.add_rolled-requires-clause-going
add_rolled-requires-clause-going g c = any_room c.self.inside.saves c.args.way (rw (← c.self.view_is) at c.requires.can).going

pub finish_roll-requires-clause-near : goal.finish_roll-requires-clause-near
finish_roll-requires-clause-near g c = rw c.add_rolled.ensures.inputs (is_close c.self.invariant.0)

pub settle-requires : goal.settle-requires
settle-requires g c =
    let q = rw (← c.self.view_is) at c.requires.can in
    let old = c.self.inside.saves in
    let going = any_room old c.args.way q.going in
    let e = c.add_rolled.ensures in
    let all : length c.args.states.now ≡ c.args.way.to - old.inputs.settled - deepest_toward old c.args.way.to = omega (arith, c.requires.all, going.deepest) in
    rolled_settles c.self.invariant.0 c.args.call c.args.way.to q.to q.allowed.accepted c.add_rolled.new.saves c.finish_roll.new.self
    (record { inputs = e.inputs; paths = subst (GrowsBy old c.add_rolled.new.saves c.args.way.to) all e.paths; values = still_grows old c.add_rolled.new.saves c.args.way.to (length c.args.states.now) (omega (arith, all)) e.paths })
    c.finish_roll.ensures.inputs c.finish_roll.ensures.tree

pub invariant_of-self : goal.invariant_of-self
invariant_of-self g c =
    let q = rw (← c.self.view_is) at c.requires in
    let old = c.self.inside.saves in
    let going = any_room old c.args.way q.can.going in
    let e = c.add_rolled.ensures in
    let all : length c.args.states.now ≡ c.args.way.to - old.inputs.settled - deepest_toward old c.args.way.to = omega (arith, c.requires.all, going.deepest) in (
      rw c.add_call.ensures.entries
          (bare_rolled c.self.inside.settings c.self.inside.log.entries c.settle.new.self c.plan.new.planner c.args.call c.args.way.to q.can.to
          (rolled_next c.self.invariant.0 c.args.call c.args.way.to q.can.to q.can.allowed.accepted c.add_rolled.new.saves c.finish_roll.new.self c.settle.new.self c.plan.new.planner 0
          (record { inputs = e.inputs; paths = subst (GrowsBy old c.add_rolled.new.saves c.args.way.to) all e.paths; values = still_grows old c.add_rolled.new.saves c.args.way.to (length c.args.states.now) (omega (arith, all)) e.paths })
          c.finish_roll.ensures.inputs c.finish_roll.ensures.tree (record { inputs = c.settle.ensures.inputs; states = c.settle.ensures.states })
          (sym (no_run (timeline (replay c.self.inside.settings c.self.inside.log.entries).players c.args.way.to))) going.base c.plan.ensures)),
      room_next c.finish_roll.new.self c.self.invariant.1 q.room c.add_call.ensures.room c.spend.ensures.promised c.spend.ensures.there (rw (c.finish_roll.ensures.inputs, e.inputs) (stepped_frame old.inputs (entry_of c.args.call))) (c.finish_roll.ensures.room ∙ e.room) c.settle.ensures.inputs c.settle.ensures.room,
    )

pub returns-clause-entered : goal.returns-clause-entered
returns-clause-entered g c =
    rw (← c.self.view_is)
    (rw (c.add_call.ensures.entries, c.spend.ensures.promised, replay-push c.self.inside.settings c.self.inside.log.entries (entry_of c.args.call)) refl)

pub returns-clause-keeps : goal.returns-clause-keeps
returns-clause-keeps g c =
    let q = rw (← c.self.view_is) at c.requires.can in
    let old = c.self.inside.saves in
    let e = c.add_rolled.ensures in
    rw (← c.self.view_is)
    (keeps_given old c.args.way (any_room old c.args.way q.going) c.args.states.now c.add_rolled.new.saves (length c.args.states.now) e.kept
    c.finish_roll.new.self c.settle.new.self (entry_of c.args.call) e.inputs c.finish_roll.ensures.inputs c.finish_roll.ensures.tree c.settle.ensures.inputs c.settle.ensures.states refl)
