use Rattle.std.proofs.Common.{ap, refl, ◌∙◌}
use Rattle.roll_frame.specs.Core.{Core}
use Rattle.roll_frame.specs.Events.{replay}
use Rattle.roll_laws.proofs.Glue.{replay-push}
use Rattle.roll_session.specs.Calls.{entry_of}
use Rattle.roll_session.proofs.Entering.{room_next, settles, taken_frame, taken_session}
use Rattle.roll_session.proofs.Bares.{bare_taken, still_shown, keeps_settled, keeps_taken}
use Rattle.roll_session.proofs.Holding.{taken}
use Rattle.roll_session.proofs.gameless.Core.apply_input.Goals as goal

pub settle-requires : goal.settle-requires
settle-requires g c =
    let q = rw (← c.self.view_is) at c.requires in
    let e = c.take.ensures in
    settles c.self.invariant.0 (entry_of c.args.call) q.allowed.new q.allowed.accepted c.take.new.self (taken c.self.invariant.0 c.args.call q.input q.allowed.accepted c.take.new.self c.laws.ensures.stays c.laws.ensures.ahead e.inputs e.states e.rows)

pub invariant_of-self : goal.invariant_of-self
invariant_of-self g c =
    let q = rw (← c.self.view_is) at c.requires in
    let e = c.take.ensures in
    let between = taken c.self.invariant.0 c.args.call q.input q.allowed.accepted c.take.new.self c.laws.ensures.stays c.laws.ensures.ahead e.inputs e.states e.rows in (
      rw c.add_call.ensures.entries (bare_taken c.self.inside.settings c.self.inside.log.entries c.settle.new.self c.self.inside.planner (entry_of c.args.call) (still_shown (replay c.self.inside.settings c.self.inside.log.entries) c.args.call q.input) (taken_session c.self.invariant.0 c.args.call q.input q.allowed.new q.allowed.accepted c.take.new.self c.settle.new.self between (record { inputs = c.settle.ensures.inputs; states = c.settle.ensures.states }))),
      room_next c.take.new.self c.self.invariant.1 q.room c.add_call.ensures.room c.spend.ensures.promised c.spend.ensures.there (rw e.inputs (taken_frame c.self.inside.saves.inputs (entry_of c.args.call))) e.room c.settle.ensures.inputs c.settle.ensures.room,
    )

pub returns-clause-taken : goal.returns-clause-taken
returns-clause-taken g c =
    rw (← c.self.view_is)
    (rw (c.add_call.ensures.entries, c.spend.ensures.promised, replay-push c.self.inside.settings c.self.inside.log.entries (entry_of c.args.call)) refl)

pub returns-clause-keeps : goal.returns-clause-keeps
returns-clause-keeps g c =
    let e = c.take.ensures in
    rw (← c.self.view_is) (λ value step opening h. keeps_settled c.take.new.self c.settle.new.self c.settle.ensures.inputs c.settle.ensures.states value step opening (keeps_taken c.self.inside.saves c.take.new.self (entry_of c.args.call) e.inputs e.states e.rows value step opening h))

pub returns-clause-shown : goal.returns-clause-shown
returns-clause-shown g c =
    let q = rw (← c.self.view_is) at c.requires in
    let core = replay c.self.inside.settings c.self.inside.log.entries in
    rw (← c.self.view_is, c.add_call.ensures.entries) (ap (λ (r : Core). r.shown) (replay-push c.self.inside.settings c.self.inside.log.entries (entry_of c.args.call)) ∙ still_shown core c.args.call q.input)
