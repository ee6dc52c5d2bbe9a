use Rattle.std.proofs.Common.{◌≡◌, ◌∙◌, length, refl, sym, ap, inl, inr, arith}
use Rattle.roll_frame.specs.Core.{Core, settled}
use Rattle.roll_frame.proofs.Timelines.{length_timeline}
use Rattle.roll_spectate.proofs.Parts.{few_settled, next_part, none_read, one_longer, part_itself, part_more, row_read}
use Rattle.roll_spectate.proofs.ring.RowSender.push.Goals as goal
use Rattle.roll_spectate.proofs.ring.RowSender.push.Goals.{in-Some+then-not-send, in_default}

pub loop-row-init : goal.loop-row-init
loop-row-init g c =
    let count : c.self.inside.count ≡ length c.args.self.now.rows = c.self.invariant.0 ∙ ap (λ f. length f.rows) c.self.view_is in
    ((λ first. first), part_itself c.args.self.now.rows, count, omega (arith, count), refl, omega arith)

pub send-requires : goal.send-requires
send-requires g c =
    let core = (g.S.Networked.seen c.args.session.now).core in
    let there = row_read core.players (settled core) (length c.loop-row.self.rows) c.in-Some.row (sym c.in-Some.is ∙ c.next.ensures) in
    let few = few_settled _ _ _ c.laws.ensures.log in
    omega (arith, there.0, few, ap (λ (core : Core). settled core) c.laws.ensures.core)

pub loop-row-preserved : goal.loop-row-preserved
loop-row-preserved g c =
    let core = (g.S.Networked.seen c.args.session.now).core in
    let players = core.players in
    let there = row_read players (settled core) (length c.loop-row.self.rows) c.in-Some.row (sym c.in-Some.is ∙ c.next.ensures) in
    let more = c.if-not-send.ensures.sent refl in
    let n = one_longer c.loop-row.self.rows c.in-Some.row c.send.new.self.rows more.rows in (
      (λ first. next_part players (settled core) c.loop-row.self.rows c.in-Some.row c.send.new.self.rows there.0 there.1 more.rows (c.loop-row.invariant.0 first)),
      part_more c.args.self.now.rows c.loop-row.self.rows c.in-Some.row c.send.new.self.rows c.loop-row.invariant.1 more.rows,
      c.loop-row.invariant.2,
      omega (arith, c.loop-row.invariant.3, n),
      more.ring ∙ c.loop-row.invariant.4,
      omega (arith, more.taken, c.loop-row.invariant.5),
    )

pub returns-clause-pushed : goal.returns-clause-pushed
returns-clause-pushed g c =
    let core = (g.S.Networked.seen c.args.session.now).core in
    let at = settled core in
    let players = core.players in
    let inv = c.loop-row.invariant in
    elim c.match-next.branch [
      | in-Some+then-not-send w ↦
          let full = w.if-not-send.ensures.full refl in
          rw (w.self-is ∙ full.0) (record { ring = inv.4; taken = inv.5; grown = inv.1; first = inv.0; all = inr full.1 })
      | in_default w ↦
          let low = none_read players at (length c.loop-row.self.rows) (sym w.in_default.is ∙ c.next.ensures) in
          rw w.self-is (record { ring = inv.4; taken = inv.5; grown = inv.1; first = inv.0; all = inl (omega (arith, low, length_timeline players at)) })
    ]
