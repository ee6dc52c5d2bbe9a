use Rattle.std.proofs.Common.{◌≡◌, ◌∙◌, ◌-◌, ◌<◌, ℕ, List, take, ap, arith, subst, sym, refl}
use Rattle.roll_frame.specs.declared.row.Cell.{Cell}
use Rattle.roll_wire.specs.Spelling.{turn}
use Rattle.roll_viewer.specs.Queued.{with_next}
use Rattle.roll_viewer.specs.Rows.{first_row, row_count, row_in, AreTaken}
use Rattle.roll_viewer.proofs.Taken.{none_taken, some_offers, taken_all, taken_full, taken_more}
use Rattle.roll_viewer.proofs.rows.take_rows.Goals as goal

pub row_in-requires-clause-some : goal.row_in-requires-clause-some
row_in-requires-clause-some c =
    some_offers (take c.args.players c.args.play.now.head.offers) c.loop-index.index
    (omega (arith, c.loop-index-test.true, c.row_count-end.ensures))

pub loop-index-init : goal.loop-index-init
loop-index-init c =
    none_taken c.args.players (turn c.args.play.now) c.args.queue.now c.saturating_sub-from.result

pub loop-index-preserved : goal.loop-index-preserved
loop-index-preserved c =
    let t = turn c.args.play.now in
    let players = c.args.players in
    let offers = take players c.args.play.now.head.offers in
    let e : c.saturating_sub-from.result ≡ c.args.queue.now.count - first_row t =
    omega (arith, c.saturating_sub-from.ensures, c.count.ensures.count, c.first_row.ensures) in
    let there : c.loop-index.index < row_count offers = omega (arith, c.loop-index-test.true, c.row_count-end.ensures) in
    let row : c.row_in.result ≡ row_in offers t.words c.loop-index.index =
    c.row_in.ensures ∙ ap (λ (ws : List ℕ). row_in offers ws c.loop-index.index) c.deref.ensures.0 in
    let made : c.push.new.self ≡ with_next (row_in offers t.words c.loop-index.index) c.loop-index.queue =
    c.if-not-push.ensures.came refl ∙ ap (λ (r : List Cell). with_next r c.loop-index.queue) row in
    taken_more players t c.args.queue.now c.saturating_sub-from.result e c.loop-index.queue c.push.new.self
    c.loop-index.index c.loop-index.invariant there made

pub returns-then-not-push : goal.returns-then-not-push
returns-then-not-push c =
    let t = turn c.args.play.now in
    let players = c.args.players in
    let e : c.saturating_sub-from.result ≡ c.args.queue.now.count - first_row t =
    omega (arith, c.saturating_sub-from.ensures, c.count.ensures.count, c.first_row.ensures) in
    let there : c.loop-index.index < row_count (take players c.args.play.now.head.offers) =
    omega (arith, c.loop-index-test.true, c.row_count-end.ensures) in
    let full = c.if-not-push.ensures.full refl in
    taken_full players t c.args.queue.now c.saturating_sub-from.result e c.loop-index.queue c.push.new.self
    c.loop-index.index c.loop-index.invariant there full.0 full.1

pub returns : goal.returns
returns c =
    let t = turn c.args.play.now in
    let players = c.args.players in
    let e : c.saturating_sub-from.result ≡ c.args.queue.now.count - first_row t =
    omega (arith, c.saturating_sub-from.ensures, c.count.ensures.count, c.first_row.ensures) in
    let all = taken_all players t c.args.queue.now c.saturating_sub-from.result e c.loop-index.queue
    c.loop-index.index c.row_count-end.result c.loop-index.invariant c.row_count-end.ensures (omega (arith, c.loop-index-test.false)) in
    subst (λ (n : ℕ). AreTaken players t c.args.queue.now c.loop-index.queue n) (sym c.saturating_sub.ensures) all
