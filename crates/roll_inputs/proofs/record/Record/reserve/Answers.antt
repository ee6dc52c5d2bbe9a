use Rattle.std.proofs.Common.{◌≡◌, ◌≤◌, ◌+◌, ◌-◌, ◌*◌, ◌/◌, ◌∙◌, ap, arith, length, sym, vec_capacity}
use Rattle.std.proofs.Math.Nat.{add-mul}
use Rattle.std.proofs.lemmas.Nat.{le-div}
use Rattle.roll_inputs.proofs.Recorded.{length_seen, room_seen}
use Rattle.roll_inputs.proofs.record.Record.reserve.Goals as goal

pub returns-in_ok-reserve-2-clause-room : goal.returns-in_ok-reserve-2-clause-room
returns-in_ok-reserve-2-clause-room c =
    let i = c.self.inside in
    let more = c.args.rows - c.len-count.result in
    let count : length i.gone.items ≡ c.len-count.result = length_seen i c.args.self.now c.self.view_is ∙ sym c.len-count.ensures in
    let words : c.in-Some.words ≡ more * i.players = c.in-Some.ensures.1 ∙ ap (λ n. more * n) c.from.ensures in
    let all : c.args.rows * i.players ≡ length i.gone.items * i.players + more * i.players =
    ap (λ n. n * i.players) (omega (arith, count, c.if-count-rows.true)) ∙ add-mul (length i.gone.items) more i.players in
    let room : c.args.rows ≤ vec_capacity c.reserve-then-count-rows.new.self / i.players =
    le-div c.args.rows (vec_capacity c.reserve-then-count-rows.new.self) i.players (omega (arith, c.self.invariant.some)) (omega (arith, all, words, c.self.invariant.full, i.words.ok, c.in_ok-reserve-2.ensures.ok)) in
    omega (arith, room, count, i.gone.ok, c.if-count-rows.true, c.in_ok-reserve.ensures.ok)

pub returns-else-count-rows-clause-room : goal.returns-else-count-rows-clause-room
returns-else-count-rows-clause-room c =
    let i = c.self.inside in
    let words : length i.gone.items ≤ vec_capacity i.words / i.players = le-div (length i.gone.items) (vec_capacity i.words) i.players (omega (arith, c.self.invariant.some)) (omega (arith, c.self.invariant.full, i.words.ok)) in
    omega (arith, words, i.gone.ok, length_seen i c.args.self.now c.self.view_is, room_seen i c.args.self.now c.self.view_is, c.len-count.ensures)
