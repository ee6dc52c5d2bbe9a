use Rattle.std.proofs.Common.{◌≡◌, ◌+◌, ◌++◌, [], length, append-nil, refl, sym, ap, arith, rules, ◌∙◌}
use Rattle.rtrb.specs.Ring.{known_items, received, sent}
use Rattle.roll_pool.proofs.Moves.{merges}
use Rattle.roll_pool.proofs.Settling.{one_late, none_left}
use Rattle.roll_pool.proofs.settle.take_pass.Goals as goal

pub absorb-requires-clause-rule : goal.absorb-requires-clause-rule
absorb-requires-clause-rule g c = merges _ _ _ _ c.requires.owns (ap (λ v. v.out) c.end.invariant.out)

pub loop-preserved : goal.loop-preserved
loop-preserved g c =
    let was = c.loop.invariant in
    let m = one_late c.args.late.now.items c.loop.late.items c.push_reserved.new.self.items was.0 (known_items c.slots_beside-waiting.new.self) (known_items c.loop.consumer) (known_items c.pop_known.new.self) c.pop_known.result was.1 was.2 (search rules) (search rules) in
    (m.0, m.1, m.2, m.3 ∙ ap (λ n. n + 1) was.3, search rules, search rules)

pub loop-init : goal.loop-init
loop-init g c = ([], sym (append-nil c.args.late.now.items), refl, refl, search rules, search rules)

pub returns-clause-late : goal.returns-clause-late
returns-clause-late g c =
    let was = c.loop.invariant in
    let looked = c.slots_beside-waiting.ensures in
    let all : length (known_items c.slots_beside-waiting.new.self) ≡ length was.0 = omega (arith, looked.value, was.3, c.loop-test.false, c.loop.auto) in
    let known : known_items c.slots_beside-waiting.new.self ≡ was.0 = was.2 ∙ none_left was.0 (known_items c.loop.consumer) (ap length (sym was.2) ∙ all) in
    let came : received c.slots_beside-waiting.new.self ≡ c.args.ring.came = looked.looked.1 ∙ ap (λ r. r.came) c.ring.view_is in
    let pushed : sent c.slots_beside-waiting.new.producer ≡ c.args.end.results = looked.producer.1 ∙ ap (λ e. e.results) c.end.view_is in
    record {
      more = was.0;
      all = (λ i. sym came i ++ sym known i) ∙ looked.fifo ∙ pushed;
      grown = was.1;
    }
