use Rattle.std.proofs.Common.{◌≡◌, ◌∙◌, arith, refl, ap}
use Rattle.roll_host.specs.declared.absorb.Absorbed.{Absorbed}
use Rattle.roll_host.proofs.Fates.{absorbed_more, absorbed_none, counts_one}
use Rattle.roll_host.proofs.absorb.absorb_results.Goals as goal

pub loop-init : goal.loop-init
loop-init g c =
    let e = c.default-absorbed.ensures in
    let all : c.default-absorbed.result ≡ record { taken = 0; added = 0; dropped = 0; unmade = 0 } = λ i. record { taken = e.0 i; added = e.1.0 i; dropped = e.1.1.0 i; unmade = e.1.1.1 i } in
    record {
      done = rw all (absorbed_none g.G.Game.step c.args.session.now c.args.owner.now.came);
      pool = refl;
      count = e.0;
      dropped = omega (arith, e.1.1.0);
      unmade = omega (arith, e.1.1.1);
      added = omega (arith, e.1.0);
    }

pub loop-preserved : goal.loop-preserved
loop-preserved g c =
    let now = c.loop.invariant in
    let all = c.count.ensures in
    let fate = c.graft_result.result in
    record {
      done =
          absorbed_more g.G.Game.step c.args.session.now c.loop.session c.graft_result.new.session c.args.owner.now.came c.loop.owner.came c.collect.new.self.came c.loop.absorbed c.count.new.self c.in-Some.done fate now.done
          (omega (arith, now.count, c.loop-test.true)) c.in-Some.ensures.some c.graft_result.ensures.fate all;
      pool = c.collect.ensures.same ∙ (λ i. record (now.pool i) { came = c.collect.new.self.came });
      count = omega (arith, ap (λ (x : Absorbed). x.taken) all, now.count);
      dropped = omega (arith, ap (λ (x : Absorbed). x.taken) all, ap (λ (x : Absorbed). x.dropped) all, now.dropped, (counts_one fate).0);
      unmade = omega (arith, ap (λ (x : Absorbed). x.taken) all, ap (λ (x : Absorbed). x.unmade) all, now.unmade, (counts_one fate).1);
      added = omega (arith, ap (λ (x : Absorbed). x.taken) all, ap (λ (x : Absorbed). x.added) all, now.added, c.graft_result.ensures.few);
    }
