use Rattle.std.proofs.Common.{◌≡◌, ◌+◌, suc, ◌++◌, drop, take, map, set, ap, ◌∙◌, arith}
use Rattle.fazgrond_c.specs.Kinds.{request_out}
use Rattle.fazgrond_c.proofs.Handing.{one_more}
use Rattle.fazgrond_c.proofs.requests.hand_out.Goals as goal

pub loop-place-preserved : goal.loop-place-preserved
loop-place-preserved c =
    let place = c.loop-place.place in
    let requests = c.args.requests.now in
    let request = c.index-requests-place.result in
    let next : suc place ≡ place + 1 = omega arith in
    ap (λ out. set out place c.of.result) c.loop-place.invariant
    ∙ (ap (set (map request_out (take place requests) ++ drop place c.args.out.now) place) (c.of.ensures ∙ ap request_out c.index-requests-place.is)
    ∙ (one_more request_out requests c.args.out.now place request c.loop-place-test.true c.requires
    ∙ ap (λ n. map request_out (take n requests) ++ drop n c.args.out.now) next))
