use Rattle.std.proofs.Common.{◌≡◌, ◌+◌, suc, ◌++◌, drop, take, map, set, ap, ◌∙◌, arith}
use Rattle.fazgrond_c.specs.Habits.{foreseen_out}
use Rattle.fazgrond_c.proofs.Handing.{one_more}
use Rattle.fazgrond_c.proofs.habits.write_all.Goals as goal

pub loop-place-preserved : goal.loop-place-preserved
loop-place-preserved c =
    let place = c.loop-place.place in
    let guesses = c.args.guesses.now in
    let guess = c.index-guesses-place.result in
    let next : suc place ≡ place + 1 = omega arith in
    ap (λ out. set out place c.of.result) c.loop-place.invariant
    ∙ (ap (set (map foreseen_out (take place guesses) ++ drop place c.args.out.now) place) (c.of.ensures ∙ ap foreseen_out c.index-guesses-place.is)
    ∙ (one_more foreseen_out guesses c.args.out.now place guess c.loop-place-test.true c.requires
    ∙ ap (λ n. map foreseen_out (take n guesses) ++ drop n c.args.out.now) next))
