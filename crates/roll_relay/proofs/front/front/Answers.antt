use Rattle.std.proofs.Common.{◌≡◌, ◌+◌, ◌<◌, [], List, Option, Some, ap, arith, false, length, subst, sym, take, ◌∙◌, ℕ}
use Rattle.std.proofs.lemmas.List.{take_all}
use Rattle.roll_frame.specs.Timeline.{Player}
use Rattle.roll_relay.proofs.Fronts.{counts, least_after, least_all, least_next, IsLeast}
use Rattle.roll_relay.proofs.front.front.Goals.{in-Some, in_default}
use Rattle.roll_relay.proofs.front.front.Goals as goal

abbrev nobody : Player
nobody = record { words = []; before = 0; mask = 0; local = false; gone = false; given = false }

pub loop-place-preserved : goal.loop-place-preserved
loop-place-preserved g c =
    let players = (g.S.Networked.seen c.args.session.now).core.players in
    let k = c.loop-place.place in
    let within : k < length players = omega (arith, c.loop-place-test.true, c.players-place-end.ensures) in
    let next = least_next players k nobody c.loop-place.least c.count_of.result within c.count_of.ensures c.loop-place.invariant in
    elim c.match-count_of.branch [
      | in-Some w ↦
          subst (λ (o : Option ℕ). IsLeast o (counts (take (k + 1) players))) (sym (w.least-is ∙ ap Some w.lesser.ensures))
          (subst (λ (o : Option ℕ). IsLeast (least_after c.loop-place.least o) (counts (take (k + 1) players))) w.in-Some.is next)
      | in_default w ↦
          subst (λ (o : Option ℕ). IsLeast o (counts (take (k + 1) players))) (sym w.least-is)
          (subst (λ (o : Option ℕ). IsLeast (least_after c.loop-place.least o) (counts (take (k + 1) players))) w.in_default.is next)
    ]

pub returns : goal.returns
returns g c =
    let players = (g.S.Networked.seen c.args.session.now).core.players in
    let all : take c.loop-place.place players ≡ players = take_all c.loop-place.place players (omega (arith, c.loop-place-test.false, c.players-place-end.ensures)) in
    c.unwrap_or.ensures
    ∙ least_all players c.loop-place.least (subst (λ (ps : List Player). IsLeast c.loop-place.least (counts ps)) all c.loop-place.invariant)
