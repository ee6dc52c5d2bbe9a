use Rattle.std.proofs.Common.{◌≡◌, ◌≢◌, ◌∙◌, ◌<◌, ℕ, List, [], Option, None, false, ap, sym, refl, arith, get_or, inl, inr, replicate, get_or-set_other, length-set}
use Rattle.std.proofs.lemmas.Bool.{cases_lt}
use Rattle.std.proofs.lemmas.List.{get_or-replicate, get_or_past, length-replicate}
use Rattle.roll_mesh.specs.declared.limits.TheConstants.{MACHINE_LIMIT, PLAYER_LIMIT}
use Rattle.roll_mesh.specs.Machines.{none_offered}
use Rattle.roll_wire.specs.Spelling.{Turn}
use Rattle.roll_wire.specs.declared.datagram.Clocks.{Clocks}
use Rattle.roll_wire.proofs.Wholes.{unmarked_whole}
use Rattle.roll_viewer.proofs.Padding.{filled_up, one_more}
use Rattle.roll_viewer.proofs.telling.acknowledged.Goals as goal

abbrev said_of : (number : ℕ) → Option Clocks → List ℕ → List ℕ → Turn
said_of number clocks has words = record {
  head = record {
    number = number;
    clocks = clocks;
    view = record { gone = replicate MACHINE_LIMIT false; has = has };
    settled = None;
    offers = replicate PLAYER_LIMIT none_offered;
  };
  marks = replicate PLAYER_LIMIT None;
  words = words;
}

pub returns-clause-said : goal.returns-clause-said
returns-clause-said c =
    let players = c.args.players in
    let rows = c.args.rows in
    let place = c.loop-place.place in
    let same : (k : ℕ) → k < PLAYER_LIMIT → get_or c.loop-place.has k 0 ≡ get_or (replicate players rows) k 0 =
    λ k l. elim (cases_lt k players) [
      | inl here ↦ c.loop-place.invariant.done k (omega (arith, here, c.loop-place-test.false)) ∙ sym (get_or-replicate players k rows 0 here)
      | inr past ↦ c.loop-place.invariant.left k (omega (arith, past)) ∙ sym (get_or_past (replicate players rows) k 0 (omega (arith, past, length-replicate players rows)))
    ] in
    ap (λ words. said_of c.args.number c.args.clocks c.loop-place.has words) c.new.ensures
    ∙ ap (λ has. said_of c.args.number c.args.clocks has []) (filled_up 0 (replicate players rows) c.loop-place.has c.loop-place.invariant.all same)

pub loop-place-preserved : goal.loop-place-preserved
loop-place-preserved c =
    let has = c.loop-place.has in
    let place = c.loop-place.place in
    let rows = c.args.rows in
    record {
      all = length-set has place rows ∙ c.loop-place.invariant.all;
      done = one_more (λ k. rows) has place rows 0 (omega (arith, c.loop-place.invariant.all, c.loop-place-test.true, c.requires)) c.loop-place.invariant.done refl;
      left = λ k l. (let ne : k ≢ place = omega (arith, l) in get_or-set_other has place k rows 0 ne) ∙ c.loop-place.invariant.left k (omega (arith, l));
    }

pub returns-clause-whole : goal.returns-clause-whole
returns-clause-whole c = rw c.new.ensures (unmarked_whole (replicate PLAYER_LIMIT none_offered) [] refl)
