use Rattle.std.proofs.Common.{◌≡◌, ◌∙◌, ◌<◌, ℕ, List, ap, arith, length, refl, take}
use Rattle.std.specs.Prelude.{◌||◌}
use Rattle.std.proofs.lemmas.List.{length-map as length_map, length-set, take_all}
use Rattle.roll_tree.specs.SavedStates.{Saved}
use Rattle.roll_requests.specs.Slotted.{is_saved, is_taken}
use Rattle.roll_requests.proofs.Filling.{filled, is_there, of_place, or_false, saved_more}
use Rattle.roll_requests.proofs.taken.Taken.fill_saved.Goals as goal

pub get-requires : goal.get-requires
get-requires c =
    let t = c.args.tree.now in
    let few : c.loop-place.place < length t.states = omega (arith, c.loop-place-test.true, ap length c.names-names.ensures, length_map t.states (λ (s : Saved ℕ). s.name)) in
    is_there t c.names-names.result.now c.names-names.ensures c.loop-place.place c.laws.ensures.named few

pub fill-requires : goal.fill-requires
fill-requires c =
    let t = c.args.tree.now in
    let few : c.loop-place.place < length t.states = omega (arith, c.loop-place-test.true, ap length c.names-names.ensures, length_map t.states (λ (s : Saved ℕ). s.name)) in
    let low = of_place t c.names-names.result.now c.names-names.ensures c.loop-place.place c.laws.ensures.named few (λ slot. slot < length c.args.self.now) c.get.result.now c.get.ensures c.requires in
    omega (arith, low, c.loop-place.invariant.many)

pub loop-place-init : goal.loop-place-init
loop-place-init c = record { many = refl; filled = λ k. or_false (is_taken c.args.self.now k) }

pub loop-place-preserved : goal.loop-place-preserved
loop-place-preserved c =
    let t = c.args.tree.now in
    let old = c.loop-place.self in
    let now = c.loop-place.invariant in
    let slot : ℕ = c.get.result.now in
    let few : c.loop-place.place < length t.states = omega (arith, c.loop-place-test.true, ap length c.names-names.ensures, length_map t.states (λ (s : Saved ℕ). s.name)) in
    let low = of_place t c.names-names.result.now c.names-names.ensures c.loop-place.place c.laws.ensures.named few (λ slot. slot < length c.args.self.now) slot c.get.ensures c.requires in
    let within : slot < length old = omega (arith, low, now.many) in
    rw c.fill.ensures
    (record {
      many = length-set old slot _ ∙ now.many;
      filled = λ k. filled old slot k within ∙ saved_more t c.names-names.result.now c.names-names.ensures c.loop-place.place c.laws.ensures.named few slot k (is_taken c.args.self.now k) (is_taken old k) c.get.ensures (now.filled k);
    })

pub returns : goal.returns
returns c =
    let t = c.args.tree.now in
    let now = c.loop-place.invariant in
    let end : length t.states ≡ length c.names-names.result.now = omega (arith, ap length c.names-names.ensures, length_map t.states (λ (s : Saved ℕ). s.name)) in
    let all : take c.loop-place.place t.states ≡ t.states = take_all c.loop-place.place t.states (omega (arith, c.loop-place-test.false, end)) in
    record { filled = λ k. now.filled k ∙ ap (λ (l : List (Saved ℕ)). is_taken c.args.self.now k || is_saved l k) all; many = now.many }
