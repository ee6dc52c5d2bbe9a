use Rattle.std.proofs.Common.{◌≡◌, ℕ, ◌∙◌, ◌<◌, ◌/◌, arith, get_or, length, min, sym, ap, true, false}
use Rattle.std.proofs.lemmas.Bool.{eq-eqb, ne_eqb}
use Rattle.std.proofs.lemmas.List.{get_or-map, length-map, length-set}
use Rattle.roll_mesh.specs.Groups.{first_of}
use Rattle.roll_mesh.specs.Machines.{none_offered}
use Rattle.roll_member.specs.Taking.{is_first}
use Rattle.roll_member.proofs.Rooms.{counts_of, rooms_first, rooms_next, size}
use Rattle.roll_member.proofs.telling.room_for.Goals as goal
use Rattle.roll_member.proofs.telling.room_for.Goals.{then-first_of-place, else-first_of-place}

pub loop-place-preserved : goal.loop-place-preserved
loop-place-preserved c =
    let place = c.loop-place.place in
    let room = c.loop-place.room in
    let left = c.loop-place.left in
    let words = c.from-words.result in
    let offers = c.wanted-wanted.result.offers in
    let inside : place < length offers = omega (arith, c.loop-place-test.true) in
    let there : place < length (counts_of offers) = omega (arith, inside, length-map offers size) in
    let within : place < length room = omega (arith, c.loop-place.invariant.all, c.loop-place-test.true) in
    let first : c.first_of.result ≡ first_of words place =
    c.first_of.ensures.first ∙ ap (λ w. first_of w place) (sym c.from-words.ensures) in
    elim c.if-first_of-place.branch [
      | then-first_of-place w ↦ (let now = w.min-fits.result in
          let is : is_first words place ≡ true =
          eq-eqb (first_of words place) place (sym first ∙ w.if-first_of-place.true) in
          let fits : now ≡ min (get_or (counts_of offers) place 0) (left / words) =
          w.min-fits.ensures
          ∙ ap (λ (n : ℕ). min n (left / words)) (w.saturating_sub.ensures
          ∙ sym (get_or-map size offers place none_offered 0 inside)) in
          rw (w.fits-is, w.left-is) (record {
            all = length-set room place now ∙ c.loop-place.invariant.all;
            few = omega (arith, c.loop-place.invariant.few);
            so_far = rooms_first words place c.loop-place.fits left now room (counts_of offers) within there is fits
                ∙ c.loop-place.invariant.so_far;
          }))
      | else-first_of-place w ↦ (let isnt : is_first words place ≡ false =
          ne_eqb (first_of words place) place (λ e. w.if-first_of-place.false (first ∙ e)) in
          rw (w.fits-is, w.left-is) (record {
            all = length-set room place c.loop-place.fits ∙ c.loop-place.invariant.all;
            few = c.loop-place.invariant.few;
            so_far = rooms_next words place c.loop-place.fits left room (counts_of offers) within there isnt
                ∙ c.loop-place.invariant.so_far;
          }))
    ]
