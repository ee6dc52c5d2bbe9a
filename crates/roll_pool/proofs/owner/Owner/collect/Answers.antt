use Rattle.std.proofs.Common.{◌≡◌, ◌<◌, ◌+◌, length, vec_len, ap, sym, ◌∙◌, rules, arith}
use Rattle.std.proofs.lemmas.List.{length-map}
use Rattle.crossbeam_deque.specs.Handles.{worker_view}
use Rattle.roll_pool.specs.Owners.{came_by, collected}
use Rattle.roll_pool.proofs.Collecting.{one_more, sound_after}
use Rattle.roll_pool.proofs.owner.Owner.collect.Goals as goal

pub invariant_of-self-in-Some : goal.invariant_of-self-in-Some
invariant_of-self-in-Some g c =
    let was = c.self.invariant in
    let same = c.loop-place.invariant in
    let rings = c.loop-place.self-inside.rings in
    let len : vec_len rings ≡ length rings.items = search rules in
    let lt : c.loop-place.place < length (came_by rings.items) = omega (arith, c.loop-place-test.true, c.len-place-end.ensures, same.1, len, length-map rings.items (λ r. r.came)) in
    let issued : length (worker_view c.self.inside.deque).issued ≡ length c.args.self.now.issued = ap (λ p. length p.issued) c.self.view_is in
    let back : length (worker_view c.self.inside.deque).jobs ≡ length c.args.self.now.withdrawn = ap (λ p. length p.withdrawn) c.self.view_is in
    let came : length (collected (came_by c.self.inside.rings.items)) ≡ length (collected c.args.self.now.came) = ap (λ p. length (collected p.came)) c.self.view_is in
    let less : c.self.inside.collected + c.self.inside.withdrawn < c.self.inside.issued = omega (arith, c.out.ensures.count, c.if-out-eq0.false, was.0.many, was.0.back, was.1) in
    let more : length (collected (came_by c.pop_at.new.rings.items)) ≡ length (collected (came_by rings.items)) + 1 = ap (λ l. length (collected l)) c.in-Some.ensures.some ∙ one_more _ _ _ lt in
    let counted : c.self.inside.collected ≡ length (collected (came_by rings.items)) = was.1 ∙ ap (λ l. length (collected (came_by l))) (sym same.0) in (
      rw (same.2, same.3, same.4, same.8) (sound_after _ _ _ _ _ _ _ _ _ was.0 (c.in-Some.ensures.same.1 ∙ same.1) less),
      ap (λ n. n + 1) (same.4 ∙ counted) ∙ sym more,
      rw same.5 was.2,
      rw same.6 was.3,
    )
