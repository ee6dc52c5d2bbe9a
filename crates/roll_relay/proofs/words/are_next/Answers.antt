use Rattle.std.proofs.Common.{◌≡◌, ◌∙◌, ℕ, length, sym, arith, true, below_more}
use Rattle.roll_inputs.specs.declared.remote_word.RemoteWord.{RemoteWord}
use Rattle.roll_mesh.proofs.Places.{all_until, not_all_below}
use Rattle.roll_relay.specs.Told.{are_next, is_next_at}
use Rattle.roll_relay.proofs.Told.{next_at_is}
use Rattle.roll_relay.proofs.words.are_next.Goals as goal

abbrev nobody : RemoteWord
nobody = record { player = 0; frame = 0; word = 0 }

pub returns-then-not-is_next : goal.returns-then-not-is_next
unfolding are_next
returns-then-not-is_next g c =
    let s = g.S.Networked.seen c.args.session.now in
    let words = c.args.words.now in
    let k = c.loop-place.place in
    sym (not_all_below (is_next_at s words) (length words) k (omega (arith, c.loop-place-test.true))
    (next_at_is nobody s words k c.loop-place-test.true ∙ sym c.is_next.ensures ∙ c.if-not-is_next.true))

pub returns : goal.returns
unfolding are_next
returns g c = sym (all_until (is_next_at (g.S.Networked.seen c.args.session.now) c.args.words.now) (length c.args.words.now)
    c.loop-place.place (omega arith) c.loop-place.invariant)

pub loop-place-preserved : goal.loop-place-preserved
loop-place-preserved g c =
    below_more (λ (p : ℕ). is_next_at (g.S.Networked.seen c.args.session.now) c.args.words.now p ≡ true) c.loop-place.place
    c.loop-place.invariant
    (next_at_is nobody (g.S.Networked.seen c.args.session.now) c.args.words.now c.loop-place.place c.loop-place-test.true
    ∙ sym c.is_next.ensures ∙ c.if-not-is_next.false)
