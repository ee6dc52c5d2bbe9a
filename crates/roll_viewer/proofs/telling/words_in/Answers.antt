use Rattle.std.proofs.Common.{◌≡◌, ◌∙◌, ◌+◌, ◌-◌, ◌≤◌, ℕ, zero, suc, List, [], ◌∷◌, ◌++◌, length, drop, get_or, take, ap, refl, sym, arith, append_assoc, append-nil, length-append}
use Rattle.std.specs.Option.{option_map_or}
use Rattle.std.specs.Prelude.{slice_get}
use Rattle.std.proofs.lemmas.List.{at_drop_all, at_drop_more, drop-drop, length-take}
use Rattle.std.proofs.lemmas.List.Sums.{sum_by-cons}
use Rattle.roll_frame.specs.Timeline.{Player}
use Rattle.roll_member.specs.Telling.{words_at}
use Rattle.roll_mesh.specs.Machines.{none_offered}
use Rattle.roll_mesh.specs.declared.packet.Offer.{Offer}
use Rattle.roll_session.specs.Headline.{words_of}
use Rattle.roll_session.proofs.Retold.{player_next}
use Rattle.roll_wire.specs.Spelling.{count_of}
use Rattle.roll_viewer.specs.Telling.{words_in}
use Rattle.roll_viewer.proofs.telling.words_in.Goals as goal

none_dropped : (n : ℕ) → drop {A = ℕ} n [] ≡ []
none_dropped zero = refl
none_dropped (suc n) = refl

none_taken : (n : ℕ) → take {A = ℕ} n [] ≡ []
none_taken zero = refl
none_taken (suc n) = refl

-- the words of who isn't there
no_words : (offer : Offer) → words_at [] offer ≡ []
no_words offer =
    ap (λ (ws : List ℕ). take (offer.end - offer.first) ws) (none_dropped offer.first)
    ∙ none_taken (offer.end - offer.first)

-- the words of the first offer, and then of the others
first_words : (ps : List Player) (offer : Offer) (offers : List Offer)
    → words_in ps (offer ∷ offers)
    ≡ words_at (option_map_or (λ p. p.words) (slice_get ps 0) []) offer ++ words_in (drop 1 ps) offers
first_words [] offer offers = sym (ap (λ ws. ws ++ []) (no_words offer))
first_words (p ∷ ps) offer offers = refl

next_player : (ps : List Player) (k : ℕ) → slice_get (drop k ps) 0 ≡ slice_get ps k
next_player ps zero = refl
next_player [] (suc k) = refl
next_player (p ∷ ps) (suc k) = next_player ps k

pub loop-place-preserved : goal.loop-place-preserved
loop-place-preserved g c =
    let s = g.S.Networked.seen c.args.session.now in
    let ps = s.core.players in
    let offers = c.args.spans.now in
    let place = c.loop-place.place in
    let offer : Offer = get_or offers place none_offered in
    let rest : List Offer = drop (place + 1) offers in
    let said : List ℕ = words_at (words_of s (place + 1)) offer in
    let there = at_drop_more (λ os. words_in (drop place ps) os) offers place none_offered c.loop-place-test.true in
    let next : words_in (drop place ps) (drop place offers) ≡ said ++ words_in (drop (place + 1) ps) rest =
    there ∙ first_words (drop place ps) offer rest
    ∙ ap (λ o. words_at (option_map_or (λ p. p.words) o []) offer ++ words_in (drop 1 (drop place ps)) rest)
    (next_player ps place ∙ sym (player_next ps place))
    ∙ ap (λ qs. said ++ words_in qs rest) (drop-drop 1 place ps) in
    let counted : count_of (drop place offers) ≡ (offer.end - offer.first) + count_of rest =
    at_drop_more count_of offers place none_offered c.loop-place-test.true
    ∙ sum_by-cons (λ (o : Offer). o.end - o.first) offer rest in
    let ended : length (said) ≤ offer.end - offer.first =
    omega (arith, length-take (offer.end - offer.first) (drop offer.first (words_of s (place + 1)))) in
    let more : c.push_words.new.words.items ≡ c.loop-place.words.items ++ said = c.push_words.ensures in
    record {
      so_far = ap (λ ws. ws ++ words_in (drop (place + 1) ps) rest) more
          ∙ append_assoc c.loop-place.words.items said (words_in (drop (place + 1) ps) rest)
          ∙ ap (λ ws. c.loop-place.words.items ++ ws) (sym next)
          ∙ c.loop-place.invariant.so_far;
      room = omega (
        arith,
        ap (λ (ws : List ℕ). length ws) more,
        length-append c.loop-place.words.items said,
        ended,
        counted,
        c.loop-place.invariant.room,
      );
    }

nothing_offered : (ps : List Player) → words_in ps [] ≡ []
nothing_offered [] = refl
nothing_offered (p ∷ ps) = refl

pub returns : goal.returns
returns g c =
    let s = g.S.Networked.seen c.args.session.now in
    let ps = s.core.players in
    let place = c.loop-place.place in
    sym (append-nil c.loop-place.words.items)
    ∙ ap (λ ws. c.loop-place.words.items ++ ws)
    (sym (at_drop_all (λ os. words_in (drop place ps) os) c.args.spans.now place c.loop-place-test.false
    ∙ nothing_offered (drop place ps)))
    ∙ c.loop-place.invariant.so_far
