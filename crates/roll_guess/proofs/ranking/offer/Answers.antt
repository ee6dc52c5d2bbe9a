use Rattle.std.proofs.Common.{◌≡◌, ◌≤◌, ◌∙◌, sym, length, min, List, ap, arith, subst, lit<}
use Rattle.std.specs.Prelude.{insert}
use Rattle.std.proofs.lemmas.List.{length-take}
use Rattle.roll_guess.specs.Guesses.{AreOffered, HasNone, IsPlace}
use Rattle.roll_guess.specs.declared.ranking.Guess.{Guess}
use Rattle.roll_guess.proofs.Offers.{inserted}
use Rattle.roll_guess.proofs.ranking.offer.Goals as goal

pub insert-requires : goal.insert-requires
insert-requires c =
    let e : length c.make_room.new.ranking.items ≡ min 31 (length c.args.ranking.now.items) =
    ap length c.make_room.ensures ∙ length-take 31 c.args.ranking.now.items in
    let w : c.place_of-place.result ≤ length c.args.ranking.now.items =
    subst (λ (xs : List Guess). c.place_of-place.result ≤ length xs) c.as_slice.ensures.value c.place_of-place.ensures.within in
    let low = c.if-place-lt-GUESS_LIMIT.true in
    (lit< tt, (omega (arith, e, w, low), omega (arith, e)))

pub returns-then-not-has_words : goal.returns-then-not-has_words
returns-then-not-has_words c worths view ranked suits =
    let gs = c.args.ranking.now.items in
    let place = c.place_of-place.result in
    let low = c.if-place-lt-GUESS_LIMIT.true in
    let at : IsPlace gs c.args.guess.worth place =
    subst (λ (xs : List Guess). IsPlace xs c.args.guess.worth place) c.as_slice.ensures.value c.place_of-place.ensures in
    let few : length gs ≤ 32 = subst (λ (xs : List Guess). length xs ≤ 32) c.as_slice.ensures.value c.as_slice.ensures.fits in
    let none : HasNone gs c.args.guess.words.items =
    subst (λ (xs : List Guess). HasNone xs c.args.guess.words.items) c.as_slice-then-place-lt-GUESS_LIMIT.ensures.value
    (subst (λ ws. HasNone c.as_slice-then-place-lt-GUESS_LIMIT.result.now ws)
    c.as_slice-then-place-lt-GUESS_LIMIT-2.ensures.value c.if-not-has_words.ensures.none) in
    subst (λ (xs : List Guess). AreOffered worths view (λ words. words ≡ c.args.guess.words.items) gs xs)
    (sym (c.insert.ensures.items ∙ ap (λ (xs : List Guess). insert xs place c.args.guess) c.make_room.ensures))
    (inserted worths view place gs c.args.guess (omega (arith, low)) few
    ranked at suits none)
