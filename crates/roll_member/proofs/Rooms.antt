-- What a machine tells another: as many words as a packet has room for, and none that it hasn't.
use Rattle.std.proofs.Common.{◌≡◌, ◌⊎◌, ◌∙◌, ◌≤◌, ◌<◌, ℕ, zero, suc, ◌+◌, ◌-◌, ◌*◌, ◌/◌, min, List, [], ◌∷◌, ◌++◌, drop, get_or, length, map, replicate, set, take, refl, ap, sym, subst, arith, append_assoc, append-nil, Bool, true, false, inl, inr, length-append}
use Rattle.std.specs.List.{range_with_len, sum}
use Rattle.std.specs.Prelude.{slice_index, slice_index_or, ◌==◌, ◌||◌, if◌then◌else◌}
use Rattle.std.proofs.Math.Nat.{add-mul, div-mul-le_self, mul_comm, mul-le-mul_right, mul-zero}
use Rattle.std.proofs.lemmas.Bool.{cases_Bool, cases_lt, eq-eqb, le-leb, lt-ltb}
use Rattle.std.proofs.lemmas.List.{at_drop_all, at_drop_more, drop_at, take_at, take-take, drop-take, length-drop, length-map, length-take, take_more_set}
use Rattle.std.proofs.lemmas.List.Sums.{sum_by-cons}
use Rattle.roll_mesh.proofs.Places.{at_place, filled, length_places, past_places}
use Rattle.roll_mesh.specs.Machines.{at_places, is_orphan, none_offered, offer_at, offer_of, owner_of, said_by, tell}
use Rattle.roll_mesh.specs.Meshes.{Seated}
use Rattle.roll_mesh.specs.declared.limits.TheConstants.{PLAYER_LIMIT}
use Rattle.roll_mesh.specs.declared.machine.Machine.{Machine}
use Rattle.roll_mesh.specs.declared.packet.Offer.{Offer}
use Rattle.roll_mesh.specs.declared.seat.Seat.{Seat}
use Rattle.roll_session.specs.Headline.{words_of}
use Rattle.roll_session.specs.Seen.{Seen}
use Rattle.roll_wire.specs.Spelling.{are_offers, count_of, is_offer}
use Rattle.roll_wire.specs.declared.limits.TheConstants.{WORD_LIMIT}
use Rattle.roll_mesh.specs.Words.{offered_words, tell_words}
use Rattle.roll_mesh.specs.Groups.{first_of, is_even, AreAlike}
use Rattle.roll_mesh.proofs.Groups.{first_within, told_even}
use Rattle.roll_member.proofs.Inputs.{first_before, first_is, rest, rest_first, rest_next, rest_some}
use Rattle.roll_member.proofs.Known.{known_few}
use Rattle.roll_member.specs.Joined.{held, words_known, IsTied, Joined}
use Rattle.roll_member.specs.Taking.{is_first, shares}
use Rattle.roll_member.proofs.Holding.{same_places}
use Rattle.roll_member.specs.Telling.{queued, room_for, rooms, wanted as wanted_of, words_at, words_told, IsOfferOf, IsTold}
use Rattle.roll_mesh.specs.declared.packet.Packet.{Packet}

-- how many words an offer has, and each of several
abbrev pub size : Offer → ℕ
size offer = offer.end - offer.first

abbrev pub counts_of : List Offer → List ℕ
counts_of offers = map size offers

-- the room of an input's first word, and of another
pub rooms_first : (words p fits left now : ℕ) (room counts : List ℕ) → p < length room
    → p < length counts → is_first words p ≡ true → now ≡ min (get_or counts p 0) (left / words)
    → take (p + 1) (set room p now) ++ rooms words (p + 1) now (left - now * words) (drop (p + 1) counts)
    ≡ take p room ++ rooms words p fits left (drop p counts)
rooms_first words p fits left now room counts inside there does e =
    let later : List ℕ = drop (p + 1) counts in
    let next : rooms words p fits left (drop p counts) ≡ now ∷ rooms words (p + 1) now (left - now * words) later =
    at_drop_more (rooms words p fits left) counts p 0 there
    ∙ rw does (ap (λ n. n ∷ rooms words (p + 1) n (left - n * words) later) (sym e)) in
    ap (λ ns. ns ++ rooms words (p + 1) now (left - now * words) later) (take_more_set room p now inside)
    ∙ append_assoc (take p room) (now ∷ []) (rooms words (p + 1) now (left - now * words) later)
    ∙ ap (λ ns. take p room ++ ns) (sym next)

pub rooms_next : (words p fits left : ℕ) (room counts : List ℕ) → p < length room
    → p < length counts → is_first words p ≡ false
    → take (p + 1) (set room p fits) ++ rooms words (p + 1) fits left (drop (p + 1) counts)
    ≡ take p room ++ rooms words p fits left (drop p counts)
rooms_next words p fits left room counts inside there isnt =
    let later : List ℕ = drop (p + 1) counts in
    let next : rooms words p fits left (drop p counts) ≡ fits ∷ rooms words (p + 1) fits left later =
    at_drop_more (rooms words p fits left) counts p 0 there ∙ rw isnt refl in
    ap (λ ns. ns ++ rooms words (p + 1) fits left later) (take_more_set room p fits inside)
    ∙ append_assoc (take p room) (fits ∷ []) (rooms words (p + 1) fits left later)
    ∙ ap (λ ns. take p room ++ ns) (sym next)

-- what is kept for words of an input that are still to come
abbrev pub kept_for : (words place fits : ℕ) → ℕ
kept_for words p fits = if is_first words p then 0 else rest words p * fits

kept_next : (words p fits : ℕ) → 1 ≤ words → kept_for words (p + 1) fits + fits ≤ rest words p * fits
kept_next words p fits one = go (cases_Bool (is_first words (p + 1)))
  where
    go : (is_first words (p + 1) ≡ true) ⊎ (is_first words (p + 1) ≡ false)
        → kept_for words (p + 1) fits + fits ≤ rest words p * fits
    go (inl does) = rw does (omega (arith, mul-le-mul_right fits (rest_some words p one)))
    go (inr isnt) = rw isnt (omega (
      arith,
      ap (λ n. n * fits) (rest_next words p one isnt),
      add-mul (rest words (p + 1)) 1 fits,
    ))

-- what fits isn't more than there is room for
pub rooms_fit : (words p fits left : ℕ) (wanted : List ℕ) → 1 ≤ words
    → sum (rooms words p fits left wanted) ≤ left + kept_for words p fits
rooms_fit words p fits left [] one = omega arith
rooms_fit words p fits left (wanted ∷ more) one =
    go (λ fits left. rooms_fit words (p + 1) fits left more one) (cases_Bool (is_first words p))
  where
    go : ((fits left : ℕ) → sum (rooms words (p + 1) fits left more) ≤ left + kept_for words (p + 1) fits)
        → (is_first words p ≡ true) ⊎ (is_first words p ≡ false)
        → sum (rooms words p fits left (wanted ∷ more)) ≤ left + kept_for words p fits
    go later (inl does) =
        let now : ℕ = min wanted (left / words) in
        let after : List ℕ = rooms words (p + 1) now (left - now * words) more in
        rw does (omega (
          arith,
          sum_by-cons (λ (n : ℕ). n) now after,
          later now (left - now * words),
          kept_next words p now one,
          ap (λ n. n * now) (rest_first words p does),
          mul_comm words now,
          mul-le-mul_right {m = now} {n = left / words} words (omega arith),
          div-mul-le_self left words,
        ))
    go later (inr isnt) =
        let after : List ℕ = rooms words (p + 1) fits left more in
        rw isnt (omega (
          arith,
          sum_by-cons (λ (n : ℕ). n) fits after,
          later fits left,
          kept_next words p fits one,
        ))

pub length-rooms : (words p fits left : ℕ) (wanted : List ℕ)
    → length (rooms words p fits left wanted) ≡ length wanted
length-rooms words p fits left [] = refl
length-rooms words p fits left (wanted ∷ more) =
    go (λ fits left. length-rooms words (p + 1) fits left more) (is_first words p)
  where
    now : ℕ
    now = min wanted (left / words)

    go : ((fits left : ℕ) → length (rooms words (p + 1) fits left more) ≡ length more) → (b : Bool)
        → length (if b then now ∷ rooms words (p + 1) now (left - now * words) more
        else fits ∷ rooms words (p + 1) fits left more) ≡ suc (length more)
    go later true = ap suc (later now (left - now * words))
    go later false = ap suc (later fits left)

-- there is as much room for one word of an input as for the one before
rooms_copy : (words p fits left : ℕ) (wanted : List ℕ) (k : ℕ) → suc k < length wanted
    → is_first words (p + suc k) ≡ false
    → slice_index (rooms words p fits left wanted) (suc k)
    ≡ slice_index (rooms words p fits left wanted) k
rooms_copy words p fits left [] k l isnt = absurd (omega (arith, l))
rooms_copy words p fits left (wanted ∷ []) k l isnt = absurd (omega (arith, l))
rooms_copy words p fits left (wanted ∷ (next ∷ more)) zero l isnt = go (is_first words p)
  where
    now : ℕ
    now = min wanted (left / words)

    other : is_first words (p + 1) ≡ false
    other = let e : p + 1 ≡ p + suc zero = omega arith in ap (is_first words) e ∙ isnt

    second : (first room : ℕ) → slice_index (first ∷ rooms words (p + 1) first room (next ∷ more)) (suc zero)
        ≡ first
    second first room = rw other refl

    go : (b : Bool) → slice_index (if b then now ∷ rooms words (p + 1) now (left - now * words) (next ∷ more)
        else fits ∷ rooms words (p + 1) fits left (next ∷ more)) (suc zero)
        ≡ slice_index (if b then now ∷ rooms words (p + 1) now (left - now * words) (next ∷ more)
        else fits ∷ rooms words (p + 1) fits left (next ∷ more)) zero
    go true = second now (left - now * words)
    go false = second fits left
rooms_copy words p fits left (wanted ∷ (next ∷ more)) (suc k) l isnt =
    go (λ first room. rooms_copy words (p + 1) first room (next ∷ more) k (omega (arith, l))
    (let e : (p + 1) + suc k ≡ p + suc (suc k) = omega arith in ap (is_first words) e ∙ isnt)) (is_first words p)
  where
    now : ℕ
    now = min wanted (left / words)

    go : ((first room : ℕ) → slice_index (rooms words (p + 1) first room (next ∷ more)) (suc k)
        ≡ slice_index (rooms words (p + 1) first room (next ∷ more)) k) → (b : Bool)
        → slice_index (if b then now ∷ rooms words (p + 1) now (left - now * words) (next ∷ more)
        else fits ∷ rooms words (p + 1) fits left (next ∷ more)) (suc (suc k))
        ≡ slice_index (if b then now ∷ rooms words (p + 1) now (left - now * words) (next ∷ more)
        else fits ∷ rooms words (p + 1) fits left (next ∷ more)) (suc k)
    go later true = later now (left - now * words)
    go later false = later fits left

-- and so as for the first
pub rooms_alike : (words left : ℕ) (wanted : List ℕ) → 1 ≤ words → length wanted ≡ PLAYER_LIMIT
    → AreAlike words (slice_index (rooms words 0 0 left wanted))
rooms_alike words left wanted one many zero lt =
    let e : 0 ≡ first_of words 0 = omega (arith, first_within words 0) in
    ap (slice_index (rooms words 0 0 left wanted)) e
rooms_alike words left wanted one many (suc p) lt =
    go (rooms_alike words left wanted one many p (omega (arith, lt))) (cases_Bool (is_first words (suc p)))
  where
    go : slice_index (rooms words 0 0 left wanted) p
        ≡ slice_index (rooms words 0 0 left wanted) (first_of words p)
        → (is_first words (suc p) ≡ true) ⊎ (is_first words (suc p) ≡ false)
        → slice_index (rooms words 0 0 left wanted) (suc p)
        ≡ slice_index (rooms words 0 0 left wanted) (first_of words (suc p))
    go before (inl does) = ap (slice_index (rooms words 0 0 left wanted)) (sym (first_is words (suc p) does))
    go before (inr isnt) =
        let more : p + 1 ≡ suc p = omega arith in
        let none : 0 + suc p ≡ suc p = omega arith in
        rooms_copy words 0 0 left wanted p (omega (arith, lt, many)) (ap (is_first words) none ∙ isnt)
        ∙ before
        ∙ ap (slice_index (rooms words 0 0 left wanted))
        (sym (first_before words p one (ap (is_first words) more ∙ isnt)) ∙ ap (first_of words) more)

-- offers of no more than there is room for, place by place
sizes_fit : (offer : ℕ → Offer) (room : List ℕ) (a : ℕ)
    → ((k : ℕ) → size (offer (a + k)) ≤ slice_index room k)
    → count_of (map offer (range_with_len a (length room))) ≤ sum room
sizes_fit offer [] a h = omega arith
sizes_fit offer (n ∷ room) a h =
    let here : size (offer a) ≤ n =
    subst (λ (k : ℕ). size (offer k) ≤ n) (omega arith) (h 0) in
    let later : (k : ℕ) → size (offer ((a + 1) + k)) ≤ slice_index room k =
    λ k. subst (λ (j : ℕ). size (offer j) ≤ slice_index room k) (omega arith) (h (suc k)) in
    omega (
      arith,
      here,
      sum_by-cons size (offer a) (map offer (range_with_len (a + 1) (length room))),
      sum_by-cons (λ (k : ℕ). k) n room,
      sizes_fit offer room (a + 1) later,
    )

-- an offer is of words that a machine has, and of no more than there is room for
record IsFit (has room : ℕ) (offer : Offer) : Type 0 where
  forward : offer.first ≤ offer.end
  there : offer.end ≤ has
  fits : size offer ≤ room

offer_fits : (seat : Seat) (machine : Machine) (m : ℕ) (room : List ℕ) (p : ℕ)
    → IsFit (slice_index machine.has p) (slice_index room p) (offer_of seat machine m room p)
unfolding offer_of
offer_fits seat machine m room p =
    go ((owner_of seat p == seat.me) || is_orphan seat machine.gone p)
  where
    first : ℕ
    first = min (said_by machine m p) (slice_index machine.has p)

    go : (b : Bool)
        → IsFit (slice_index machine.has p) (slice_index room p)
        (if b then record {
          first = first;
          end = min (first + slice_index room p) (slice_index machine.has p);
        } else none_offered)
    go true = record { forward = omega arith; there = omega arith; fits = omega arith }
    go false = record { forward = omega arith; there = omega arith; fits = omega arith }

none_kept : (words : ℕ) → kept_for words 0 0 ≡ 0
none_kept words = go (is_first words 0)
  where
    go : (b : Bool) → (if b then 0 else rest words 0 * 0) ≡ 0
    go true = refl
    go false = mul-zero (rest words 0)

-- a packet has room for what a machine tells
pub told_fits : (mesh : Seated) (m : ℕ) → 1 ≤ mesh.seat.words
    → count_of (tell mesh.seat m (room_for mesh m) mesh.machine).offers ≤ WORD_LIMIT
unfolding tell at_places
told_fits mesh m one =
    let offers : List Offer = (wanted_of mesh m).offers in
    let room : List ℕ = room_for mesh m in
    let offer : ℕ → Offer = offer_of mesh.seat mesh.machine m room in
    let as_many : length room ≡ length mesh.machine.has =
    length-rooms mesh.seat.words 0 0 WORD_LIMIT (counts_of offers) ∙ length-map offers size
    ∙ length_places (offer_of mesh.seat mesh.machine m (replicate PLAYER_LIMIT WORD_LIMIT))
    mesh.machine.has in
    let each : (k : ℕ) → size (offer (0 + k)) ≤ slice_index room k =
    λ k. subst (λ (p : ℕ). size (offer p) ≤ slice_index room k) (omega arith)
    (offer_fits mesh.seat mesh.machine m room k).fits in
    let all : count_of (map offer (range_with_len 0 (length room))) ≤ WORD_LIMIT =
    omega (
      arith,
      sizes_fit offer room 0 each,
      rooms_fit mesh.seat.words 0 0 WORD_LIMIT (counts_of offers) one,
      none_kept mesh.seat.words,
    ) in
    subst (λ (n : ℕ). count_of (map offer (range_with_len 0 n)) ≤ WORD_LIMIT) as_many all

-- what a machine would be told can be counted
pub wanted_few : (mesh : Seated) (m : ℕ)
    → length (wanted_of mesh m).offers ≡ PLAYER_LIMIT → queued mesh m ≤ PLAYER_LIMIT * WORD_LIMIT
unfolding tell at_places
wanted_few mesh m many =
    let as_many : length mesh.machine.has ≡ PLAYER_LIMIT =
    sym (length_places (offer_of mesh.seat mesh.machine m (replicate PLAYER_LIMIT WORD_LIMIT)) mesh.machine.has) ∙ many in
    let room : List ℕ = replicate PLAYER_LIMIT WORD_LIMIT in
    let offer : ℕ → Offer = offer_of mesh.seat mesh.machine m room in
    let each : (k : ℕ) → size (offer (0 + k)) ≤ slice_index room k =
    λ k. subst (λ (p : ℕ). size (offer p) ≤ slice_index room k) (omega arith)
    (offer_fits mesh.seat mesh.machine m room k).fits in
    subst (λ (n : ℕ). count_of (map offer (range_with_len 0 n)) ≤ PLAYER_LIMIT * WORD_LIMIT) (sym as_many)
    (sizes_fit offer room 0 each)

-- what a member tells is there
pub told_there : (m : Joined) → IsTied m.session m.mesh → (machine : ℕ) (room : List ℕ) (p : ℕ)
    → p < PLAYER_LIMIT
    → IsOfferOf (words_of m.session (p + 1))
    (offer_at (tell m.mesh.seat machine room m.mesh.machine) p)
unfolding tell
told_there m tied machine room p l = go (cases_lt p (length m.mesh.machine.has))
  where
    offer : ℕ → Offer
    offer = offer_of m.mesh.seat m.mesh.machine machine room

    go : (p < length m.mesh.machine.has) ⊎ (length m.mesh.machine.has ≤ p)
        → IsOfferOf (words_of m.session (p + 1))
        (slice_index_or (at_places offer m.mesh.machine.has) p none_offered)
    go (inl l') =
        let fit = offer_fits m.mesh.seat m.mesh.machine machine room p in
        rw (at_place offer m.mesh.machine.has p none_offered l')
        (record {
          forward = fit.forward;
          there = omega (
            arith,
            fit.there,
            (tied.players p l).count,
            known_few m.session m.mesh.seat p tied.whole.word,
          );
        })
    go (inr g) =
        rw (past_places offer m.mesh.machine.has p none_offered g)
        (record { forward = omega arith; there = omega arith })

length-words_at : (words : List ℕ) (offer : Offer) → IsOfferOf words offer
    → length (words_at words offer) ≡ size offer
length-words_at words offer h =
    omega (
      arith,
      length-take (size offer) (drop offer.first words),
      length-drop offer.first words,
      h.forward,
      h.there,
    )

told_from : (s : Seen) (offers : List Offer) (p : ℕ)
    → ((k : ℕ) → k < length offers
    → IsOfferOf (words_of s ((p + k) + 1)) (slice_index_or offers k none_offered))
    → length (words_told s offers p) ≡ count_of offers
told_from s [] p h = refl
told_from s (offer ∷ offers) p h =
    let here : IsOfferOf (words_of s (p + 1)) offer =
    subst (λ (k : ℕ). IsOfferOf (words_of s (k + 1)) offer) (omega arith) (h 0 (omega arith)) in
    let later : (k : ℕ) → k < length offers
    → IsOfferOf (words_of s (((p + 1) + k) + 1)) (slice_index_or offers k none_offered) =
    λ k l. subst (λ (j : ℕ). IsOfferOf (words_of s (j + 1)) (slice_index_or offers k none_offered))
    (omega arith) (h (suc k) (omega arith)) in
    omega (
      arith,
      length-append (words_at (words_of s (p + 1)) offer) (words_told s offers (p + 1)),
      length-words_at (words_of s (p + 1)) offer here,
      told_from s offers (p + 1) later,
      sum_by-cons size offer offers,
    )

-- as many words are told as are offered
pub told_count : (s : Seen) (offers : List Offer)
    → ((p : ℕ) → p < length offers
    → IsOfferOf (words_of s (p + 1)) (slice_index_or offers p none_offered))
    → length (words_told s offers 0) ≡ count_of offers
told_count s offers h =
    told_from s offers 0
    (λ p l. subst (λ (k : ℕ). IsOfferOf (words_of s (k + 1)) (slice_index_or offers p none_offered))
    (omega arith) (h p l))

-- all words are told once there is no further offer
pub told_all : (s : Seen) (offers : List Offer) (place : ℕ) (words : List ℕ)
    → length offers ≤ place
    → words ++ words_told s (drop place offers) place ≡ words_told s offers 0
    → words ≡ words_told s offers 0
told_all s offers place words past so_far =
    sym (append-nil words)
    ∙ ap (λ ws. words ++ ws) (sym (at_drop_all (λ os. words_told s os place) offers place past))
    ∙ so_far

-- offers that go on, and are few enough together, are spelled
told_spelled : (offers : List Offer)
    → ((p : ℕ) → p < length offers
    → (slice_index_or offers p none_offered).first ≤ (slice_index_or offers p none_offered).end)
    → count_of offers ≤ WORD_LIMIT → are_offers offers ≡ true
told_spelled [] h few = refl
told_spelled (offer ∷ offers) h few =
    let rest : count_of (offer ∷ offers) ≡ size offer + count_of offers = sum_by-cons size offer offers in
    let one : is_offer offer ≡ true =
    rw (
      le-leb offer.first offer.end (h 0 (omega arith)),
      lt-ltb (size offer) 256 (omega (arith, rest, few)),
    ) refl in
    rw one (told_spelled offers (λ p l. h (suc p) (omega (arith, l))) (omega (arith, rest, few)))

-- the words of each player that are told, from a place on
abbrev pub told_each : Seen → List Offer → ℕ → List (List ℕ)
told_each s [] p = []
told_each s (offer ∷ offers) p = words_at (words_of s (p + 1)) offer ∷ told_each s offers (p + 1)

each_many : (s : Seen) (offers : List Offer) (p : ℕ) → length (told_each s offers p) ≡ length offers
each_many s [] p = refl
each_many s (offer ∷ offers) p = ap suc (each_many s offers (p + 1))

each_at : (s : Seen) (offers : List Offer) (p k : ℕ) → k < length offers
    → slice_index_or (told_each s offers p) k []
    ≡ words_at (words_of s ((p + k) + 1)) (slice_index_or offers k none_offered)
each_at s [] p k l = absurd (omega (arith, l))
each_at s (offer ∷ offers) p zero l =
    let e : p ≡ p + 0 = omega arith in ap (λ n. words_at (words_of s (n + 1)) offer) e
each_at s (offer ∷ offers) p (suc k) l =
    let e : (p + 1) + k ≡ p + suc k = omega arith in
    each_at s offers (p + 1) k (omega (arith, l))
    ∙ ap (λ n. words_at (words_of s (n + 1)) (slice_index_or offers k none_offered)) e

-- they are shared out again as they were told
told_shares : (s : Seen) (offers : List Offer) (p : ℕ)
    → ((k : ℕ) → k < length offers
    → IsOfferOf (words_of s ((p + k) + 1)) (slice_index_or offers k none_offered))
    → shares offers (words_told s offers p) ≡ told_each s offers p
told_shares s [] p h = refl
told_shares s (offer ∷ offers) p h =
    let first : IsOfferOf (words_of s (p + 1)) offer =
    (let e : p + 0 ≡ p = omega arith in
    subst (λ n. IsOfferOf (words_of s (n + 1)) offer) e (h 0 (omega arith))) in
    let mine : List ℕ = words_at (words_of s (p + 1)) offer in
    let rest : List ℕ = words_told s offers (p + 1) in
    let many : length mine ≡ offer.end - offer.first =
    omega (
      arith,
      first.forward,
      first.there,
      length-take (offer.end - offer.first) (drop offer.first (words_of s (p + 1))),
      length-drop offer.first (words_of s (p + 1)),
    ) in
    ap (λ ws. ws ∷ shares offers (drop (offer.end - offer.first) (mine ++ rest)))
    (take_at mine rest (offer.end - offer.first) many)
    ∙ ap (λ ws. mine ∷ shares offers ws) (drop_at mine rest (offer.end - offer.first) many)
    ∙ ap (λ wss. mine ∷ wss)
    (told_shares s offers (p + 1) (λ k l. (let e : p + suc k ≡ (p + 1) + k = omega arith in
    subst (λ n. IsOfferOf (words_of s (n + 1)) (slice_index_or offers k none_offered)) e (h (suc k) (omega (arith, l))))))

-- an offer of words that a mesh has
record IsKnown (has : ℕ) (offer : Offer) : Type 0 where
  forward : offer.first ≤ offer.end
  there : offer.end ≤ has

-- what is told is known
told_known : (mesh : Seated) (machine : ℕ) (room : List ℕ) (k : ℕ) → k < length mesh.machine.has
    → IsKnown (slice_index mesh.machine.has k) (offer_at (tell mesh.seat machine room mesh.machine) k)
unfolding tell
told_known mesh machine room k l =
    let fit = offer_fits mesh.seat mesh.machine machine room k in
    rw (at_place (offer_of mesh.seat mesh.machine machine room) mesh.machine.has k none_offered l)
    (record { forward = fit.forward; there = fit.there })

told_many : (seat : Seat) (m : ℕ) (room : List ℕ) (machine : Machine)
    → length (tell seat m room machine).offers ≡ length machine.has
unfolding tell
told_many seat m room machine = length_places (offer_of seat machine m room) machine.has

known_offered : (words : List ℕ) (has : ℕ) (offer : Offer) → IsKnown has offer
    → offered_words offer (take has words) ≡ words_at words offer
known_offered words has offer h =
    let more : ℕ = has - offer.first in
    let e : has ≡ offer.first + more = omega (arith, h.forward, h.there) in
    ap (λ n. take (offer.end - offer.first) (drop offer.first (take n words))) e
    ∙ ap (λ ws. take (offer.end - offer.first) ws) (drop-take offer.first more words)
    ∙ take-take (offer.end - offer.first) more (drop offer.first words) (omega (arith, h.there))

-- a packet and its words, as a holder tells them
parcel_of : (m : Joined) (machine : ℕ) (packet : Packet) (words : List ℕ)
    → packet ≡ tell m.mesh.seat machine (room_for m.mesh machine) m.mesh.machine
    → shares packet.offers words
    ≡ at_places (λ p. words_at (words_of m.session (p + 1)) (offer_at packet p)) packet.offers
    → length packet.offers ≡ length m.mesh.machine.has
    → ((k : ℕ) → k < length m.mesh.machine.has
    → IsKnown (slice_index m.mesh.machine.has k) (offer_at packet k))
    → record { packet = packet; words = shares packet.offers words }
    ≡ tell_words m.mesh.seat machine (room_for m.mesh machine) (held m)
unfolding tell_words
parcel_of m machine packet words is shared many fits =
    let has : List ℕ = m.mesh.machine.has in
    let here : ℕ → List ℕ = λ p. words_of m.session (p + 1) in
    let same = same_places (λ p. words_at (here p) (offer_at packet p))
    (λ p. offered_words (offer_at packet p) (slice_index_or (at_places (words_known m) has) p []))
    packet.offers has many
    (λ k l. sym (ap (λ ws. offered_words (offer_at packet k) ws) (at_place (words_known m) has k [] l)
    ∙ known_offered (here k) (slice_index has k) (offer_at packet k) (fits k l))) in
    ap (λ wss. record { packet = packet; words = wss }) (shared ∙ same)
    ∙ ap (λ p. record {
      packet = p;
      words = at_places (λ q. offered_words (offer_at p q) (slice_index_or (at_places (words_known m) has) q []))
          has;
    }) is

-- what is told has as many words as it offers, and can be spelled
pub is_told : (m : Joined) → IsTied m.session m.mesh → (machine : ℕ) (packet : Packet) (words : List ℕ)
    → packet ≡ tell m.mesh.seat machine (room_for m.mesh machine) m.mesh.machine
    → words ≡ words_told m.session packet.offers 0
    → length packet.offers ≤ PLAYER_LIMIT → IsTold m machine packet words
is_told m tied machine packet words is are few = record {
  packet_is = is;
  words_are = are;
  parcel = parcel_of m machine packet words is
      (ap (λ ws. shares packet.offers ws) are
      ∙ told_shares m.session packet.offers 0 (λ k l. (let e : k ≡ 0 + k = omega arith in
      subst (λ n. IsOfferOf (words_of m.session (n + 1)) (offer_at packet k)) e (there k (omega (arith, l, few)))))
      ∙ filled (λ p. words_at (words_of m.session (p + 1)) (offer_at packet p)) packet.offers
      (told_each m.session packet.offers 0) [] (each_many m.session packet.offers 0)
      (λ k l. each_at m.session packet.offers 0 k l
      ∙ (let e : 0 + k ≡ k = omega arith in
      ap (λ n. words_at (words_of m.session (n + 1)) (offer_at packet k)) e)))
      (ap (λ (os : List Offer). length os) (ap (λ (p : Packet). p.offers) is)
      ∙ told_many m.mesh.seat machine (room_for m.mesh machine) m.mesh.machine) known;
  even = ap (is_even m.mesh.seat) is ∙ told_even m.mesh.seat machine (room_for m.mesh machine)
      m.mesh.machine tied.whole.grouped (record {
        counts = tied.whole.counts;
        views = tied.whole.views;
        rooms = rooms_alike m.mesh.seat.words WORD_LIMIT (counts_of (wanted_of m.mesh machine).offers)
            tied.whole.word (length-map (wanted_of m.mesh machine).offers size
            ∙ told_many m.mesh.seat machine (replicate PLAYER_LIMIT WORD_LIMIT) m.mesh.machine ∙ tied.sized);
        sized = omega (arith, tied.sized);
      });
  whole = rw (
    told_spelled packet.offers (λ p l. (there p (omega (arith, l, few))).forward) fits,
    eq-eqb (count_of packet.offers) (length words) (sym count),
    le-leb (length words) WORD_LIMIT (omega (arith, count, fits)),
  ) refl;
}
  where
    there : (p : ℕ) → p < PLAYER_LIMIT → IsOfferOf (words_of m.session (p + 1)) (offer_at packet p)
    there p l = rw is (told_there m tied machine (room_for m.mesh machine) p l)

    fits : count_of packet.offers ≤ WORD_LIMIT
    fits = subst (λ (p : Packet). count_of p.offers ≤ WORD_LIMIT) (sym is)
        (told_fits m.mesh machine tied.whole.word)

    known : (k : ℕ) → k < length m.mesh.machine.has
        → IsKnown (slice_index m.mesh.machine.has k) (offer_at packet k)
    known k l = subst (λ (p : Packet). IsKnown (slice_index m.mesh.machine.has k) (offer_at p k)) (sym is)
        (told_known m.mesh machine (room_for m.mesh machine) k l)

    count : length words ≡ count_of packet.offers
    count = ap (λ (ws : List ℕ). length ws) are
        ∙ told_count m.session packet.offers (λ p l. there p (omega (arith, l, few)))
