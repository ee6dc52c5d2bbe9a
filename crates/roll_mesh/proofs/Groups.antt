-- What is alike at the words of an input stays so.
use Rattle.std.proofs.Common.{◌≡◌, ℕ, ◌+◌, ◌<◌, ◌≤◌, List, length, refl, sym, ◌∙◌, ap, Bool, true, false, arith, inl, inr, Option, Some, None}
use Rattle.std.specs.Prelude.{◌⊎◌, slice_index, slice_index_or, slice_set, if◌then◌else◌, ◌&&◌, ◌||◌, ◌==◌, nat_le, is_none, max, min}
use Rattle.std.proofs.Math.Nat.{div-mul-le_self, div-one}
use Rattle.std.proofs.lemmas.Bool.{eqb-true, eq-eqb, and_parts, and_from}
use Rattle.roll_mesh.specs.declared.limits.TheConstants.{PLAYER_LIMIT}
use Rattle.roll_mesh.specs.declared.machine.Machine.{Machine}
use Rattle.roll_mesh.specs.declared.packet.Offer.{Offer}
use Rattle.roll_mesh.specs.declared.packet.Packet.{Packet}
use Rattle.roll_mesh.specs.declared.packet.View.{View}
use Rattle.roll_mesh.specs.declared.seat.Seat.{Seat}
use Rattle.roll_mesh.specs.Groups.{first_of, is_grouped_at, are_grouped, is_even_at, is_even, AreAlike, AreEven, AreToldAlike}
use Rattle.roll_mesh.specs.Machines.{at_places, gone_after, has_after, is_believed, is_in, is_news, left, left_after, left_at, may_leave, none_offered, offer_at, offer_of, owner_of, said_by, taken, tell, told_after, told_by}
use Rattle.roll_mesh.proofs.Places.{all_below, all_until, at_place, set_or}

-- the first word of an input is no later player
pub first_within : (words p : ℕ) → first_of words p ≤ p
unfolding first_of
first_within words p = div-mul-le_self p words

pub first_below : (words p : ℕ) → p < PLAYER_LIMIT → first_of words p < PLAYER_LIMIT
first_below words p lt = omega (arith, first_within words p)

-- each player is its input's first word if that has no other
pub first_alone : (p : ℕ) → first_of 1 p ≡ p
unfolding first_of
first_alone p = omega (arith, div-one p)

pub alone_alike : {X : Type 0} (at : ℕ → X) → AreAlike 1 at
alone_alike at p lt = ap at (sym (first_alone p))

pub owners_alike : (seat : Seat) → are_grouped seat ≡ true → AreAlike seat.words (owner_of seat)
unfolding are_grouped
owners_alike seat h p lt =
    let at = all_below (is_grouped_at seat) PLAYER_LIMIT p h lt in
    eqb-true (owner_of seat p) (owner_of seat (first_of seat.words p)) (and_parts
    (owner_of seat p == owner_of seat (first_of seat.words p))
    (nat_le seat.machines (owner_of seat p) || nat_le (first_of seat.words p + seat.words) PLAYER_LIMIT) at).0

-- ---- a packet that has the same of all words of an input

pub record Evenly (seat : Seat) (packet : Packet) : Type 0 where
  pub counts : AreAlike seat.words (slice_index packet.view.has)
  pub firsts : AreAlike seat.words (λ p. (offer_at packet p).first)
  pub ends : AreAlike seat.words (λ p. (offer_at packet p).end)

abbrev same_at : Seat → (ℕ → ℕ) → ℕ → Bool
same_at seat at p = at p == at (first_of seat.words p)

abbrev first_in : Packet → ℕ → ℕ
first_in packet p = (offer_at packet p).first

abbrev end_in : Packet → ℕ → ℕ
end_in packet p = (offer_at packet p).end

pub evenly : (seat : Seat) (packet : Packet) → is_even seat packet ≡ true → Evenly seat packet
unfolding is_even
evenly seat packet h = record {
  counts = λ p lt. equal (slice_index packet.view.has) p (parts p lt).0;
  firsts = λ p lt. equal (first_in packet) p (parts p lt).1.0;
  ends = λ p lt. equal (end_in packet) p (parts p lt).1.1;
}
  where
    parts : (p : ℕ) → p < PLAYER_LIMIT → (same_at seat (slice_index packet.view.has) p ≡ true)
        × ((same_at seat (first_in packet) p ≡ true) × (same_at seat (end_in packet) p ≡ true))
    parts p lt =
        let all = and_parts (same_at seat (slice_index packet.view.has) p
        && same_at seat (first_in packet) p) (same_at seat (end_in packet) p)
        (all_below (is_even_at seat packet) PLAYER_LIMIT p h lt) in
        let two = and_parts (same_at seat (slice_index packet.view.has) p)
        (same_at seat (first_in packet) p) all.0 in
        (two.0, (two.1, all.1))

    equal : (at : ℕ → ℕ) (p : ℕ) → same_at seat at p ≡ true → at p ≡ at (first_of seat.words p)
    equal at p e = eqb-true (at p) (at (first_of seat.words p)) e

pub even_of : (seat : Seat) (packet : Packet) → Evenly seat packet → is_even seat packet ≡ true
unfolding is_even
even_of seat packet e =
    all_until (is_even_at seat packet) PLAYER_LIMIT PLAYER_LIMIT (omega arith)
    (λ p lt. and_from (same_at seat (slice_index packet.view.has) p
    && same_at seat (first_in packet) p) (same_at seat (end_in packet) p)
    (and_from (same_at seat (slice_index packet.view.has) p) (same_at seat (first_in packet) p)
    (same (slice_index packet.view.has) p (e.counts p lt))
    (same (first_in packet) p (e.firsts p lt))) (same (end_in packet) p (e.ends p lt)))
  where
    same : (at : ℕ → ℕ) (p : ℕ) → at p ≡ at (first_of seat.words p) → same_at seat at p ≡ true
    same at p h = eq-eqb (at p) (at (first_of seat.words p)) h

-- ---- what is told

abbrev offer_with : Seat → Machine → (owner said has room : ℕ) → Offer
offer_with seat machine owner said has room =
    let first = min said has in
    if (owner == seat.me) || is_in machine.gone owner
    then record { first = first; end = min (first + room) has } else none_offered

offer_is : (seat : Seat) (machine : Machine) (m : ℕ) (room : List ℕ) (p : ℕ)
    → offer_of seat machine m room p
    ≡ offer_with seat machine (owner_of seat p) (said_by machine m p) (slice_index machine.has p)
    (slice_index room p)
unfolding offer_of
offer_is seat machine m room p = refl

said_alike : (words : ℕ) (machine : Machine) (m : ℕ) → AreToldAlike words machine
    → AreAlike words (said_by machine m)
said_alike words machine m told p lt = go (told_by machine m) refl
  where
    go : (o : Option View) → told_by machine m ≡ o
        → said_by machine m p ≡ said_by machine m (first_of words p)
    go None e = rw e refl
    go (Some view) e = rw e (told m view e p lt)

pub offers_alike : (seat : Seat) (machine : Machine) (m : ℕ) (room : List ℕ)
    → are_grouped seat ≡ true → AreEven seat machine room
    → AreAlike seat.words (offer_of seat machine m room)
offers_alike seat machine m room grouped even p lt =
    let q = first_of seat.words p in
    offer_is seat machine m room p
    ∙ (ap (λ o. offer_with seat machine o (said_by machine m p) (slice_index machine.has p)
    (slice_index room p)) (owners_alike seat grouped p lt)
    ∙ (ap (λ o. offer_with seat machine (owner_of seat q) o (slice_index machine.has p)
    (slice_index room p)) (said_alike seat.words machine m even.views p lt)
    ∙ (ap (λ o. offer_with seat machine (owner_of seat q) (said_by machine m q) o
    (slice_index room p)) (even.counts p lt)
    ∙ (ap (λ o. offer_with seat machine (owner_of seat q) (said_by machine m q)
    (slice_index machine.has q) o) (even.rooms p lt) ∙ sym (offer_is seat machine m room q)))))

pub told_even : (seat : Seat) (m : ℕ) (room : List ℕ) (machine : Machine)
    → are_grouped seat ≡ true → AreEven seat machine room
    → is_even seat (tell seat m room machine) ≡ true
unfolding tell
told_even seat m room machine grouped even = even_of seat (tell seat m room machine) (record {
  counts = counts;
  firsts = λ p lt. ap (λ (o : Offer). o.first) (alike p lt);
  ends = λ p lt. ap (λ (o : Offer). o.end) (alike p lt);
})
  where
    counts : AreAlike seat.words (slice_index (tell seat m room machine).view.has)
    counts = even.counts

    at : (p : ℕ) → p < PLAYER_LIMIT
        → offer_at (tell seat m room machine) p ≡ offer_of seat machine m room p
    at p lt = at_place (offer_of seat machine m room) machine.has p none_offered
        (omega (arith, even.sized))

    alike : (p : ℕ) → p < PLAYER_LIMIT → offer_at (tell seat m room machine) p
        ≡ offer_at (tell seat m room machine) (first_of seat.words p)
    alike p lt = at p lt ∙ (offers_alike seat machine m room grouped even p lt
        ∙ sym (at (first_of seat.words p) (first_below seat.words p lt)))

-- ---- what is heard

abbrev has_with : List Bool → Packet → (left : Option ℕ) → (owner has first end : ℕ) → ℕ
has_with gone packet left owner has first end =
    if is_none left && ((owner == packet.sender)
    || (is_in gone owner && is_in packet.view.gone owner)) && nat_le first has
    then max has end else has

has_is : (seat : Seat) (gone : List Bool) (machine : Machine) (packet : Packet) (p : ℕ)
    → has_after seat gone machine packet p
    ≡ has_with gone packet (left_at machine p) (owner_of seat p) (slice_index machine.has p)
    (offer_at packet p).first (offer_at packet p).end
unfolding has_after is_believed
has_is seat gone machine packet p = refl

pub has_alike : (seat : Seat) (gone : List Bool) (machine : Machine) (packet : Packet)
    → are_grouped seat ≡ true → AreAlike seat.words (slice_index machine.has)
    → AreAlike seat.words (left_at machine) → is_even seat packet ≡ true
    → AreAlike seat.words (has_after seat gone machine packet)
has_alike seat gone machine packet grouped has left even p lt =
    let q = first_of seat.words p in
    let e = evenly seat packet even in
    has_is seat gone machine packet p
    ∙ (ap (λ o. has_with gone packet o (owner_of seat p) (slice_index machine.has p)
    (offer_at packet p).first (offer_at packet p).end) (left p lt)
    ∙ (ap (λ o. has_with gone packet (left_at machine q) o (slice_index machine.has p)
    (offer_at packet p).first (offer_at packet p).end) (owners_alike seat grouped p lt)
    ∙ (ap (λ o. has_with gone packet (left_at machine q) (owner_of seat q) o
    (offer_at packet p).first (offer_at packet p).end) (has p lt)
    ∙ (ap (λ o. has_with gone packet (left_at machine q) (owner_of seat q)
    (slice_index machine.has q) o (offer_at packet p).end) (e.firsts p lt)
    ∙ (ap (λ o. has_with gone packet (left_at machine q) (owner_of seat q)
    (slice_index machine.has q) (offer_at packet q).first o) (e.ends p lt)
    ∙ sym (has_is seat gone machine packet q))))))

pub taken_alike : (seat : Seat) (machine : Machine) (packet : Packet)
    → are_grouped seat ≡ true → PLAYER_LIMIT ≤ length machine.has
    → AreAlike seat.words (slice_index machine.has) → AreAlike seat.words (left_at machine)
    → is_even seat packet ≡ true
    → AreAlike seat.words (slice_index (taken seat packet machine).has)
unfolding taken
taken_alike seat machine packet grouped sized has left even p lt =
    at p lt ∙ (has_alike seat (gone_after seat machine packet) machine packet grouped has left even p lt
    ∙ sym (at (first_of seat.words p) (first_below seat.words p lt)))
  where
    at : (p : ℕ) → p < PLAYER_LIMIT → slice_index
        (at_places (has_after seat (gone_after seat machine packet) machine packet) machine.has) p
        ≡ has_after seat (gone_after seat machine packet) machine packet p
    at p lt = at_place (has_after seat (gone_after seat machine packet) machine packet) machine.has
        p 0 (omega (arith, sized))

pub views_alike : (seat : Seat) (machine : Machine) (packet : Packet)
    → AreToldAlike seat.words machine → is_even seat packet ≡ true
    → AreToldAlike seat.words (taken seat packet machine)
unfolding taken told_after
views_alike seat machine packet told even m view e = go (is_news machine packet) e
  where
    sent : Some packet.view ≡ Some view → AreAlike seat.words (slice_index view.has)
    sent is =
        let v : packet.view ≡ view = cc is in
        λ p lt. ap (λ (w : View). slice_index w.has p) (sym v)
        ∙ ((evenly seat packet even).counts p lt
        ∙ ap (λ (w : View). slice_index w.has (first_of seat.words p)) v)

    either : (told_by machine m ≡ Some view) ⊎ ((m ≡ packet.sender) × (Some packet.view ≡ Some view))
        → AreAlike seat.words (slice_index view.has)
    either (inl was) = told m view was
    either (inr is) = sent is.1

    go : (b : Bool) → slice_index_or
        (if b then slice_set machine.told packet.sender (Some packet.view) else machine.told) m None
        ≡ Some view → AreAlike seat.words (slice_index view.has)
    go true h = either (set_or machine.told packet.sender m (Some packet.view) None (Some view) h)
    go false h = told m view h

-- ---- who leaves

abbrev left_with : List Bool → (left : Option ℕ) → (owner has : ℕ) → Option ℕ
left_with gone left owner has = if is_none left && is_in gone owner then Some has else left

left_is : (seat : Seat) (machine : Machine) (p : ℕ) → left_after seat machine p
    ≡ left_with machine.gone (left_at machine p) (owner_of seat p) (slice_index machine.has p)
unfolding left_after
left_is seat machine p = refl

after_alike : (seat : Seat) (machine : Machine) → are_grouped seat ≡ true
    → AreAlike seat.words (slice_index machine.has) → AreAlike seat.words (left_at machine)
    → AreAlike seat.words (left_after seat machine)
after_alike seat machine grouped has were p lt =
    let q = first_of seat.words p in
    left_is seat machine p
    ∙ (ap (λ o. left_with machine.gone o (owner_of seat p) (slice_index machine.has p)) (were p lt)
    ∙ (ap (λ o. left_with machine.gone (left_at machine q) o (slice_index machine.has p))
    (owners_alike seat grouped p lt)
    ∙ (ap (λ o. left_with machine.gone (left_at machine q) (owner_of seat q) o) (has p lt)
    ∙ sym (left_is seat machine q))))

pub left_alike : (seat : Seat) (machine : Machine) → are_grouped seat ≡ true
    → PLAYER_LIMIT ≤ length machine.left → AreAlike seat.words (slice_index machine.has)
    → AreAlike seat.words (left_at machine) → AreAlike seat.words (left_at (left seat machine))
unfolding left
left_alike seat machine grouped sized has were p lt = go (may_leave seat machine)
  where
    at : (q : ℕ) → q < PLAYER_LIMIT
        → slice_index_or (at_places (left_after seat machine) machine.left) q None
        ≡ left_after seat machine q
    at q below = at_place (left_after seat machine) machine.left q None (omega (arith, sized))

    go : (b : Bool) → left_at (if b then record machine {
      left = at_places (left_after seat machine) machine.left;
    } else machine) p ≡ left_at (if b then record machine {
      left = at_places (left_after seat machine) machine.left;
    } else machine) (first_of seat.words p)
    go true = at p lt ∙ (after_alike seat machine grouped has were p lt
        ∙ sym (at (first_of seat.words p) (first_below seat.words p lt)))
    go false = were p lt
