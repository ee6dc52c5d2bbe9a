-- What is told, as it is sent: offers of no words are left out.
use Rattle.std.proofs.Common.{◌≡◌, ◌-◌, ℕ, List, [], ◌∷◌, Bool, true, false, map, refl, arith}
use Rattle.std.specs.Prelude.{◌==◌, ◌&&◌, length, nat_le, if◌then◌else◌}
use Rattle.std.proofs.lemmas.Bool.{and_from, and_parts, eqb-true}
use Rattle.std.proofs.lemmas.List.Sums.{sum_by-cons}
use Rattle.roll_mesh.specs.Machines.{kept_offer, none_offered}
use Rattle.roll_mesh.specs.declared.packet.Offer.{Offer}
use Rattle.roll_wire.specs.Spelling.{are_offers, count_of, is_offer}
use Rattle.roll_wire.specs.declared.limits.TheConstants.{WORD_LIMIT}

abbrev pub size : Offer → ℕ
size o = o.end - o.first

pub same_size : (o : Offer) → size (kept_offer o) ≡ size o
same_size o = go (o.first == o.end) refl
  where
    go : (b : Bool) → (o.first == o.end) ≡ b → size (if b then none_offered else o) ≡ size o
    go true e = let same = eqb-true o.first o.end e in omega (arith, same)
    go false e = refl

pub same_count : (os : List Offer) → count_of (map kept_offer os) ≡ count_of os
same_count [] = refl
same_count (o ∷ os) =
    omega (
      arith,
      sum_by-cons size (kept_offer o) (map kept_offer os),
      sum_by-cons size o os,
      same_size o,
      same_count os,
    )

still_offer : (o : Offer) → is_offer o ≡ true → is_offer (kept_offer o) ≡ true
still_offer o h = go (o.first == o.end)
  where
    go : (b : Bool) → is_offer (if b then none_offered else o) ≡ true
    go true = refl
    go false = h

still_offers : (os : List Offer) → are_offers os ≡ true → are_offers (map kept_offer os) ≡ true
still_offers [] h = refl
still_offers (o ∷ os) h =
    let both = and_parts (is_offer o) (are_offers os) h in
    and_from (is_offer (kept_offer o)) (are_offers (map kept_offer os)) (still_offer o both.0)
    (still_offers os both.1)

-- and the words are as many as are offered
pub still_whole : (os : List Offer) (words : List ℕ)
    → (are_offers os && (count_of os == length words) && nat_le (length words) WORD_LIMIT) ≡ true
    → (are_offers (map kept_offer os) && (count_of (map kept_offer os) == length words)
    && nat_le (length words) WORD_LIMIT) ≡ true
still_whole os words h =
    let outer = and_parts (are_offers os && (count_of os == length words)) (nat_le (length words) WORD_LIMIT) h in
    let inner = and_parts (are_offers os) (count_of os == length words) outer.0 in
    rw (same_count os) (and_from (are_offers (map kept_offer os) && (count_of os == length words))
    (nat_le (length words) WORD_LIMIT)
    (and_from (are_offers (map kept_offer os)) (count_of os == length words) (still_offers os inner.0) inner.1)
    outer.1)
