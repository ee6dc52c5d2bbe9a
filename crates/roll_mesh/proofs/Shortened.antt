-- A packet without its offers of no words is heard as the whole one.
use Rattle.std.proofs.Common.{◌≡◌, ◌∙◌, ℕ, List, Bool, true, false, max, refl, sym, ap, arith}
use Rattle.std.specs.Prelude.{◌==◌, ◌&&◌, ◌||◌, is_none, if◌then◌else◌, nat_le, slice_index}
use Rattle.std.proofs.Math.ListN.{get_or-map}
use Rattle.std.proofs.lemmas.Bool.{eqb-true, leb-true}
use Rattle.roll_mesh.specs.Laws.{HearsTheSame}
use Rattle.roll_mesh.specs.Machines.{at_places, gone_after, has_after, is_believed, is_fenced, is_orphan, kept_offer, left_at, none_offered, offer_at, owner_of, shortened, taken, told_after}
use Rattle.roll_mesh.specs.declared.machine.Machine.{Machine}
use Rattle.roll_mesh.specs.declared.packet.Offer.{Offer}
use Rattle.roll_mesh.specs.declared.packet.Packet.{Packet}
use Rattle.roll_mesh.specs.declared.seat.Seat.{Seat}
use Rattle.roll_mesh.proofs.Places.{at_place, filled, length_places}

kept_at : (packet : Packet) (p : ℕ) → offer_at (shortened packet) p ≡ kept_offer (offer_at packet p)
kept_at packet p = get_or-map kept_offer packet.offers p none_offered

-- an offer of no words is the same as none, for who has so many
abbrev grown : ℕ → Offer → ℕ
grown has offer = if nat_le offer.first has then max has offer.end else has

same_growth : (has : ℕ) (offer : Offer) → grown has (kept_offer offer) ≡ grown has offer
same_growth has offer = go (offer.first == offer.end) refl
  where
    none : (b : Bool) → (if b then max has 0 else has) ≡ has
    none true = omega arith
    none false = refl

    few : (b : Bool) → nat_le offer.first has ≡ b → offer.first ≡ offer.end
        → (if b then max has offer.end else has) ≡ has
    few true e f = omega (arith, leb-true offer.first has e, f)
    few false e f = refl

    go : (b : Bool) → (offer.first == offer.end) ≡ b → grown has (kept_offer offer) ≡ grown has offer
    go true e = rw e (none (nat_le 0 has) ∙ sym (few (nat_le offer.first has) refl (eqb-true offer.first offer.end e)))
    go false e = rw e refl

same_count : (seat : Seat) (gone : List Bool) (machine : Machine) (packet : Packet) (p : ℕ)
    → has_after seat gone machine (shortened packet) p ≡ has_after seat gone machine packet p
unfolding has_after is_believed
same_count seat gone machine packet p =
    rw (kept_at packet p) (go (is_none (left_at machine p) && ((owner_of seat p == packet.sender) ||
    (is_orphan seat gone p && is_orphan seat packet.view.gone p))))
  where
    go : (b : Bool)
        → (if b && nat_le (kept_offer (offer_at packet p)).first (slice_index machine.has p)
        then max (slice_index machine.has p) (kept_offer (offer_at packet p)).end else slice_index machine.has p)
        ≡ (if b && nat_le (offer_at packet p).first (slice_index machine.has p)
        then max (slice_index machine.has p) (offer_at packet p).end else slice_index machine.has p)
    go true = same_growth (slice_index machine.has p) (offer_at packet p)
    go false = refl

same_counts : (seat : Seat) (gone : List Bool) (machine : Machine) (packet : Packet)
    → at_places (has_after seat gone machine (shortened packet)) machine.has
    ≡ at_places (has_after seat gone machine packet) machine.has
same_counts seat gone machine packet =
    filled (has_after seat gone machine packet) machine.has
    (at_places (has_after seat gone machine (shortened packet)) machine.has) 0
    (length_places (has_after seat gone machine (shortened packet)) machine.has)
    (λ p l. at_place (has_after seat gone machine (shortened packet)) machine.has p 0 l
    ∙ same_count seat gone machine packet p)

same_taken : (seat : Seat) (packet : Packet) (machine : Machine)
    → taken seat (shortened packet) machine ≡ taken seat packet machine
unfolding taken gone_after told_after
same_taken seat packet machine =
    rw (same_counts seat (gone_after seat machine packet) machine packet) refl

pub shortened_is_heard_alike : HearsTheSame
shortened_is_heard_alike seat packet machine =
    ap (λ (m : Machine). if is_fenced seat machine packet.sender then machine else m)
    (same_taken seat packet machine)
