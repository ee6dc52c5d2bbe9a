-- What a machine takes of a packet that it trims: what the whole packet gives and tells, and just
-- as many words as it has room for.
use Rattle.std.proofs.Common.{◌≡◌, ℕ, ◌<◌, ◌≤◌, List, [], ◌∷◌, length, get_or, refl, sym, ◌∙◌, ap, Bool, true, false, arith, inl, inr, subst, Some, None}
use Rattle.std.specs.Prelude.{◌⊎◌, slice_index, if◌then◌else◌, ◌&&◌, ◌||◌, ◌==◌, nat_le, is_none, max, min, not}
use Rattle.std.proofs.Math.Nat.{zero-min}
use Rattle.std.proofs.lemmas.Bool.{cases_lt, le-leb, leb-true}
use Rattle.std.proofs.lemmas.List.{get_or_past}
use Rattle.roll_mesh.specs.declared.machine.Machine.{Machine}
use Rattle.roll_mesh.specs.declared.packet.Offer.{Offer}
use Rattle.roll_mesh.specs.declared.packet.Packet.{Packet}
use Rattle.roll_mesh.specs.declared.packet.View.{View}
use Rattle.roll_mesh.specs.declared.refusal.MeshRefusal.TheVariants.{InvalidMachine, OwnMachine, MachineGone, Overstated, Uneven}
use Rattle.roll_mesh.specs.declared.seat.Seat.{Seat}
use Rattle.roll_mesh.specs.Groups.{first_of, is_even, AreAlike}
use Rattle.roll_mesh.specs.Laws.{owner_in}
use Rattle.roll_mesh.specs.Machines.{at_places, hear, is_fenced, is_in, left_at, owner_of, is_orphan, told_by, none_offered, offer_at, trimmed_offer, trimmed, is_believed, gone_after, has_after, taken}
use Rattle.roll_mesh.specs.Meshes.{Seated, hear_refusal, is_had}
use Rattle.roll_mesh.specs.Worlds.{Match}
use Rattle.roll_mesh.proofs.Groups.{evenly, even_of}
use Rattle.roll_mesh.proofs.Places.{at_place, past_places, all_places, at_each, filled}
use Rattle.roll_mesh.proofs.Changes.{Sent, Gives, Tells, Change, none_some}

-- ---- what is in it

pub trimmed_at : (most : List ℕ) (packet : Packet) (p : ℕ)
    → offer_at (trimmed most packet) p ≡ trimmed_offer (slice_index most p) (offer_at packet p)
unfolding trimmed
trimmed_at most packet p = go (cases_lt p (length packet.offers))
  where
    cut : ℕ → Offer
    cut q = trimmed_offer (slice_index most q) (offer_at packet q)

    go : (p < length packet.offers) ⊎ (length packet.offers ≤ p)
        → get_or (at_places (λ q. trimmed_offer (slice_index most q) (offer_at packet q))
        packet.offers) p none_offered ≡ trimmed_offer (slice_index most p) (offer_at packet p)
    go (inl l) = at_place (λ q. trimmed_offer (slice_index most q) (offer_at packet q))
        packet.offers p none_offered l
    go (inr g) =
        rw (
          past_places (λ q. trimmed_offer (slice_index most q) (offer_at packet q)) packet.offers p
              none_offered g,
          get_or_past packet.offers p none_offered g,
          zero-min (slice_index most p),
        )
        refl

abbrev end_of : Offer → ℕ
end_of offer = offer.end

pub trimmed_end : (most : List ℕ) (packet : Packet) (p : ℕ)
    → (offer_at (trimmed most packet) p).end ≡ min (offer_at packet p).end (slice_index most p)
trimmed_end most packet p = ap end_of (trimmed_at most packet p)

pub trimmed_sender : (most : List ℕ) (packet : Packet)
    → (trimmed most packet).sender ≡ packet.sender
unfolding trimmed
trimmed_sender most packet = refl

pub trimmed_view : (most : List ℕ) (packet : Packet) → (trimmed most packet).view ≡ packet.view
unfolding trimmed
trimmed_view most packet = refl

-- the frame after each player's last word
abbrev pub ends_of : Packet → List ℕ
ends_of packet = at_places (λ p. (offer_at packet p).end) packet.offers

with_offers : (packet : Packet) (offers : List Offer) → packet.offers ≡ offers
    → record packet { offers = offers } ≡ packet
with_offers packet offers e = rw (sym e) refl

-- a packet that is trimmed to its own words is whole
pub trimmed_whole : (packet : Packet) → trimmed (ends_of packet) packet ≡ packet
unfolding trimmed
trimmed_whole packet =
    with_offers packet (at_places (λ p. trimmed_offer (slice_index (ends_of packet) p)
    (offer_at packet p)) packet.offers)
    (filled (λ p. trimmed_offer (slice_index (ends_of packet) p) (offer_at packet p)) packet.offers
    packet.offers none_offered refl (λ p l. same p l))
  where
    same : (p : ℕ) → p < length packet.offers → offer_at packet p
        ≡ trimmed_offer (slice_index (ends_of packet) p) (offer_at packet p)
    same p l =
        let end : slice_index (ends_of packet) p ≡ (offer_at packet p).end =
        at_place (λ q. (offer_at packet q).end) packet.offers p 0 l in
        let least :
        (offer_at packet p).end
        ≡ min (offer_at packet p).end (slice_index (ends_of packet) p) =
        omega (arith, end) in
        ap (λ (n : ℕ). record { first = (offer_at packet p).first; end = n }) least

-- ---- what was sent gives and tells what is heard

pub trimmed_gives : (match : Match) (sent : List Packet) (most : List ℕ) (packet : Packet)
    (gone : List Bool) (p has : ℕ) → Sent packet sent
    → Gives match (trimmed most packet ∷ []) gone p has → Gives match sent gone p has
trimmed_gives match sent most packet gone p has was g = go g.was_sent
  where
    go : (g.packet ≡ trimmed most packet) ⊎ ⊥ → Gives match sent gone p has
    go (inr none) = absurd none
    go (inl e) =
        let sender = ap (λ (q : Packet). q.sender) e ∙ trimmed_sender most packet in
        let view = ap (λ (q : Packet). q.view) e ∙ trimmed_view most packet in
        record {
          packet = packet;
          was_sent = was;
          listened = subst (λ (s : ℕ). is_in gone s ≡ false) sender g.listened;
          offered = omega (
            arith,
            g.offered,
            ap (λ (q : Packet). (offer_at q p).end) e,
            trimmed_end most packet p,
          );
          of_owner = owner sender view g.of_owner;
        }
      where
        owner : g.packet.sender ≡ packet.sender → g.packet.view ≡ packet.view
            → (g.packet.sender ≡ owner_in match p)
            ⊎ (is_in g.packet.view.gone (owner_in match p) ≡ true)
            → (packet.sender ≡ owner_in match p)
            ⊎ (is_in packet.view.gone (owner_in match p) ≡ true)
        owner sender view (inl o) = inl (sym sender ∙ o)
        owner sender view (inr o) = inr
            (subst (λ (v : View). is_in v.gone (owner_in match p) ≡ true) view o)

trimmed_tells : (sent : List Packet) (most : List ℕ) (packet : Packet) (m : ℕ) (view : View)
    → Sent packet sent → Tells (trimmed most packet ∷ []) m view → Tells sent m view
trimmed_tells sent most packet m view was t = go t.was_sent
  where
    go : (t.packet ≡ trimmed most packet) ⊎ ⊥ → Tells sent m view
    go (inr none) = absurd none
    go (inl e) = record {
      packet = packet;
      was_sent = was;
      by = sym (ap (λ (q : Packet). q.sender) e ∙ trimmed_sender most packet) ∙ t.by;
      said = sym (ap (λ (q : Packet). q.view) e ∙ trimmed_view most packet) ∙ t.said;
    }

-- what a trimmed packet may change, what was sent may change
pub trimmed_changes : (match : Match) (sent : List Packet) (i : ℕ) (most : List ℕ) (packet : Packet)
    (old new : Machine) → Sent packet sent → Change match (trimmed most packet ∷ []) i old new
    → Change match sent i old new
trimmed_changes match sent i most packet old new was c = record {
  grows = c.grows;
  unfenced = c.unfenced;
  rises = c.rises;
  limited = λ p. limit p (c.limited p);
  told = λ m view h. tell m view (c.told m view h);
  left = c.left;
  stays = c.stays;
  sized = c.sized;
}
  where
    limit : (p : ℕ) → (slice_index new.has p ≤ slice_index old.has p)
        ⊎ ((owner_in match p ≡ i) ⊎ Gives match (trimmed most packet ∷ []) old.gone p
        (slice_index new.has p)) → (slice_index new.has p ≤ slice_index old.has p)
        ⊎ ((owner_in match p ≡ i) ⊎ Gives match sent old.gone p (slice_index new.has p))
    limit p (inl l) = inl l
    limit p (inr (inl o)) = inr (inl o)
    limit p (inr (inr g)) = inr (inr (trimmed_gives match sent most packet old.gone p
        (slice_index new.has p) was g))

    tell : (m : ℕ) (view : View) → (told_by old m ≡ Some view)
        ⊎ Tells (trimmed most packet ∷ []) m view
        → (told_by old m ≡ Some view) ⊎ Tells sent m view
    tell m view (inl t) = inl t
    tell m view (inr t) = inr (trimmed_tells sent most packet m view was t)

-- ---- it is refused as the whole packet is

pub trimmed_had : (most : List ℕ) (packet : Packet) → is_had packet ≡ true
    → is_had (trimmed most packet) ≡ true
unfolding is_had
trimmed_had most packet h =
    rw (trimmed_view most packet)
    (sym (all_places (λ p. nat_le (offer_at (trimmed most packet) p).end
    (slice_index packet.view.has p)) packet.view.has (length packet.view.has) (omega arith)
    (λ p l. le-leb (offer_at (trimmed most packet) p).end (slice_index packet.view.has p)
    (omega (
      arith,
      trimmed_end most packet p,
      leb-true (offer_at packet p).end (slice_index packet.view.has p)
          (at_each (λ q. nat_le (offer_at packet q).end (slice_index packet.view.has q))
          packet.view.has p h l),
    )))))

pub trimmed_even : (seat : Seat) (most : List ℕ) (packet : Packet)
    → AreAlike seat.words (slice_index most) → is_even seat packet ≡ true
    → is_even seat (trimmed most packet) ≡ true
trimmed_even seat most packet alike h =
    let e = evenly seat packet h in
    even_of seat (trimmed most packet) (record {
      counts = λ p lt. ap (λ (v : View). slice_index v.has p) (trimmed_view most packet)
          ∙ (e.counts p lt ∙ ap (λ (v : View). slice_index v.has (first_of seat.words p))
          (sym (trimmed_view most packet)));
      firsts = λ p lt. firsts p ∙ (e.firsts p lt ∙ sym (firsts (first_of seat.words p)));
      ends = λ p lt. trimmed_end most packet p
          ∙ (ap (λ n. min n (slice_index most p)) (e.ends p lt)
          ∙ (ap (λ n. min (offer_at packet (first_of seat.words p)).end n) (alike p lt)
          ∙ sym (trimmed_end most packet (first_of seat.words p))));
    })
  where
    firsts : (p : ℕ) → (offer_at (trimmed most packet) p).first ≡ (offer_at packet p).first
    firsts p = ap (λ (o : Offer). o.first) (trimmed_at most packet p)

pub trimmed_refusal : (mesh : Seated) (most : List ℕ) (packet : Packet)
    → AreAlike mesh.seat.words (slice_index most)
    → hear_refusal mesh packet ≡ None → hear_refusal mesh (trimmed most packet) ≡ None
unfolding trimmed
trimmed_refusal mesh most packet alike h =
    go (nat_le mesh.seat.machines packet.sender) (packet.sender == mesh.seat.me)
    (is_in mesh.machine.gone packet.sender) (is_had packet) (is_even mesh.seat packet) refl refl h
  where
    go : (a b c d f : Bool) → is_had packet ≡ d → is_even mesh.seat packet ≡ f
        → (if a then Some InvalidMachine else
        (if b then Some OwnMachine else (if c then Some MachineGone else
        (if not d then Some Overstated else (if f then None else Some Uneven))))) ≡ None
        → (if a then Some InvalidMachine else (if b then Some OwnMachine else
        (if c then Some MachineGone else
        (if not (is_had (trimmed most packet)) then Some Overstated else
        (if is_even mesh.seat (trimmed most packet) then None else Some Uneven))))) ≡ None
    go false false false true true e g n =
        rw (trimmed_had most packet e, trimmed_even mesh.seat most packet alike g) refl
    go false false false true false e g n = absurd (none_some Uneven (sym n))
    go false false false false f e g n = absurd (none_some Overstated (sym n))
    go false false true d f e g n = absurd (none_some MachineGone (sym n))
    go false true c d f e g n = absurd (none_some OwnMachine (sym n))
    go true b c d f e g n = absurd (none_some InvalidMachine (sym n))

-- a packet that isn't refused has the same of all words of an input
pub heard_even : (mesh : Seated) (packet : Packet) → hear_refusal mesh packet ≡ None
    → is_even mesh.seat packet ≡ true
heard_even mesh packet h =
    go (nat_le mesh.seat.machines packet.sender) (packet.sender == mesh.seat.me)
    (is_in mesh.machine.gone packet.sender) (is_had packet) (is_even mesh.seat packet) h
  where
    go : (a b c d f : Bool) → (if a then Some InvalidMachine else
        (if b then Some OwnMachine else (if c then Some MachineGone else
        (if not d then Some Overstated else (if f then None else Some Uneven))))) ≡ None → f ≡ true
    go false false false true true n = refl
    go false false false true false n = absurd (none_some Uneven (sym n))
    go false false false false f n = absurd (none_some Overstated (sym n))
    go false false true d f n = absurd (none_some MachineGone (sym n))
    go false true c d f n = absurd (none_some OwnMachine (sym n))
    go true b c d f n = absurd (none_some InvalidMachine (sym n))

-- ---- how many words there are then

trimmed_after : (seat : Seat) (gone : List Bool) (machine : Machine) (most : List ℕ)
    (packet : Packet) (p : ℕ) → slice_index machine.has p ≤ slice_index most p
    → slice_index most p ≤ has_after seat gone machine packet p
    → slice_index most p ≡ has_after seat gone machine (trimmed most packet) p
unfolding has_after is_believed
trimmed_after seat gone machine most packet p low high =
    rw (trimmed_at most packet p, trimmed_sender most packet, trimmed_view most packet)
    (go (is_none (left_at machine p) && ((owner_of seat p == packet.sender) ||
    (is_orphan seat gone p && is_orphan seat packet.view.gone p)) && nat_le
    (offer_at packet p).first (slice_index machine.has p)) high)
  where
    go : (b : Bool) → slice_index most p
        ≤ (if b then max (slice_index machine.has p) (offer_at packet p).end else slice_index
        machine.has p)
        → slice_index most p
        ≡ (if b then max (slice_index machine.has p) (min (offer_at packet p).end
        (slice_index most p)) else slice_index machine.has p)
    go true h = omega (arith, low, h)
    go false h = omega (arith, low, h)

gone_whole : (seat : Seat) (most : List ℕ) (packet : Packet) (machine : Machine)
    → gone_after seat machine (trimmed most packet) ≡ gone_after seat machine packet
unfolding gone_after trimmed
gone_whole seat most packet machine = refl

-- where it is trimmed to no fewer words than there are, and to no more than would be taken, there
-- are just as many then
pub trimmed_taken : (seat : Seat) (most : List ℕ) (packet : Packet) (machine : Machine)
    → length most ≡ length machine.has
    → ((p : ℕ) → p < length machine.has → slice_index machine.has p ≤ slice_index most p)
    → ((p : ℕ) → p < length machine.has
    → slice_index most p ≤ slice_index (taken seat packet machine).has p)
    → (taken seat (trimmed most packet) machine).has ≡ most
unfolding taken
trimmed_taken seat most packet machine many low high =
    rw (gone_whole seat most packet machine)
    (sym (filled (has_after seat (gone_after seat machine packet) machine (trimmed most packet))
    machine.has most 0 many
    (λ p l. trimmed_after seat (gone_after seat machine packet) machine most packet p (low p l)
    (omega (
      arith,
      high p l,
      at_place (has_after seat (gone_after seat machine packet) machine packet) machine.has p 0 l,
    )))))

listened : (mesh : Seated) (packet : Packet) → hear_refusal mesh packet ≡ None
    → is_fenced mesh.seat mesh.machine packet.sender ≡ false
listened mesh packet h = go (nat_le mesh.seat.machines packet.sender)
    (packet.sender == mesh.seat.me) (is_in mesh.machine.gone packet.sender) h
  where
    go : (a b c : Bool) → (if a then Some InvalidMachine else (if b then Some OwnMachine else
        (if c then Some MachineGone else
        (if not (is_had packet) then Some Overstated else
        (if is_even mesh.seat packet then None else Some Uneven))))) ≡ None → (b || c) ≡ false
    go false false false n = refl
    go false false true n = absurd (none_some MachineGone (sym n))
    go false true c n = absurd (none_some OwnMachine (sym n))
    go true b c n = absurd (none_some InvalidMachine (sym n))

-- the same of a packet that isn't refused
pub trimmed_heard : (mesh : Seated) (most : List ℕ) (packet : Packet)
    → hear_refusal mesh packet ≡ None → length most ≡ length mesh.machine.has
    → ((p : ℕ) → p < length mesh.machine.has
    → slice_index mesh.machine.has p ≤ slice_index most p)
    → ((p : ℕ) → p < length mesh.machine.has
    → slice_index most p ≤ slice_index (taken mesh.seat packet mesh.machine).has p)
    → (hear mesh.seat (trimmed most packet) mesh.machine).has ≡ most
unfolding trimmed
trimmed_heard mesh most packet h many low high =
    rw (listened mesh packet h)
    (trimmed_taken mesh.seat most packet mesh.machine many low high)
