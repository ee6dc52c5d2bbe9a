-- A play is heard as the parcel that was told: without its offers of no words.
use Rattle.std.proofs.Common.{◌≡◌, ◌∙◌, ◌⊎◌, ℕ, zero, suc, ◌-◌, ◌<◌, ◌≤◌, List, [], ◌∷◌, ◌++◌, length, map, take, drop, max, min, refl, ap, sym, arith, inl, inr, Bool, true, false}
use Rattle.std.specs.Prelude.{◌==◌, ◌&&◌, ◌||◌, if◌then◌else◌, is_none, nat_le, slice_index, slice_index_or}
use Rattle.std.proofs.Math.ListN.{get_or-map}
use Rattle.std.proofs.lemmas.Bool.{cases_lt, eqb-true, le-leb, leb-true}
use Rattle.std.proofs.lemmas.List.{append-nil, length-map}
use Rattle.roll_mesh.specs.declared.machine.Machine.{Machine}
use Rattle.roll_mesh.specs.declared.packet.Offer.{Offer}
use Rattle.roll_mesh.specs.declared.packet.Packet.{Packet}
use Rattle.roll_mesh.specs.declared.seat.Seat.{Seat}
use Rattle.roll_mesh.specs.Machines.{at_places, gone_after, has_after, hear, is_believed, is_fenced, is_orphan, kept_offer, left_at, none_offered, offer_at, owner_of, shortened, taken, told_after, trimmed, trimmed_offer}
use Rattle.roll_mesh.specs.Words.{hear_words, joined_words, words_of, Holder}
use Rattle.roll_mesh.proofs.Places.{at_place, filled, length_places, past_places}
use Rattle.roll_member.specs.Taking.{shares, words_heard}
use Rattle.roll_wire.specs.Spelling.{count_of}
use Rattle.roll_peer.proofs.Sent.{same_count, same_size}

-- ---- what is offered

kept_at : (packet : Packet) (p : ℕ) → offer_at (shortened packet) p ≡ kept_offer (offer_at packet p)
kept_at packet p = get_or-map kept_offer packet.offers p none_offered

-- an offer of no words, or the offer itself
kept_cases : (offer : Offer) → ((offer.first ≡ offer.end) × (kept_offer offer ≡ none_offered)) ⊎ (kept_offer offer ≡ offer)
kept_cases offer = go (offer.first == offer.end) refl
  where
    go : (b : Bool) → (offer.first == offer.end) ≡ b
        → ((offer.first ≡ offer.end) × ((if b then none_offered else offer) ≡ none_offered))
        ⊎ ((if b then none_offered else offer) ≡ offer)
    go true e = inl (eqb-true offer.first offer.end e, refl)
    go false e = inr refl

kept_again : (offer : Offer) → kept_offer (kept_offer offer) ≡ kept_offer offer
kept_again offer = go (kept_cases offer)
  where
    go : ((offer.first ≡ offer.end) × (kept_offer offer ≡ none_offered)) ⊎ (kept_offer offer ≡ offer)
        → kept_offer (kept_offer offer) ≡ kept_offer offer
    go (inl none) = ap kept_offer none.1 ∙ sym none.1
    go (inr same) = ap kept_offer same

all_again : (offers : List Offer) → map kept_offer (map kept_offer offers) ≡ map kept_offer offers
all_again [] = refl
all_again (offer ∷ offers) = cc (kept_again offer, all_again offers)

-- a packet is shortened once
pub shortened_again : (packet : Packet) → shortened (shortened packet) ≡ shortened packet
shortened_again packet = ap (λ (os : List Offer). record packet { offers = os }) (all_again packet.offers)

pub shares_kept : (offers : List Offer) (words : List ℕ) → shares (map kept_offer offers) words ≡ shares offers words
shares_kept [] words = refl
shares_kept (offer ∷ offers) words =
    rw (same_size offer) (ap (λ (rest : List (List ℕ)). take (offer.end - offer.first) words ∷ rest)
    (shares_kept offers (drop (offer.end - offer.first) words)))

-- all words are heard where there are as many as are offered
pub whole_heard : (input : ℕ) (offers : List Offer) (words : List ℕ) → count_of offers ≡ length words
    → words_heard input (map kept_offer offers) words ≡ words
whole_heard input offers words e = go (input == 1)
  where
    enough : nat_le (count_of (map kept_offer offers)) (length words) ≡ true
    enough = rw (same_count offers, e) (le-leb (length words) (length words) (omega arith))

    go : (b : Bool) → (if b || nat_le (count_of (map kept_offer offers)) (length words) then words else []) ≡ words
    go true = refl
    go false = rw enough refl

-- ---- how it is heard

abbrev grown : ℕ → Offer → ℕ
grown has offer = if nat_le offer.first has then max has offer.end else has

none_grows : (has most : ℕ) → grown has (trimmed_offer most none_offered) ≡ has
none_grows has most = go (nat_le 0 has)
  where
    go : (b : Bool) → (if b then max has (min 0 most) else has) ≡ has
    go true = omega arith
    go false = refl

empty_grows : (has most : ℕ) (offer : Offer) → offer.first ≡ offer.end → grown has (trimmed_offer most offer) ≡ has
empty_grows has most offer e = go (nat_le offer.first has) refl
  where
    go : (b : Bool) → nat_le offer.first has ≡ b → (if b then max has (min offer.end most) else has) ≡ has
    go true l = omega (arith, leb-true offer.first has l, e)
    go false l = refl

same_growth : (has most : ℕ) (offer : Offer)
    → grown has (trimmed_offer most (kept_offer offer)) ≡ grown has (trimmed_offer most offer)
same_growth has most offer = go (kept_cases offer)
  where
    go : ((offer.first ≡ offer.end) × (kept_offer offer ≡ none_offered)) ⊎ (kept_offer offer ≡ offer)
        → grown has (trimmed_offer most (kept_offer offer)) ≡ grown has (trimmed_offer most offer)
    go (inl none) =
        ap (λ (o : Offer). grown has (trimmed_offer most o)) none.1 ∙ none_grows has most
        ∙ sym (empty_grows has most offer none.0)
    go (inr same) = ap (λ (o : Offer). grown has (trimmed_offer most o)) same

module _ (seat : Seat) (most : List ℕ) (packet : Packet) (machine : Machine) where
  -- (outside of the list nothing is offered by either)
  offers_at : (p : ℕ) → (d : ℕ)
      → grown d (offer_at (trimmed most (shortened packet)) p) ≡ grown d (offer_at (trimmed most packet) p)
  unfolding trimmed
  offers_at p d = go (cases_lt p (length packet.offers))
    where
      short : List Offer
      short = map kept_offer packet.offers

      many : length short ≡ length packet.offers
      many = length-map packet.offers kept_offer

      cut : (q : Packet) → ℕ → Offer
      cut q k = trimmed_offer (slice_index most k) (offer_at q k)

      go : (p < length packet.offers) ⊎ (length packet.offers ≤ p)
          → grown d (slice_index_or (at_places (cut (shortened packet)) short) p none_offered)
          ≡ grown d (slice_index_or (at_places (cut packet) packet.offers) p none_offered)
      go (inl l) =
          ap (grown d) (at_place (cut (shortened packet)) short p none_offered (omega (arith, l, many)))
          ∙ ap (λ (o : Offer). grown d (trimmed_offer (slice_index most p) o)) (kept_at packet p)
          ∙ same_growth d (slice_index most p) (offer_at packet p)
          ∙ ap (grown d) (sym (at_place (cut packet) packet.offers p none_offered l))
      go (inr g) =
          ap (grown d) (past_places (cut (shortened packet)) short p none_offered (omega (arith, g, many))
          ∙ sym (past_places (cut packet) packet.offers p none_offered g))

  same_count_at : (gone : List Bool) (p : ℕ)
      → has_after seat gone machine (trimmed most (shortened packet)) p
      ≡ has_after seat gone machine (trimmed most packet) p
  unfolding has_after is_believed trimmed
  same_count_at gone p =
      go (is_none (left_at machine p) && ((owner_of seat p == packet.sender) ||
      (is_orphan seat gone p && is_orphan seat packet.view.gone p))) (offers_at p (slice_index machine.has p))
    where
      go : (b : Bool) → grown (slice_index machine.has p) (offer_at (trimmed most (shortened packet)) p)
          ≡ grown (slice_index machine.has p) (offer_at (trimmed most packet) p)
          → (if b && nat_le (offer_at (trimmed most (shortened packet)) p).first (slice_index machine.has p)
          then max (slice_index machine.has p) (offer_at (trimmed most (shortened packet)) p).end else slice_index machine.has p)
          ≡ (if b && nat_le (offer_at (trimmed most packet) p).first (slice_index machine.has p)
          then max (slice_index machine.has p) (offer_at (trimmed most packet) p).end else slice_index machine.has p)
      go true e = e
      go false e = refl

  same_counts : (gone : List Bool)
      → at_places (has_after seat gone machine (trimmed most (shortened packet))) machine.has
      ≡ at_places (has_after seat gone machine (trimmed most packet)) machine.has
  same_counts gone =
      filled (has_after seat gone machine (trimmed most packet)) machine.has
      (at_places (has_after seat gone machine (trimmed most (shortened packet))) machine.has) 0
      (length_places (has_after seat gone machine (trimmed most (shortened packet))) machine.has)
      (λ p l. at_place (has_after seat gone machine (trimmed most (shortened packet))) machine.has p 0 l
      ∙ same_count_at gone p)

  same_taken : taken seat (trimmed most (shortened packet)) machine ≡ taken seat (trimmed most packet) machine
  unfolding taken gone_after told_after trimmed
  same_taken =
      ap (λ (has : List ℕ). record {
        has = has;
        gone = gone_after seat machine packet;
        told = told_after machine packet;
        left = machine.left;
      }) (same_counts (gone_after seat machine packet))

  pub same_hearing : hear seat (trimmed most (shortened packet)) machine ≡ hear seat (trimmed most packet) machine
  unfolding trimmed
  same_hearing =
      ap (λ (m : Machine). if is_fenced seat machine packet.sender then machine else m) same_taken

-- of who is offered nothing there are no words
none_shared : (offers : List Offer) (words : List ℕ) (p : ℕ)
    → (slice_index_or offers p none_offered).first ≡ (slice_index_or offers p none_offered).end
    → words_of (shares offers words) p ≡ []
none_shared [] words p e = refl
none_shared (offer ∷ offers) words zero e =
    let none : offer.end - offer.first ≡ 0 = omega (arith, e) in
    ap (λ (n : ℕ). take n words) none
none_shared (offer ∷ offers) words (suc p) e = none_shared offers (drop (offer.end - offer.first) words) p e

drop_none : (n : ℕ) → drop {A = ℕ} n [] ≡ []
drop_none zero = refl
drop_none (suc n) = refl

take_none : (n : ℕ) → take {A = ℕ} n [] ≡ []
take_none zero = refl
take_none (suc n) = refl

joins_none : (first has has_then : ℕ) (offered words : List ℕ) → offered ≡ []
    → joined_words first has has_then offered words ≡ words
joins_none first has has_then offered words e =
    ap (λ (os : List ℕ). words ++ drop (has - first) (take (has_then - first) os)) e
    ∙ ap (λ (os : List ℕ). words ++ drop (has - first) os) (take_none (has_then - first))
    ∙ ap (λ (os : List ℕ). words ++ os) (drop_none (has - first))
    ∙ append-nil words

-- a parcel without its offers of no words is heard as the whole one
pub heard_alike : (seat : Seat) (most : List ℕ) (packet : Packet) (words : List ℕ) (holder : Holder)
    → hear_words seat most (record { packet = shortened packet; words = shares packet.offers words }) holder
    ≡ hear_words seat most (record { packet = packet; words = shares packet.offers words }) holder
unfolding hear_words
heard_alike seat most packet words holder =
    cc (
      same,
      filled (λ p. join packet (hear seat (trimmed most packet) holder.mesh) p) holder.mesh.has
          (at_places (λ p. join (shortened packet) (hear seat (trimmed most (shortened packet)) holder.mesh) p)
          holder.mesh.has) []
          (length_places (λ p. join (shortened packet) (hear seat (trimmed most (shortened packet)) holder.mesh) p)
          holder.mesh.has)
          (λ p l. at_place (λ q. join (shortened packet) (hear seat (trimmed most (shortened packet)) holder.mesh) q)
          holder.mesh.has p [] l
          ∙ ap (λ (m : Machine). join (shortened packet) m p) same ∙ at p),
    )
  where
    join : Packet → Machine → ℕ → List ℕ
    join q mesh p = joined_words (offer_at q p).first (slice_index holder.mesh.has p) (slice_index mesh.has p)
        (words_of (shares packet.offers words) p) (words_of holder.words p)

    same : hear seat (trimmed most (shortened packet)) holder.mesh ≡ hear seat (trimmed most packet) holder.mesh
    same = same_hearing seat most packet holder.mesh

    at : (p : ℕ) → join (shortened packet) (hear seat (trimmed most packet) holder.mesh) p
        ≡ join packet (hear seat (trimmed most packet) holder.mesh) p
    at p = go (kept_cases (offer_at packet p))
      where
        mesh : Machine
        mesh = hear seat (trimmed most packet) holder.mesh

        go : (((offer_at packet p).first ≡ (offer_at packet p).end) × (kept_offer (offer_at packet p) ≡ none_offered))
            ⊎ (kept_offer (offer_at packet p) ≡ offer_at packet p)
            → join (shortened packet) mesh p ≡ join packet mesh p
        go (inl none) =
            let empty = none_shared packet.offers words p none.0 in
            joins_none (offer_at (shortened packet) p).first (slice_index holder.mesh.has p) (slice_index mesh.has p)
            (words_of (shares packet.offers words) p) (words_of holder.words p) empty
            ∙ sym (joins_none (offer_at packet p).first (slice_index holder.mesh.has p) (slice_index mesh.has p)
            (words_of (shares packet.offers words) p) (words_of holder.words p) empty)
        go (inr kept) =
            ap (λ (o : Offer). joined_words o.first (slice_index holder.mesh.has p) (slice_index mesh.has p)
            (words_of (shares packet.offers words) p) (words_of holder.words p)) (kept_at packet p ∙ kept)
