-- Each step keeps what holds of the words, and adds to what an owner has what it gave.
use Rattle.std.proofs.Common.{◌≡◌, ℕ, ◌+◌, ◌<◌, ◌≤◌, List, [], ◌∷◌, ◌++◌, length, get_or, set, refl, sym, ◌∙◌, ap, Bool, true, false, arith, inl, inr, subst, Option, Some, None}
use Rattle.std.specs.Option.{option_map_or}
use Rattle.std.specs.Prelude.{◌⊎◌, ◌-◌, ◌&&◌, ◌==◌, nat_le, nat_lt, is_none, max, if◌then◌else◌, slice_get, slice_index, take}
use Rattle.std.proofs.lemmas.Bool.{cases_eq, cases_lt, and_parts, eq-eqb, eqb-true, eqb-false, lt-ltb, ltb-true, leb-true}
use Rattle.std.proofs.lemmas.List.{append-nil, length-append, length-set, get_or_past, get_or-set_same, get_or-set_other, set_past, take_all}
use Rattle.std.proofs.lemmas.Option.{slice_get-get_or, slice_get_past}
use Rattle.roll_mesh.specs.declared.limits.TheConstants.{PLAYER_LIMIT}
use Rattle.roll_mesh.specs.declared.machine.Machine.{Machine}
use Rattle.roll_mesh.specs.declared.packet.Offer.{Offer}
use Rattle.roll_mesh.specs.declared.packet.Packet.{Packet}
use Rattle.roll_mesh.specs.declared.seat.Seat.{Seat}
use Rattle.roll_mesh.specs.Laws.{owner_in}
use Rattle.roll_mesh.specs.Machines.{at_places, left_at, none_offered, offer_at, offer_of, is_believed, is_fenced, gone_after, has_after, taken, give, leave, tell, trimmed, hear, left}
use Rattle.roll_mesh.specs.Worlds.{Match, seat_of}
use Rattle.roll_mesh.specs.Words.{Holder, Parcel, WordWorld, WordStep, Gives, Leaves, Tells, Hears, LetsLeave, words_of, joined_words, offered_words, give_word, tell_words, hear_words, with_machine, words_changed, words_told, words_after, counted, counts_of, no_holder, holder_at, words_at, given_in}
use Rattle.roll_mesh.proofs.Places.{at_place, past_places, length_places}
use Rattle.roll_mesh.proofs.Changes.{Sized, leave_has, left_has, hear_changes}
use Rattle.roll_mesh.proofs.Trimmed.{trimmed_at, trimmed_end}
use Rattle.roll_mesh.proofs.Invariant.{Invariant, steps_keep, tells_had}
use Rattle.roll_mesh.proofs.Reached.{AllSized, steps_sized}
use Rattle.roll_mesh.proofs.Slices.{slice, front_goes_on, nothing_more, slice_of_front, front_stays}
use Rattle.roll_mesh.proofs.Holders.{step_counted, Alters, holder_after}
use Rattle.roll_mesh.proofs.Handed.{count, owned, Handed, IsCut, Kept, Counts, Goes, Takes, holders_many, mesh_sized, counts_most, found_handed, parcel_end, goes_kept, takes_go, changed_sent, machine_takes}

-- ---- a packet is heard

-- as many words as before, or words of an offer that begins among those that there were
abbrev GoesOn : Offer → ℕ → ℕ → Type 0
GoesOn offer old new =
    (new ≡ old) ⊎ ((offer.first ≤ old) × (old ≤ new) × (new ≤ offer.end))

after_goes_on : (seat : Seat) (gone : List Bool) (machine : Machine) (packet : Packet) (p : ℕ)
    → GoesOn (offer_at packet p) (slice_index machine.has p)
    (has_after seat gone machine packet p)
unfolding has_after
after_goes_on seat gone machine packet p =
    go (is_none (left_at machine p) && is_believed seat gone packet p && nat_le
    (offer_at packet p).first (slice_index machine.has p)) refl
  where
    go : (b : Bool) → (is_none (left_at machine p) && is_believed seat gone packet p && nat_le
        (offer_at packet p).first (slice_index machine.has p)) ≡ b
        → GoesOn (offer_at packet p) (slice_index machine.has p) (if b then max
        (slice_index machine.has p) (offer_at packet p).end else slice_index machine.has p)
    go false e = inl refl
    go true e = split (cases_lt (slice_index machine.has p) (offer_at packet p).end)
      where
        split : (slice_index machine.has p < (offer_at packet p).end)
            ⊎ ((offer_at packet p).end ≤ slice_index machine.has p)
            → GoesOn (offer_at packet p) (slice_index machine.has p)
            (max (slice_index machine.has p) (offer_at packet p).end)
        split (inr g) = inl (omega arith)
        split (inl l) = inr (
          leb-true (offer_at packet p).first (slice_index machine.has p)
              (and_parts (is_none (left_at machine p) && is_believed seat gone packet p)
              (nat_le (offer_at packet p).first (slice_index machine.has p)) e).1,
          omega arith,
          omega arith,
        )

taken_goes_on : (seat : Seat) (packet : Packet) (machine : Machine) (p : ℕ)
    → GoesOn (offer_at packet p) (slice_index machine.has p)
    (slice_index (taken seat packet machine).has p)
unfolding taken
taken_goes_on seat packet machine p = go (cases_lt p (length machine.has))
  where
    go : (p < length machine.has) ⊎ (length machine.has ≤ p)
        → GoesOn (offer_at packet p) (slice_index machine.has p) (get_or (at_places
        (has_after seat (gone_after seat machine packet) machine packet) machine.has) p 0)
    go (inl l) =
        rw (at_place (has_after seat (gone_after seat machine packet) machine packet) machine.has p
        0 l)
        (after_goes_on seat (gone_after seat machine packet) machine packet p)
    go (inr g) =
        rw (
          past_places (has_after seat (gone_after seat machine packet) machine packet) machine.has p
              0 g,
          get_or_past machine.has p 0 g,
        )
        (inl refl)

abbrev counted_has : Machine → ℕ → ℕ
counted_has machine p = slice_index machine.has p

hear_goes_on : (seat : Seat) (packet : Packet) (machine : Machine) (p : ℕ)
    → GoesOn (offer_at packet p) (slice_index machine.has p)
    (slice_index (hear seat packet machine).has p)
hear_goes_on seat packet machine p = go (is_fenced seat machine packet.sender)
  where
    go : (b : Bool) → GoesOn (offer_at packet p) (slice_index machine.has p)
        (counted_has (if b then machine else taken seat packet machine) p)
    go true = inl refl
    go false = taken_goes_on seat packet machine p

trimmed_goes_on : (seat : Seat) (most : List ℕ) (packet : Packet) (machine : Machine) (p : ℕ)
    → GoesOn (offer_at packet p) (slice_index machine.has p)
    (slice_index (hear seat (trimmed most packet) machine).has p)
trimmed_goes_on seat most packet machine p =
    go (hear_goes_on seat (trimmed most packet) machine p)
  where
    go : GoesOn (offer_at (trimmed most packet) p) (slice_index machine.has p)
        (slice_index (hear seat (trimmed most packet) machine).has p)
        → GoesOn (offer_at packet p) (slice_index machine.has p)
        (slice_index (hear seat (trimmed most packet) machine).has p)
    go (inl e) = inl e
    go (inr g) =
        let first : (offer_at (trimmed most packet) p).first ≡ (offer_at packet p).first =
        ap (λ (o : Offer). o.first) (trimmed_at most packet p) in
        inr (omega (arith, g.0, first), g.1, omega (arith, g.2, trimmed_end most packet p))

-- what machine i holds after a packet
abbrev heard : Match → WordWorld → ℕ → List ℕ → Parcel → Holder
heard match world i most parcel = hear_words (seat_of match i) most parcel (holder_at world i)

abbrev heard_mesh : Match → WordWorld → ℕ → List ℕ → Parcel → Machine
heard_mesh match world i most parcel =
    hear (seat_of match i) (trimmed most parcel.packet) (holder_at world i).mesh

abbrev heard_count : Match → WordWorld → ℕ → List ℕ → Parcel → ℕ → ℕ
heard_count match world i most parcel p =
    slice_index (heard_mesh match world i most parcel).has p

abbrev joined_at : Match → WordWorld → ℕ → List ℕ → Parcel → ℕ → List ℕ
joined_at match world i most parcel p =
    joined_words (offer_at parcel.packet p).first (count world i p)
    (heard_count match world i most parcel p) (words_of parcel.words p) (words_at world i p)

heard_goes_on : (match : Match) (world : WordWorld) (i : ℕ) (most : List ℕ) (parcel : Parcel)
    (p : ℕ) → GoesOn (offer_at parcel.packet p) (count world i p)
    (slice_index (heard match world i most parcel).mesh.has p)
unfolding hear_words
heard_goes_on match world i most parcel p =
    trimmed_goes_on (seat_of match i) most parcel.packet (holder_at world i).mesh p

-- what is joined goes on as the owner's words do
joined_front : (whole : List ℕ) (offer : Offer) (old new : ℕ) → GoesOn offer old new
    → joined_words offer.first old new (slice offer.first offer.end whole) (take old whole)
    ≡ take new whole
joined_front whole offer old new (inr g) =
    front_goes_on whole offer.first offer.end old new g.0 g.1 g.2
joined_front whole offer old new (inl e) =
    rw e
    (ap (λ (l : List ℕ). take old whole ++ l)
    (nothing_more (old - offer.first) (slice offer.first offer.end whole))
    ∙ append-nil (take old whole))

heard_front : (match : Match) (world : WordWorld) (i : ℕ) (most : List ℕ) (parcel : Parcel) (p : ℕ)
    → Kept match world → i < match.machines → Handed parcel world.sent
    → words_of (heard match world i most parcel).words p
    ≡ take (slice_index (heard match world i most parcel).mesh.has p) (owned match world p)
unfolding hear_words
heard_front match world i most parcel p k l was =
    go (cases_lt p (length (holder_at world i).mesh.has))
  where
    go : (p < length (holder_at world i).mesh.has) ⊎ (length (holder_at world i).mesh.has ≤ p)
        → words_of (at_places (joined_at match world i most parcel)
        (holder_at world i).mesh.has) p
        ≡ take (heard_count match world i most parcel p) (owned match world p)
    go (inl inside) =
        at_place (joined_at match world i most parcel)
        (holder_at world i).mesh.has p [] inside
        ∙ (rw (k.parcels parcel was p, k.front i p) refl
        ∙ joined_front (owned match world p) (offer_at parcel.packet p) (count world i p)
        (heard_count match world i most parcel p)
        (heard_goes_on match world i most parcel p))
    go (inr past) =
        past_places (joined_at match world i most parcel)
        (holder_at world i).mesh.has p [] past
        ∙ sym (ap (λ (n : ℕ). take n (owned match world p)) none)
      where
        sized : Sized (holder_at world i).mesh
        sized = mesh_sized match world i k l

        later : Sized (heard_mesh match world i most parcel)
        later = (hear_changes match (trimmed most parcel.packet ∷ []) i
            (trimmed most parcel.packet) (holder_at world i).mesh (inl refl)).sized sized

        none : heard_count match world i most parcel p ≡ 0
        none = get_or_past (heard_mesh match world i most parcel).has p 0
            (omega (arith, sized.has, later.has))

heard_full : (match : Match) (world : WordWorld) (i : ℕ) (most : List ℕ) (parcel : Parcel)
    → length (heard match world i most parcel).words ≡ length (holder_at world i).mesh.has
unfolding hear_words
heard_full match world i most parcel =
    length_places (joined_at match world i most parcel)
    (holder_at world i).mesh.has

pub hears_takes : (match : Match) (world : WordWorld) (i : ℕ) (most : List ℕ) (parcel : Parcel)
    → Kept match world → Handed parcel world.sent
    → Takes match world (words_changed world i (hear_words (seat_of match i) most parcel))
hears_takes match world i most parcel k was = record {
  same_sent = changed_sent world i (hear_words (seat_of match i) most parcel);
  full = λ j l. full j l (holder_after world i (hear_words (seat_of match i) most parcel) j);
  still = λ p. still p (holder_after world i (hear_words (seat_of match i) most parcel)
      (owner_in match p));
  front = λ j p. front j p (holder_after world i (hear_words (seat_of match i) most parcel) j);
}
  where
    full : (j : ℕ) → j < match.machines
        → Alters world i (hear_words (seat_of match i) most parcel) j
        → length (holder_at (words_changed world i (hear_words (seat_of match i) most parcel))
        j).words ≡ PLAYER_LIMIT
    full j l (inl s) = ap (λ (h : Holder). length h.words) s.0 ∙ k.full j l
    full j l (inr c) =
        ap (λ (h : Holder). length h.words) c.2
        ∙ (heard_full match world i most parcel
        ∙ (mesh_sized match world i k (omega (arith, c.1, holders_many match world k))).has)

    still : (p : ℕ)
        → Alters world i (hear_words (seat_of match i) most parcel) (owner_in match p)
        → count (words_changed world i (hear_words (seat_of match i) most parcel))
        (owner_in match p) p ≡ count world (owner_in match p) p
    still p (inl s) = ap (λ (h : Holder). slice_index h.mesh.has p) s.0
    still p (inr c) =
        ap (λ (h : Holder). slice_index h.mesh.has p) c.2
        ∙ (same (heard_goes_on match world i most parcel p)
        ∙ ap (λ (n : ℕ). count world n p) (sym c.0))
      where
        same : GoesOn (offer_at parcel.packet p) (count world i p)
            (slice_index (heard match world i most parcel).mesh.has p)
            → slice_index (heard match world i most parcel).mesh.has p ≡ count world i p
        same (inl e) = e
        same (inr g) = omega (
          arith,
          g.1,
          g.2,
          parcel_end match world parcel p k was,
          k.many p,
          ap (λ (n : ℕ). count world n p) c.0,
        )

    front : (j p : ℕ) → Alters world i (hear_words (seat_of match i) most parcel) j
        → words_at (words_changed world i (hear_words (seat_of match i) most parcel)) j p
        ≡ take (count (words_changed world i (hear_words (seat_of match i) most parcel)) j p)
        (owned match world p)
    front j p (inl s) =
        ap (λ (h : Holder). words_of h.words p) s.0
        ∙ (k.front j p ∙ ap (λ (h : Holder). take (slice_index h.mesh.has p) (owned match world p))
        (sym s.0))
    front j p (inr c) =
        ap (λ (h : Holder). words_of h.words p) c.2
        ∙ (heard_front match world i most parcel p k
        (omega (arith, c.1, holders_many match world k)) was
        ∙ ap (λ (h : Holder). take (slice_index h.mesh.has p) (owned match world p)) (sym c.2))

-- ---- a word is given

-- the word that machine j has more of player p
abbrev added : Match → ℕ → ℕ → ℕ → ℕ → ℕ → List ℕ
added match i q w j p =
    if (owner_in match p == j) && (nat_lt j match.machines && (nat_lt p PLAYER_LIMIT && ((i == j) &&
    (q == p)))) then w ∷ [] else []

added_not : (match : Match) (i q w j p : ℕ)
    → (owner_in match p ≡ j → j < match.machines → p < PLAYER_LIMIT → i ≡ j → q ≡ p → ⊥)
    → added match i q w j p ≡ []
added_not match i q w j p never = go ((owner_in match p == j) && (nat_lt j match.machines &&
    (nat_lt p PLAYER_LIMIT && ((i == j) && (q == p))))) refl
  where
    go : (b : Bool) → ((owner_in match p == j) && (nat_lt j match.machines &&
        (nat_lt p PLAYER_LIMIT && ((i == j) && (q == p))))) ≡ b
        → (if b then w ∷ [] else []) ≡ []
    go false e = refl
    go true e =
        let one = and_parts (owner_in match p == j) (nat_lt j match.machines &&
        (nat_lt p PLAYER_LIMIT && ((i == j) && (q == p)))) e in
        let two = and_parts (nat_lt j match.machines)
        (nat_lt p PLAYER_LIMIT && ((i == j) && (q == p))) one.1 in
        let three = and_parts (nat_lt p PLAYER_LIMIT) ((i == j) && (q == p)) two.1 in
        let four = and_parts (i == j) (q == p) three.1 in
        absurd (never (eqb-true (owner_in match p) j one.0) (ltb-true j match.machines two.0)
        (ltb-true p PLAYER_LIMIT three.0) (eqb-true i j four.0) (eqb-true q p four.1))

added_is : (match : Match) (i q w j p : ℕ) → owner_in match p ≡ j → j < match.machines
    → p < PLAYER_LIMIT → i ≡ j → q ≡ p → added match i q w j p ≡ w ∷ []
added_is match i q w j p o l inside e s =
    rw (
      eq-eqb (owner_in match p) j o,
      lt-ltb j match.machines l,
      lt-ltb p PLAYER_LIMIT inside,
      eq-eqb i j e,
      eq-eqb q p s,
    )
    refl

-- what machine i holds with one more word
abbrev given : Match → ℕ → ℕ → ℕ → Holder → Holder
given match i q w holder = give_word (seat_of match i) q w holder

-- of player p nothing is new, or a word is
abbrev IsGiven : Match → ℕ → ℕ → ℕ → ℕ → Holder → Holder → Type 0
IsGiven match i q w p old new =
    ((words_of new.words p ≡ words_of old.words p)
    × (slice_index new.mesh.has p ≡ slice_index old.mesh.has p)
    × (q ≡ p → owner_in match p ≡ i → p < PLAYER_LIMIT → ⊥))
    ⊎ ((q ≡ p) × (owner_in match p ≡ i) × (p < PLAYER_LIMIT)
    × (words_of new.words p ≡ words_of old.words p ++ w ∷ [])
    × (slice_index new.mesh.has p ≡ slice_index old.mesh.has p + 1))

given_at : (match : Match) (i q w : ℕ) (holder : Holder) (p : ℕ) → Sized holder.mesh
    → length holder.words ≡ PLAYER_LIMIT → IsGiven match i q w p holder (given match i q w holder)
unfolding give_word give
given_at match i q w holder p sized full = go (owner_in match q == i) refl
  where
    go : (b : Bool) → (owner_in match q == i) ≡ b
        → IsGiven match i q w p holder (record {
          mesh = if b then record holder.mesh {
            has = set holder.mesh.has q (get_or holder.mesh.has q 0 + 1);
          } else holder.mesh;
          words = if b then set holder.words q (words_of holder.words q ++ w ∷ []) else
              holder.words;
        })
    go false e = inl (
      refl,
      refl,
      λ s o l. eqb-false (owner_in match q) i e (ap (owner_in match) s ∙ o),
    )
    go true e = split (cases_eq p q) (cases_lt q PLAYER_LIMIT)
      where
        split : (p ≡ q) ⊎ (p ≡ q → ⊥) → (q < PLAYER_LIMIT) ⊎ (PLAYER_LIMIT ≤ q)
            → IsGiven match i q w p holder (record {
              mesh = record holder.mesh {
                has = set holder.mesh.has q (get_or holder.mesh.has q 0 + 1);
              };
              words = set holder.words q (words_of holder.words q ++ w ∷ []);
            })
        split (inr o) l = inl (
          get_or-set_other holder.words q p (words_of holder.words q ++ w ∷ []) [] o,
          get_or-set_other holder.mesh.has q p (get_or holder.mesh.has q 0 + 1) 0 o,
          λ s own inside. o (sym s),
        )
        split (inl s) (inr past) = inl (
          ap (λ (ws : List (List ℕ)). words_of ws p) (set_past holder.words q
              (words_of holder.words q ++ w ∷ []) (omega (arith, full))),
          ap (λ (has : List ℕ). slice_index has p) (set_past holder.mesh.has q
              (get_or holder.mesh.has q 0 + 1) (omega (arith, sized.has))),
          λ e own inside. absurd (omega (arith, e)),
        )
        split (inl s) (inl inside) = inr (
          sym s,
          ap (owner_in match) s ∙ eqb-true (owner_in match q) i e,
          omega (arith, s),
          rw s (get_or-set_same holder.words q (words_of holder.words q ++ w ∷ []) []
              (omega (arith, full))),
          rw s (get_or-set_same holder.mesh.has q (get_or holder.mesh.has q 0 + 1) 0
              (omega (arith, sized.has))),
        )

given_full : (match : Match) (i q w : ℕ) (holder : Holder)
    → length (given match i q w holder).words ≡ length holder.words
unfolding give_word
given_full match i q w holder = go (owner_in match q == i)
  where
    go : (b : Bool) → length (if b then set holder.words q (words_of holder.words q ++ w ∷ []) else
        holder.words) ≡ length holder.words
    go true = length-set holder.words q (words_of holder.words q ++ w ∷ [])
    go false = refl

-- the world with one more word
abbrev giving : Match → WordWorld → ℕ → ℕ → ℕ → WordWorld
giving match world i q w = words_changed world i (give_word (seat_of match i) q w)

-- what machine j has more
abbrev HasMore : WordWorld → WordWorld → ℕ → ℕ → List ℕ → Type 0
HasMore world later j p more =
    (words_at later j p ≡ words_at world j p ++ more)
    × (count later j p ≡ count world j p + length more)

giving_at : (match : Match) (world : WordWorld) (i q w j p : ℕ) → Kept match world
    → HasMore world (giving match world i q w) j p (added match i q w j p)
giving_at match world i q w j p k = go (holder_after world i (give_word (seat_of match i) q w) j)
  where
    -- nothing
    none : words_at (giving match world i q w) j p ≡ words_at world j p
        → count (giving match world i q w) j p ≡ count world j p
        → added match i q w j p ≡ []
        → HasMore world (giving match world i q w) j p (added match i q w j p)
    none words has e =
        subst (HasMore world (giving match world i q w) j p) (sym e)
        (words ∙ sym (append-nil (words_at world j p)), omega (arith, has))

    go : Alters world i (give_word (seat_of match i) q w) j
        → HasMore world (giving match world i q w) j p (added match i q w j p)
    go (inl s) = none (ap (λ (h : Holder). words_of h.words p) s.0)
        (ap (λ (h : Holder). slice_index h.mesh.has p) s.0)
        (added_not match i q w j p (λ o l inside e same.
        absurd (omega (arith, s.1 (sym e), l, e, holders_many match world k))))
    go (inr c) = split (given_at match i q w (holder_at world i) p
        (mesh_sized match world i k inside) (k.full i inside))
      where
        inside : i < match.machines
        inside = omega (arith, c.1, holders_many match world k)

        words_then : words_at (giving match world i q w) j p
            ≡ words_of (given match i q w (holder_at world i)).words p
        words_then = ap (λ (h : Holder). words_of h.words p) c.2

        has_then : count (giving match world i q w) j p
            ≡ slice_index (given match i q w (holder_at world i)).mesh.has p
        has_then = ap (λ (h : Holder). slice_index h.mesh.has p) c.2

        words_here : words_at world i p ≡ words_at world j p
        words_here = ap (λ (n : ℕ). words_at world n p) (sym c.0)

        has_here : count world i p ≡ count world j p
        has_here = ap (λ (n : ℕ). count world n p) (sym c.0)

        split : IsGiven match i q w p (holder_at world i) (given match i q w (holder_at world i))
            → HasMore world (giving match world i q w) j p (added match i q w j p)
        split (inl s) = none (words_then ∙ (s.0 ∙ words_here)) (has_then ∙ (s.1 ∙ has_here))
            (added_not match i q w j p (λ o l below e same. s.2 same (o ∙ sym e) below))
        split (inr s) =
            subst (HasMore world (giving match world i q w) j p)
            (sym (added_is match i q w j p (s.1 ∙ sym c.0) (omega (arith, inside, c.0)) s.2
            (sym c.0) s.0)) (
              words_then ∙ (s.3 ∙ ap (λ (l : List ℕ). l ++ w ∷ []) words_here),
              omega (arith, has_then, s.4, has_here),
            )

pub gives_go : (match : Match) (world : WordWorld) (i q w : ℕ) → Kept match world
    → Goes match world (giving match world i q w) (λ p. added match i q w (owner_in match p) p)
gives_go match world i q w k = record {
  same_sent = changed_sent world i (give_word (seat_of match i) q w);
  grows = λ p. (giving_at match world i q w (owner_in match p) p k).0;
  full = λ j l. full j l (holder_after world i (give_word (seat_of match i) q w) j);
  many = many;
  front = λ j p. front j p (cases_eq (owner_in match p) j);
}
  where
    full : (j : ℕ) → j < match.machines → Alters world i (give_word (seat_of match i) q w) j
        → length (holder_at (giving match world i q w) j).words ≡ PLAYER_LIMIT
    full j l (inl s) = ap (λ (h : Holder). length h.words) s.0 ∙ k.full j l
    full j l (inr c) = ap (λ (h : Holder). length h.words) c.2
        ∙ (given_full match i q w (holder_at world i)
        ∙ k.full i (omega (arith, c.1, holders_many match world k)))

    many : (p : ℕ) → length (owned match (giving match world i q w) p)
        ≡ count (giving match world i q w) (owner_in match p) p
    many p =
        let more = giving_at match world i q w (owner_in match p) p k in
        ap (λ (l : List ℕ). length l) more.0
        ∙ (length-append (owned match world p) (added match i q w (owner_in match p) p)
        ∙ (ap (λ (n : ℕ). n + length (added match i q w (owner_in match p) p)) (k.many p)
        ∙ sym more.1))

    front : (j p : ℕ) → (owner_in match p ≡ j) ⊎ (owner_in match p ≡ j → ⊥)
        → words_at (giving match world i q w) j p
        ≡ take (count (giving match world i q w) j p) (owned match (giving match world i q w) p)
    front j p (inl e) =
        subst (λ (n : ℕ). words_at (giving match world i q w) n p
        ≡ take (count (giving match world i q w) n p) (owned match (giving match world i q w) p)) e
        (sym (take_all (count (giving match world i q w) (owner_in match p) p)
        (owned match (giving match world i q w) p) (omega (arith, many p))))
    front j p (inr o) =
        let more = subst (HasMore world (giving match world i q w) j p)
        (added_not match i q w j p (λ e l inside s same. o e))
        (giving_at match world i q w j p k) in
        more.0
        ∙ (append-nil (words_at world j p)
        ∙ (k.front j p
        ∙ (sym (front_stays (count world j p) (owned match world p)
        (added match i q w (owner_in match p) p) (counts_most match world j p k))
        ∙ (ap (take (count world j p))
        (sym (giving_at match world i q w (owner_in match p) p k).0)
        ∙ ap (λ (n : ℕ). take n (owned match (giving match world i q w) p))
        (omega (arith, more.1))))))

-- ---- a machine tells

told_past : (match : Match) (i m : ℕ) (room : List ℕ) (machine : Machine) (p : ℕ)
    → length machine.has ≤ p
    → offer_at (tell (seat_of match i) m room machine) p ≡ none_offered
unfolding tell
told_past match i m room machine p past =
    past_places (offer_of (seat_of match i) machine m room) machine.has p none_offered past

told_cut : (match : Match) (world : WordWorld) (i m : ℕ) (room : List ℕ) → Kept match world
    → IsCut match world (tell_words (seat_of match i) m room (holder_at world i))
unfolding tell_words
told_cut match world i m room k p = go (cases_lt p (length (holder_at world i).mesh.has))
  where
    packet : Packet
    packet = tell (seat_of match i) m room (holder_at world i).mesh

    go : (p < length (holder_at world i).mesh.has) ⊎ (length (holder_at world i).mesh.has ≤ p)
        → words_of (at_places (λ q. offered_words
        (offer_at (tell (seat_of match i) m room (holder_at world i).mesh) q) (words_at world i q))
        (holder_at world i).mesh.has) p
        ≡ slice (offer_at (tell (seat_of match i) m room (holder_at world i).mesh) p).first
        (offer_at (tell (seat_of match i) m room (holder_at world i).mesh) p).end
        (owned match world p)
    go (inl inside) =
        at_place (λ q. offered_words (offer_at packet q) (words_at world i q))
        (holder_at world i).mesh.has p [] inside
        ∙ (ap (slice (offer_at packet p).first (offer_at packet p).end) (k.front i p)
        ∙ slice_of_front (offer_at packet p).first (offer_at packet p).end (count world i p)
        (owned match world p) (tells_had match i m room (holder_at world i).mesh p)
        (counts_most match world i p k))
    go (inr past) =
        past_places (λ q. offered_words (offer_at packet q) (words_at world i q))
        (holder_at world i).mesh.has p [] past
        ∙ sym (ap (λ (o : Offer). slice o.first o.end (owned match world p))
        (told_past match i m room (holder_at world i).mesh p past))

abbrev with_parcel : WordWorld → Parcel → WordWorld
with_parcel world parcel = record world { sent = parcel ∷ world.sent }

parcel_keeps : (match : Match) (world : WordWorld) (parcel : Parcel) → Kept match world
    → IsCut match world parcel → Counts match (with_parcel world parcel)
    → Kept match (with_parcel world parcel)
parcel_keeps match world parcel k cut c = record {
  inv = c.inv;
  sized = c.sized;
  full = k.full;
  many = k.many;
  front = k.front;
  parcels = λ q was. each q was;
}
  where
    each : (q : Parcel) → (q ≡ parcel) ⊎ Handed q world.sent
        → IsCut match (with_parcel world parcel) q
    each q (inl e) = subst (λ (r : Parcel). IsCut match world r) (sym e) cut
    each q (inr was) = k.parcels q was

-- ---- any step

-- a step keeps all, and adds to what an owner has what it gave
pub record Stepped (match : Match) (world later : WordWorld) (step : WordStep) : Type 0 where
  pub kept : Kept match later
  pub grows : (p : ℕ) → p < PLAYER_LIMIT → owner_in match p < match.machines
      → owned match later p ≡ owned match world p ++ given_in step (owner_in match p) p

-- no word is given
none_given : (match : Match) (world later : WordWorld) → Kept match world → Counts match later
    → Takes match world later → Kept match later
none_given match world later k c t =
    goes_kept match world later (λ p. []) k c (takes_go match world later k t)

none_grows : (match : Match) (world later : WordWorld) → Kept match world → Takes match world later
    → (p : ℕ) → owned match later p ≡ owned match world p ++ []
none_grows match world later k t p = (takes_go match world later k t).grows p

given_here : (match : Match) (i q w p : ℕ) → p < PLAYER_LIMIT → owner_in match p < match.machines
    → added match i q w (owner_in match p) p ≡ given_in (Gives i q w) (owner_in match p) p
given_here match i q w p inside l =
    rw (
      eq-eqb (owner_in match p) (owner_in match p) refl,
      lt-ltb (owner_in match p) match.machines l,
      lt-ltb p PLAYER_LIMIT inside,
    )
    refl

tells_step : (match : Match) (world : WordWorld) (i m : ℕ) (room : List ℕ) → Kept match world
    → Counts match (words_told match world i m room)
    → Stepped match world (words_told match world i m room) (Tells i m room)
unfolding words_told
tells_step match world i m room k = go (cases_lt i (length world.holders))
  where
    same : (later : WordWorld) → later.holders ≡ world.holders → Kept match later
        → Stepped match world later (Tells i m room)
    same later e kept = record {
      kept = kept;
      grows = λ p inside l.
          ap (λ (hs : List Holder). words_of (get_or hs (owner_in match p) no_holder).words p) e
          ∙ sym (append-nil (owned match world p));
    }

    go : (i < length world.holders) ⊎ (length world.holders ≤ i)
        → Counts match (option_map_or (λ holder. record world {
          sent = tell_words (seat_of match i) m room holder ∷ world.sent;
        }) (slice_get world.holders i) world)
        → Stepped match world (option_map_or (λ holder. record world {
          sent = tell_words (seat_of match i) m room holder ∷ world.sent;
        }) (slice_get world.holders i) world) (Tells i m room)
    go (inl l) = rw (slice_get-get_or world.holders i no_holder l)
        (λ c.
        same (with_parcel world (tell_words (seat_of match i) m room (holder_at world i))) refl
        (parcel_keeps match world (tell_words (seat_of match i) m room (holder_at world i)) k
        (told_cut match world i m room k) c))
    go (inr g) = rw (slice_get_past world.holders i g) (λ c. same world refl k)

hears_step : (match : Match) (world : WordWorld) (i n : ℕ) (most : List ℕ) → Kept match world
    → Counts match (words_after match world (Hears i n most))
    → Stepped match world (words_after match world (Hears i n most)) (Hears i n most)
unfolding words_after
hears_step match world i n most k c = go (slice_get world.sent n) refl c
  where
    go : (found : Option Parcel) → slice_get world.sent n ≡ found
        → Counts match (option_map_or
        (λ parcel. words_changed world i (hear_words (seat_of match i) most parcel)) found world)
        → Stepped match world (option_map_or
        (λ parcel. words_changed world i (hear_words (seat_of match i) most parcel)) found world)
        (Hears i n most)
    go None e counts = record {
      kept = k;
      grows = λ p inside l. sym (append-nil (owned match world p));
    }
    go (Some parcel) e counts =
        let later = words_changed world i (hear_words (seat_of match i) most parcel) in
        let takes = hears_takes match world i most parcel k
        (found_handed world.sent n parcel e) in
        record {
          kept = none_given match world later k counts takes;
          grows = λ p inside l. none_grows match world later k takes p;
        }

machine_step : (match : Match) (world : WordWorld) (i : ℕ) (f : Machine → Machine)
    (step : WordStep) → ((p : ℕ) → given_in step (owner_in match p) p ≡ [])
    → ((machine : Machine) → (f machine).has ≡ machine.has) → Kept match world
    → Counts match (words_changed world i (with_machine f))
    → Stepped match world (words_changed world i (with_machine f)) step
machine_step match world i f step nothing same k c =
    let later = words_changed world i (with_machine f) in
    let takes = machine_takes match world i f same k in
    record {
      kept = none_given match world later k c takes;
      grows = λ p inside l. none_grows match world later k takes p
          ∙ ap (λ (more : List ℕ). owned match world p ++ more) (sym (nothing p));
    }

gives_step : (match : Match) (world : WordWorld) (i q w : ℕ) → Kept match world
    → Counts match (giving match world i q w)
    → Stepped match world (giving match world i q w) (Gives i q w)
gives_step match world i q w k c =
    let goes = gives_go match world i q w k in
    record {
      kept = goes_kept match world (giving match world i q w)
          (λ p. added match i q w (owner_in match p) p) k c goes;
      grows = λ p inside l. goes.grows p
          ∙ ap (λ (more : List ℕ). owned match world p ++ more)
          (given_here match i q w p inside l);
    }

step_counts : (match : Match) (world : WordWorld) (step : WordStep) → Kept match world
    → Counts match (words_after match world step)
step_counts match world step k = record {
  inv = subst (Invariant match) (sym (step_counted match world step))
      (steps_keep match (counts_of world) (counted step ∷ []) k.inv);
  sized = subst (AllSized match) (sym (step_counted match world step))
      (steps_sized match (counts_of world) (counted step ∷ []) k.sized);
}

step_of : (match : Match) (world : WordWorld) (step : WordStep) → Kept match world
    → Counts match (words_after match world step)
    → Stepped match world (words_after match world step) step
unfolding words_after
step_of match world (Gives i q w) k c = gives_step match world i q w k c
step_of match world (Leaves i m) k c =
    machine_step match world i (leave (seat_of match i) m) (Leaves i m) (λ p. refl)
    (leave_has (seat_of match i) m) k c
step_of match world (Tells i m room) k c = tells_step match world i m room k c
step_of match world (Hears i n most) k c = hears_step match world i n most k c
step_of match world (LetsLeave i) k c =
    machine_step match world i (left (seat_of match i)) (LetsLeave i) (λ p. refl)
    (left_has (seat_of match i)) k c

pub stepped : (match : Match) (world : WordWorld) (step : WordStep) → Kept match world
    → Stepped match world (words_after match world step) step
stepped match world step k = step_of match world step k (step_counts match world step k)
