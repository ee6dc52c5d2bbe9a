-- What holds of the words after any steps, and that each step keeps it: what a machine has of a
-- player is a front of what the owner has, and what a packet has is a slice of it.
use Rattle.std.proofs.Common.{◌≡◌, ℕ, zero, suc, ◌<◌, ◌≤◌, List, [], ◌∷◌, ◌++◌, length, set, map, refl, sym, ◌∙◌, ap, arith, inl, inr, subst, Option, Some, None}
use Rattle.std.specs.Option.{option_map_or}
use Rattle.std.specs.Prelude.{◌⊎◌, slice_get, slice_index, take}
use Rattle.std.proofs.lemmas.List.{append-nil, length-map, take_all}
use Rattle.roll_mesh.specs.declared.limits.TheConstants.{PLAYER_LIMIT}
use Rattle.roll_mesh.specs.declared.machine.Machine.{Machine}
use Rattle.roll_mesh.specs.Laws.{has_at, owner_in}
use Rattle.roll_mesh.specs.Machines.{offer_at}
use Rattle.roll_mesh.specs.Worlds.{Match}
use Rattle.roll_mesh.specs.Words.{Holder, Parcel, WordWorld, words_of, with_machine, words_changed, counts_of, holder_at, words_at}
use Rattle.roll_mesh.proofs.Changes.{Sent, Sized, none_some, some_same}
use Rattle.roll_mesh.proofs.Invariant.{Invariant}
use Rattle.roll_mesh.proofs.Reached.{AllSized}
use Rattle.roll_mesh.proofs.Slices.{slice, slice_stays}
use Rattle.roll_mesh.proofs.Holders.{machine_of, Alters, holder_after}

-- how many words of player p machine i counts
abbrev pub count : WordWorld → ℕ → ℕ → ℕ
count world i p = slice_index (holder_at world i).mesh.has p

-- the words of player p at its owner
abbrev pub owned : Match → WordWorld → ℕ → List ℕ
owned match world p = words_at world (owner_in match p) p

-- a parcel that was sent
abbrev pub Handed : Parcel → List Parcel → Type 0
Handed parcel [] = ⊥
Handed parcel (q ∷ qs) = (parcel ≡ q) ⊎ Handed parcel qs

-- its words are slices of what the owners have
abbrev pub IsCut : Match → WordWorld → Parcel → Type 0
IsCut match world parcel =
    (p : ℕ) → words_of parcel.words p
    ≡ slice (offer_at parcel.packet p).first (offer_at parcel.packet p).end (owned match world p)

pub record Kept (match : Match) (world : WordWorld) : Type 0 where
  pub inv : Invariant match (counts_of world)
  pub sized : AllSized match (counts_of world)
  pub full : (i : ℕ) → i < match.machines → length (holder_at world i).words ≡ PLAYER_LIMIT
  pub many : (p : ℕ) → length (owned match world p) ≡ count world (owner_in match p) p
  pub front : (i p : ℕ) → words_at world i p ≡ take (count world i p) (owned match world p)
  pub parcels : (parcel : Parcel) → Handed parcel world.sent → IsCut match world parcel

-- ---- what follows of the counts

pub holders_many : (match : Match) (world : WordWorld) → Kept match world
    → length world.holders ≡ match.machines
holders_many match world k =
    sym (length-map world.holders (λ (h : Holder). h.mesh)) ∙ k.inv.as_many

pub mesh_sized : (match : Match) (world : WordWorld) (i : ℕ) → Kept match world → i < match.machines
    → Sized (holder_at world i).mesh
mesh_sized match world i k l = subst Sized (machine_of world i) (k.sized i l)

pub count_is : (world : WordWorld) (i p : ℕ) → has_at (counts_of world) i p ≡ count world i p
count_is world i p = ap (λ (m : Machine). slice_index m.has p) (machine_of world i)

pub counts_most : (match : Match) (world : WordWorld) (i p : ℕ) → Kept match world
    → count world i p ≤ length (owned match world p)
counts_most match world i p k = omega (
  arith,
  k.inv.most i p,
  count_is world i p,
  count_is world (owner_in match p) p,
  k.many p,
)

handed_sent : (parcel : Parcel) (parcels : List Parcel) → Handed parcel parcels
    → Sent parcel.packet (map (λ (q : Parcel). q.packet) parcels)
handed_sent parcel [] h = absurd h
handed_sent parcel (q ∷ qs) (inl e) = inl (ap (λ (r : Parcel). r.packet) e)
handed_sent parcel (q ∷ qs) (inr h) = inr (handed_sent parcel qs h)

pub found_handed : (parcels : List Parcel) (k : ℕ) (parcel : Parcel)
    → slice_get parcels k ≡ Some parcel → Handed parcel parcels
found_handed [] k parcel h = absurd (none_some parcel h)
found_handed (p ∷ ps) zero parcel h = inl (sym (some_same p parcel h))
found_handed (p ∷ ps) (suc k) parcel h = inr (found_handed ps k parcel h)

-- no packet offers more than the owner has
pub parcel_end : (match : Match) (world : WordWorld) (parcel : Parcel) (p : ℕ) → Kept match world
    → Handed parcel world.sent
    → (offer_at parcel.packet p).end ≤ length (owned match world p)
parcel_end match world parcel p k was =
    let past = k.inv.past parcel.packet (handed_sent parcel world.sent was) in
    omega (
      arith,
      past.offered p,
      past.has p,
      k.inv.most parcel.packet.sender p,
      count_is world (owner_in match p) p,
      k.many p,
    )

-- ---- a step after which the owners' words go on

pub record Goes (match : Match) (world later : WordWorld) (more : ℕ → List ℕ) : Type 0 where
  pub same_sent : later.sent ≡ world.sent
  pub grows : (p : ℕ) → owned match later p ≡ owned match world p ++ more p
  pub full : (i : ℕ) → i < match.machines → length (holder_at later i).words ≡ PLAYER_LIMIT
  pub many : (p : ℕ) → length (owned match later p) ≡ count later (owner_in match p) p
  pub front : (i p : ℕ) → words_at later i p ≡ take (count later i p) (owned match later p)

-- the counts are kept
pub record Counts (match : Match) (later : WordWorld) : Type 0 where
  pub inv : Invariant match (counts_of later)
  pub sized : AllSized match (counts_of later)

pub goes_kept : (match : Match) (world later : WordWorld) (more : ℕ → List ℕ) → Kept match world
    → Counts match later → Goes match world later more → Kept match later
goes_kept match world later more k c g = record {
  inv = c.inv;
  sized = c.sized;
  full = g.full;
  many = g.many;
  front = g.front;
  parcels = λ parcel was p. cut parcel (subst (Handed parcel) g.same_sent was) p;
}
  where
    cut : (parcel : Parcel) → Handed parcel world.sent → IsCut match later parcel
    cut parcel was p =
        k.parcels parcel was p
        ∙ sym (ap (slice (offer_at parcel.packet p).first (offer_at parcel.packet p).end)
        (g.grows p) ∙ slice_stays (offer_at parcel.packet p).first
        (offer_at parcel.packet p).end (owned match world p) (more p)
        (parcel_end match world parcel p k was))

-- a step after which the owners have the words that they had
pub record Takes (match : Match) (world later : WordWorld) : Type 0 where
  pub same_sent : later.sent ≡ world.sent
  pub full : (i : ℕ) → i < match.machines → length (holder_at later i).words ≡ PLAYER_LIMIT
  pub still : (p : ℕ) → count later (owner_in match p) p ≡ count world (owner_in match p) p
  pub front : (i p : ℕ) → words_at later i p ≡ take (count later i p) (owned match world p)

pub takes_same : (match : Match) (world later : WordWorld) → Kept match world
    → Takes match world later
    → (p : ℕ) → owned match later p ≡ owned match world p
takes_same match world later k t p =
    t.front (owner_in match p) p
    ∙ take_all (count later (owner_in match p) p) (owned match world p)
    (omega (arith, t.still p, k.many p))

pub takes_go : (match : Match) (world later : WordWorld) → Kept match world
    → Takes match world later
    → Goes match world later (λ p. [])
takes_go match world later k t = record {
  same_sent = t.same_sent;
  grows = λ p. takes_same match world later k t p ∙ sym (append-nil (owned match world p));
  full = t.full;
  many = λ p. ap (λ (l : List ℕ). length l) (takes_same match world later k t p)
      ∙ (k.many p ∙ sym (t.still p));
  front = λ i p. t.front i p
      ∙ ap (λ (l : List ℕ). take (count later i p) l) (sym (takes_same match world later k t p));
}

-- ---- one machine changes

pub changed_sent : (world : WordWorld) (i : ℕ) (change : Holder → Holder)
    → (words_changed world i change).sent ≡ world.sent
unfolding words_changed
changed_sent world i change = go (slice_get world.holders i)
  where
    go : (found : Option Holder) → (option_map_or (λ holder. record world {
      holders = set world.holders i (change holder);
    }) found world).sent ≡ world.sent
    go None = refl
    go (Some holder) = refl

-- no words change
pub machine_takes : (match : Match) (world : WordWorld) (i : ℕ) (f : Machine → Machine)
    → ((machine : Machine) → (f machine).has ≡ machine.has) → Kept match world
    → Takes match world (words_changed world i (with_machine f))
machine_takes match world i f same k = record {
  same_sent = changed_sent world i (with_machine f);
  full = λ j l. ap (λ (ws : List (List ℕ)). length ws)
      (words_same j (holder_after world i (with_machine f) j)) ∙ k.full j l;
  still = λ p. ap (λ (has : List ℕ). slice_index has p) (has_same (owner_in match p)
      (holder_after world i (with_machine f) (owner_in match p)));
  front = λ j p. ap (λ (ws : List (List ℕ)). words_of ws p)
      (words_same j (holder_after world i (with_machine f) j))
      ∙ (k.front j p ∙ ap (λ (has : List ℕ). take (slice_index has p) (owned match world p))
      (sym (has_same j (holder_after world i (with_machine f) j))));
}
  where
    words_same : (j : ℕ) → Alters world i (with_machine f) j
        → (holder_at (words_changed world i (with_machine f)) j).words ≡ (holder_at world j).words
    words_same j (inl s) = ap (λ (h : Holder). h.words) s.0
    words_same j (inr c) = ap (λ (h : Holder). h.words) c.2
        ∙ ap (λ (n : ℕ). (holder_at world n).words) (sym c.0)

    has_same : (j : ℕ) → Alters world i (with_machine f) j
        → (holder_at (words_changed world i (with_machine f)) j).mesh.has
        ≡ (holder_at world j).mesh.has
    has_same j (inl s) = ap (λ (h : Holder). h.mesh.has) s.0
    has_same j (inr c) =
        ap (λ (h : Holder). h.mesh.has) c.2
        ∙ (same (holder_at world i).mesh
        ∙ ap (λ (n : ℕ). (holder_at world n).mesh.has) (sym c.0))
