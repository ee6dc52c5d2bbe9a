-- What a machine holds after steps of its own.
use Rattle.std.proofs.Common.{◌≡◌, ◌∙◌, ◌⊎◌, ◌≢◌, ℕ, zero, suc, ◌+◌, ◌-◌, ◌<◌, ◌≤◌, List, [], ◌∷◌, ◌++◌, length, get_or, take, refl, ap, sym, subst, arith, inl, inr, eq-eqb}
use Rattle.std.specs.Prelude.{◌==◌, if◌then◌else◌, nat_lt, slice_index, slice_index_or, slice_set}
use Rattle.std.proofs.lemmas.Bool.{cases_eq, cases_lt, le-ltb, lt-ltb, ne_eqb}
use Rattle.std.proofs.lemmas.List.{get_or-set_other, get_or-set_same, length-set, set-get_or, set-set}
use Rattle.std.proofs.lemmas.Option.{slice_get-get_or}
use Rattle.roll_mesh.specs.declared.machine.Machine.{Machine}
use Rattle.roll_mesh.specs.declared.seat.Seat.{Seat}
use Rattle.roll_mesh.specs.Machines.{at_places, give, owner_of}
use Rattle.roll_mesh.specs.Words.{give_word, holder_at, no_holder, words_after, words_after_all, words_changed, Gives, Holder, WordStep, WordWorld}
use Rattle.roll_mesh.specs.Worlds.{Match, seat_of}
use Rattle.roll_mesh.proofs.Places.{at_place, filled, length_places}

-- ---- steps of one machine

-- a world in which machine i has another holder
abbrev pub with_holder : WordWorld → ℕ → Holder → WordWorld
with_holder world i holder = record world { holders = slice_set world.holders i holder }

-- machine i comes to this by steps of the world
abbrev pub Comes : Match → WordWorld → ℕ → Holder → Type 0
Comes match world i holder =
    (steps : List WordStep) × (words_after_all match world steps ≡ with_holder world i holder)

pub comes_already : (match : Match) (world : WordWorld) (i : ℕ) → Comes match world i (holder_at world i)
comes_already match world i =
    ([], ap (λ (hs : List Holder). record world { holders = hs }) (sym (set-get_or world.holders i no_holder)))

pub after_both : (match : Match) (world : WordWorld) (xs ys : List WordStep)
    → words_after_all match world (xs ++ ys) ≡ words_after_all match (words_after_all match world xs) ys
after_both match world [] ys = refl
after_both match world (x ∷ xs) ys = after_both match (words_after match world x) xs ys

-- who is there changes
changed_is : (world : WordWorld) (i : ℕ) (holder : Holder) (change : Holder → Holder) → i < length world.holders
    → words_changed (with_holder world i holder) i change ≡ with_holder world i (change holder)
unfolding words_changed
changed_is world i holder change l =
    let many : i < length (slice_set world.holders i holder) = omega (arith, l, length-set world.holders i holder) in
    rw (slice_get-get_or (slice_set world.holders i holder) i no_holder many, get_or-set_same world.holders i holder no_holder l)
    (ap (λ (hs : List Holder). record world { holders = hs }) (set-set world.holders i holder (change holder)))

-- one step more of the machine
pub comes_by : (match : Match) (world : WordWorld) (i : ℕ) (holder : Holder) (step : WordStep) (change : Holder → Holder)
    → i < length world.holders
    → words_after match (with_holder world i holder) step ≡ words_changed (with_holder world i holder) i change
    → Comes match world i holder → Comes match world i (change holder)
comes_by match world i holder step change l e c = (
  c.0 ++ step ∷ [],
  after_both match world c.0 (step ∷ [])
      ∙ ap (λ (w : WordWorld). words_after match w step) c.1
      ∙ e ∙ changed_is world i holder change l,
)

-- ---- words that are given, of those that there are of each player

-- what a machine holds that has so many words of each player
abbrev pub held_to : (ℕ → List ℕ) → Machine → (ℕ → ℕ) → Holder
held_to words machine count = record {
  mesh = record machine { has = at_places count machine.has };
  words = at_places (λ p. take (count p) (words p)) machine.has;
}

same_places : {X Y : Type 0} (f g : ℕ → Y) (xs : List X) (d : Y) → ((k : ℕ) → k < length xs → f k ≡ g k)
    → at_places f xs ≡ at_places g xs
same_places f g xs d h =
    filled g xs (at_places f xs) d (length_places f xs) (λ k l. at_place f xs k d l ∙ h k l)

pub held_alike : (words : ℕ → List ℕ) (machine : Machine) (f g : ℕ → ℕ) → ((k : ℕ) → k < length machine.has → f k ≡ g k)
    → held_to words machine f ≡ held_to words machine g
held_alike words machine f g h =
    cc (
      same_places f g machine.has 0 h,
      same_places (λ p. take (f p) (words p)) (λ p. take (g p) (words p)) machine.has []
          (λ k l. ap (λ n. take n (words k)) (h k l)),
    )

-- the counts with another for one player
abbrev pub counted_as : ℕ → ℕ → (ℕ → ℕ) → ℕ → ℕ
counted_as p count counts q = if q == p then count else counts q

here_counted : (p count : ℕ) (counts : ℕ → ℕ) → counted_as p count counts p ≡ count
here_counted p count counts = rw (eq-eqb p p refl) refl

there_counted : (p count q : ℕ) (counts : ℕ → ℕ) → q ≢ p → counted_as p count counts q ≡ counts q
there_counted p count q counts apart = rw (ne_eqb q p apart) refl

-- one value of a list with a value for each place is another
set_place : {X Y : Type 0} (f g : ℕ → Y) (xs : List X) (p : ℕ) (y d : Y) → p < length xs → y ≡ g p
    → ((q : ℕ) → q ≢ p → f q ≡ g q) → slice_set (at_places f xs) p y ≡ at_places g xs
set_place f g xs p y d l e h =
    filled g xs (slice_set (at_places f xs) p y) d (length-set (at_places f xs) p y ∙ length_places f xs)
    (λ k inside. at k inside (cases_eq k p))
  where
    at : (k : ℕ) → k < length xs → (k ≡ p) ⊎ (k ≡ p → ⊥) → get_or (slice_set (at_places f xs) p y) k d ≡ g k
    at k inside (inl same) =
        rw same (get_or-set_same (at_places f xs) p y d (omega (arith, l, length_places f xs)) ∙ e)
    at k inside (inr apart) =
        get_or-set_other (at_places f xs) p k y d apart ∙ at_place f xs k d inside ∙ h k apart

take_more : (n : ℕ) (xs : List ℕ) → n < length xs → take n xs ++ slice_index xs n ∷ [] ≡ take (suc n) xs
take_more n [] l = absurd (omega (arith, l))
take_more zero (x ∷ xs) l = refl
take_more (suc n) (x ∷ xs) l = ap (λ (ys : List ℕ). x ∷ ys) (take_more n xs (omega (arith, l)))

-- the next word of an own player is given
given : (seat : Seat) (words : ℕ → List ℕ) (machine : Machine) (p : ℕ) (counts : ℕ → ℕ) → owner_of seat p ≡ seat.me
    → p < length machine.has → counts p < length (words p)
    → give_word seat p (slice_index (words p) (counts p)) (held_to words machine counts)
    ≡ held_to words machine (counted_as p (suc (counts p)) counts)
unfolding give_word give
given seat words machine p counts own l few =
    let next : ℕ → ℕ = counted_as p (suc (counts p)) counts in
    let front : ℕ → List ℕ = λ q. take (counts q) (words q) in
    let more : ℕ → List ℕ = λ q. take (next q) (words q) in
    let has-is : slice_index (at_places counts machine.has) p + 1 ≡ next p =
    ap (λ n. n + 1) (at_place counts machine.has p 0 l) ∙ omega (arith, here_counted p (suc (counts p)) counts) in
    let words-are : slice_index_or (at_places front machine.has) p [] ++ slice_index (words p) (counts p) ∷ [] ≡ more p =
    ap (λ (ws : List ℕ). ws ++ slice_index (words p) (counts p) ∷ []) (at_place front machine.has p [] l)
    ∙ take_more (counts p) (words p) few
    ∙ ap (λ n. take n (words p)) (sym (here_counted p (suc (counts p)) counts)) in
    rw (eq-eqb (owner_of seat p) seat.me own)
    (cc (
      set_place counts next machine.has p (slice_index (at_places counts machine.has) p + 1) 0 l has-is
          (λ q apart. sym (there_counted p (suc (counts p)) q counts apart)),
      set_place front more machine.has p
          (slice_index_or (at_places front machine.has) p [] ++ slice_index (words p) (counts p) ∷ []) [] l words-are
          (λ q apart. ap (λ n. take n (words q)) (sym (there_counted p (suc (counts p)) q counts apart))),
    ))

module _ (match : Match) (world : WordWorld) (i : ℕ) (words : ℕ → List ℕ) (machine : Machine)
    (inside : i < length world.holders) where
  given_step : (p word : ℕ) (holder : Holder)
      → words_after match (with_holder world i holder) (Gives i p word)
      ≡ words_changed (with_holder world i holder) i (give_word (seat_of match i) p word)
  unfolding words_after
  given_step p word holder = refl

  -- so many words of a player are given
  raised : (p n : ℕ) (counts : ℕ → ℕ) → owner_of (seat_of match i) p ≡ i → p < length machine.has
      → counts p + n ≤ length (words p) → Comes match world i (held_to words machine counts)
      → Comes match world i (held_to words machine (counted_as p (counts p + n) counts))
  raised p zero counts own l few c =
      subst (λ (h : Holder). Comes match world i h)
      (held_alike words machine counts (counted_as p (counts p + 0) counts) (λ k inside. sym (at k (cases_eq k p)))) c
    where
      at : (k : ℕ) → (k ≡ p) ⊎ (k ≡ p → ⊥) → counted_as p (counts p + 0) counts k ≡ counts k
      at k (inl same) = rw same (here_counted p (counts p + 0) counts ∙ omega arith)
      at k (inr apart) = there_counted p (counts p + 0) k counts apart
  raised p (suc n) counts own l few c =
      let before : ℕ → ℕ = counted_as p (counts p + n) counts in
      let here : before p ≡ counts p + n = here_counted p (counts p + n) counts in
      let word : ℕ = slice_index (words p) (before p) in
      subst (λ (h : Holder). Comes match world i h)
      (given (seat_of match i) words machine p before own l (omega (arith, here, few))
      ∙ held_alike words machine (counted_as p (suc (before p)) before) (counted_as p (counts p + suc n) counts)
      (λ k inside. at k (cases_eq k p)))
      (comes_by match world i (held_to words machine before) (Gives i p word) (give_word (seat_of match i) p word) inside
      (given_step p word (held_to words machine before))
      (raised p n counts own l (omega (arith, few)) c))
    where
      before : ℕ → ℕ
      before = counted_as p (counts p + n) counts

      at : (k : ℕ) → (k ≡ p) ⊎ (k ≡ p → ⊥)
          → counted_as p (suc (before p)) before k ≡ counted_as p (counts p + suc n) counts k
      at k (inl same) =
          rw same (here_counted p (suc (before p)) before ∙ ap (λ m. suc m) (here_counted p (counts p + n) counts)
          ∙ omega (arith, here_counted p (counts p + suc n) counts))
      at k (inr apart) =
          there_counted p (suc (before p)) k before apart ∙ there_counted p (counts p + n) k counts apart
          ∙ sym (there_counted p (counts p + suc n) k counts apart)

  -- the counts of the players before a place, and behind it the old ones
  abbrev up_to : (old new : ℕ → ℕ) → ℕ → ℕ → ℕ
  up_to old new place p = if nat_lt p place then new p else old p

  -- those of one player more
  raised_next : (old new : ℕ → ℕ) (place : ℕ) → place < length machine.has → old place ≤ new place
      → new place ≤ length (words place) → (owner_of (seat_of match i) place ≢ i → old place ≡ new place)
      → Comes match world i (held_to words machine (up_to old new place))
      → Comes match world i (held_to words machine (up_to old new (suc place)))
  raised_next old new place l lower few same before = go (cases_eq (owner_of (seat_of match i) place) i)
    where
      now : ℕ → ℕ
      now = up_to old new place

      still : now place ≡ old place
      still = rw (le-ltb place place (omega arith)) refl

      next : (k : ℕ) → (k ≡ place) ⊎ (k ≡ place → ⊥) → (count : ℕ) → count ≡ new place
          → counted_as place count now k ≡ up_to old new (suc place) k
      next k (inl e) count f =
          rw e (here_counted place count now ∙ f ∙ rw (lt-ltb place (suc place) (omega arith)) refl)
      next k (inr apart) count f = there_counted place count k now apart ∙ beside (cases_lt k place)
        where
          beside : (k < place) ⊎ (place ≤ k) → up_to old new place k ≡ up_to old new (suc place) k
          beside (inl less) = rw (lt-ltb k place less, lt-ltb k (suc place) (omega (arith, less))) refl
          beside (inr more) =
              let past : suc place ≤ k = omega (arith, more, apart) in
              rw (le-ltb k place more, le-ltb k (suc place) past) refl

      go : (owner_of (seat_of match i) place ≡ i) ⊎ (owner_of (seat_of match i) place ≡ i → ⊥)
          → Comes match world i (held_to words machine (up_to old new (suc place)))
      go (inl own) =
          let count : now place + (new place - old place) ≡ new place = omega (arith, still, lower) in
          subst (λ (h : Holder). Comes match world i h)
          (held_alike words machine (counted_as place (now place + (new place - old place)) now) (up_to old new (suc place))
          (λ k inside. next k (cases_eq k place) (now place + (new place - old place)) count))
          (raised place (new place - old place) now own l (omega (arith, count, few)) before)
      go (inr other) =
          subst (λ (h : Holder). Comes match world i h)
          (held_alike words machine now (up_to old new (suc place)) (λ k inside. at k (cases_eq k place))) before
        where
          at : (k : ℕ) → (k ≡ place) ⊎ (k ≡ place → ⊥) → now k ≡ up_to old new (suc place) k
          at k (inl e) = rw e (still ∙ same other ∙ rw (lt-ltb place (suc place) (omega arith)) refl)
          at k (inr apart) =
              sym (there_counted place (new place) k now apart) ∙ next k (inr apart) (new place) refl

  raised_to : (old new : ℕ → ℕ) (place : ℕ) → place ≤ length machine.has
      → ((p : ℕ) → p < length machine.has → old p ≤ new p)
      → ((p : ℕ) → p < length machine.has → new p ≤ length (words p))
      → ((p : ℕ) → p < length machine.has → owner_of (seat_of match i) p ≢ i → old p ≡ new p)
      → Comes match world i (held_to words machine old) → Comes match world i (held_to words machine (up_to old new place))
  raised_to old new zero l up few same c =
      subst (λ (h : Holder). Comes match world i h)
      (held_alike words machine old (up_to old new 0) (λ k inside. sym (rw (le-ltb k 0 (omega arith)) refl))) c
  raised_to old new (suc place) l up few same c =
      let inside : place < length machine.has = omega (arith, l) in
      raised_next old new place inside (up place inside) (few place inside) (same place inside)
      (raised_to old new place (omega (arith, l)) up few same c)

  -- all words of its own players that there are more of
  pub gives_all : (old new : ℕ → ℕ) → ((p : ℕ) → p < length machine.has → old p ≤ new p)
      → ((p : ℕ) → p < length machine.has → new p ≤ length (words p))
      → ((p : ℕ) → p < length machine.has → owner_of (seat_of match i) p ≢ i → old p ≡ new p)
      → Comes match world i (held_to words machine old) → Comes match world i (held_to words machine new)
  gives_all old new up few same c =
      subst (λ (h : Holder). Comes match world i h)
      (held_alike words machine (up_to old new (length machine.has)) new (λ k l. rw (lt-ltb k (length machine.has) l) refl))
      (raised_to old new (length machine.has) (omega arith) up few same c)
