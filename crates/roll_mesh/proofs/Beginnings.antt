-- The laws of the words.
use Rattle.std.proofs.Common.{◌≡◌, ℕ, ◌<◌, ◌≤◌, List, [], ◌∷◌, ◌++◌, length, get_or, refl, sym, ◌∙◌, ap, arith, inl, inr, subst}
use Rattle.std.specs.Prelude.{◌⊎◌, replicate, take, drop}
use Rattle.std.proofs.lemmas.Bool.{cases_lt}
use Rattle.std.proofs.lemmas.List.{append-nil, append_assoc, get_or_past, get_or-replicate, length-replicate, length-take-le, take_all, take-append-drop}
use Rattle.roll_mesh.specs.declared.limits.TheConstants.{PLAYER_LIMIT}
use Rattle.roll_mesh.specs.Laws.{has_at, owner_in}
use Rattle.roll_mesh.specs.Worlds.{Match, World}
use Rattle.roll_mesh.specs.Words.{Holder, WordWorld, WordStep, first_holder, first_words, words_after, words_after_all, words_played, no_holder, holder_at, words_of, words_at, given_in, given_by, IsBeginning, BeginsTheOwners, OwnersHaveWhatTheyGave, TheyHaveWhatWasGiven, CountsAreLengths}
use Rattle.roll_mesh.proofs.Invariant.{Invariant, always, replicated}
use Rattle.roll_mesh.proofs.Reached.{AllSized, always_sized}
use Rattle.roll_mesh.proofs.Holders.{first_counted, counts_are_played}
use Rattle.roll_mesh.proofs.Handed.{count, count_is, counts_most, owned, holders_many, Kept}
use Rattle.roll_mesh.proofs.WordSteps.{stepped}

-- ---- the start

-- a holder without words
abbrev IsEmpty : Holder → Type 0
IsEmpty holder = (p : ℕ) → (words_of holder.words p ≡ []) × (get_or holder.mesh.has p 0 ≡ 0)

first_empty : (match : Match) (i : ℕ) → IsEmpty (holder_at (first_words match) i)
first_empty match i = go (cases_lt i match.machines)
  where
    go : (i < match.machines) ⊎ (match.machines ≤ i)
        → IsEmpty (get_or (replicate match.machines first_holder) i no_holder)
    go (inl l) =
        subst IsEmpty (sym (get_or-replicate match.machines i first_holder no_holder l))
        (λ p. (replicated 8 p [], replicated 8 p 0))
    go (inr g) =
        subst IsEmpty (sym (get_or_past (replicate match.machines first_holder) i no_holder
        (omega (arith, length-replicate match.machines first_holder))))
        (λ p. (refl, refl))

first_kept : (match : Match) → Kept match (first_words match)
first_kept match = record {
  inv = subst (Invariant match) (sym (first_counted match)) (always match []);
  sized = subst (AllSized match) (sym (first_counted match)) (always_sized match []);
  full = λ i l. ap (λ (h : Holder). length h.words)
      (get_or-replicate match.machines i first_holder no_holder l);
  many = λ p. rw (
    (first_empty match (owner_in match p) p).0,
    (first_empty match (owner_in match p) p).1,
  ) refl;
  front = λ i p. rw ((first_empty match i p).0, (first_empty match i p).1) refl;
  parcels = λ parcel was. absurd was;
}

-- ---- any steps

steps_kept : (match : Match) (world : WordWorld) (steps : List WordStep) → Kept match world
    → Kept match (words_after_all match world steps)
steps_kept match world [] k = k
steps_kept match world (step ∷ steps) k =
    steps_kept match (words_after match world step) steps (stepped match world step k).kept

steps_grow : (match : Match) (world : WordWorld) (steps : List WordStep) (p : ℕ)
    → Kept match world → p < PLAYER_LIMIT → owner_in match p < match.machines
    → owned match (words_after_all match world steps) p
    ≡ owned match world p ++ given_by steps (owner_in match p) p
steps_grow match world [] p k inside l = sym (append-nil (owned match world p))
steps_grow match world (step ∷ steps) p k inside l =
    let s = stepped match world step k in
    steps_grow match (words_after match world step) steps p s.kept inside l
    ∙ (ap (λ (words : List ℕ). words ++ given_by steps (owner_in match p) p) (s.grows p inside l)
    ∙ append_assoc (owned match world p) (given_in step (owner_in match p) p)
    (given_by steps (owner_in match p) p))

pub always_kept : (match : Match) (steps : List WordStep) → Kept match (words_played match steps)
always_kept match steps = steps_kept match (first_words match) steps (first_kept match)

-- ---- the laws

pub begins_the_owners : BeginsTheOwners
begins_the_owners match steps i p =
    let k = always_kept match steps in
    let world = words_played match steps in
    let rest = drop (count world i p) (owned match world p) in (
      rest,
      sym (ap (λ (words : List ℕ). words ++ rest) (k.front i p)
          ∙ take-append-drop (count world i p) (owned match world p)),
    )

pub owners_have_what_they_gave : OwnersHaveWhatTheyGave
owners_have_what_they_gave match steps p inside l =
    steps_grow match (first_words match) steps p (first_kept match) inside l
    ∙ ap (λ (words : List ℕ). words ++ given_by steps (owner_in match p) p)
    (first_empty match (owner_in match p) p).0

-- there are no words at no machine, and none of no player
no_machine_has : (match : Match) (world : WordWorld) (i p : ℕ) → Kept match world
    → match.machines ≤ i → words_at world i p ≡ []
no_machine_has match world i p k g = ap (λ (h : Holder). words_of h.words p)
    (get_or_past world.holders i no_holder (omega (arith, holders_many match world k)))

no_player : (match : Match) (world : WordWorld) (i p : ℕ) → Kept match world → PLAYER_LIMIT ≤ p
    → words_at world i p ≡ []
no_player match world i p k past = go (cases_lt i match.machines)
  where
    go : (i < match.machines) ⊎ (match.machines ≤ i) → words_at world i p ≡ []
    go (inl l) = get_or_past (holder_at world i).words p [] (omega (arith, k.full i l))
    go (inr g) = no_machine_has match world i p k g

pub they_have_what_was_given : TheyHaveWhatWasGiven
they_have_what_was_given match steps i p =
    go (cases_lt p PLAYER_LIMIT) (cases_lt (owner_in match p) match.machines)
  where
    world : WordWorld
    world = words_played match steps

    nothing : words_at world i p ≡ []
        → IsBeginning (words_at world i p) (given_by steps (owner_in match p) p)
    nothing e = (
      given_by steps (owner_in match p) p,
      ap (λ (words : List ℕ). words ++ given_by steps (owner_in match p) p) (sym e),
    )

    go : (p < PLAYER_LIMIT) ⊎ (PLAYER_LIMIT ≤ p)
        → (owner_in match p < match.machines) ⊎ (match.machines ≤ owner_in match p)
        → IsBeginning (words_at world i p) (given_by steps (owner_in match p) p)
    go (inl inside) (inl l) = subst (IsBeginning (words_at world i p))
        (owners_have_what_they_gave match steps p inside l) (begins_the_owners match steps i p)
    go (inr past) l = nothing (no_player match world i p (always_kept match steps) past)
    go (inl inside) (inr g) =
        let k = always_kept match steps in
        nothing
        (k.front i p
        ∙ (ap (take (count world i p)) (no_machine_has match world (owner_in match p) p k g)
        ∙ take_all (count world i p) [] (omega arith)))

pub counts_are_lengths : CountsAreLengths
counts_are_lengths match steps i p =
    let k = always_kept match steps in
    let world = words_played match steps in
    sym (ap (λ (w : World). has_at w i p) (counts_are_played match steps))
    ∙ (count_is world i p
    ∙ sym (ap (λ (words : List ℕ). length words) (k.front i p)
    ∙ length-take-le (count world i p) (owned match world p) (counts_most match world i p k)))
