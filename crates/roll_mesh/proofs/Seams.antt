-- Where a match closes, those who stay close it alike.
use Rattle.std.proofs.Common.{◌≡◌, ℕ, ◌≤◌, List, refl, sym, ◌∙◌, ap, arith, inl, inr, Option, Some, None}
use Rattle.std.specs.Prelude.{◌⊎◌, min, map, take, IsSome}
use Rattle.std.specs.Option.{option_map_or}
use Rattle.std.proofs.lemmas.Bool.{false≢true}
use Rattle.std.proofs.lemmas.List.{take-take}
use Rattle.roll_mesh.specs.Laws.{has_at, left_of}
use Rattle.roll_mesh.specs.Seams.{IsKnown, closed_at, TheyCloseAlike, OfOneCountOnePast}
use Rattle.roll_mesh.specs.Words.{WordStep, words_at, words_played, counted}
use Rattle.roll_mesh.specs.Worlds.{Match, Step, World, played}
use Rattle.roll_mesh.proofs.Agreement.{who_stays_has_as_many, has_left}
use Rattle.roll_mesh.proofs.Handed.{owned, count, count_is}
use Rattle.roll_mesh.proofs.Beginnings.{always_kept}
use Rattle.roll_mesh.proofs.Holders.{counts_are_played}

pub they_close_alike : TheyCloseAlike
they_close_alike match steps i j p f in_i in_j known_i known_j i_j j_i =
    go (left_of (played match steps) i p) refl (left_of (played match steps) j p) refl known_i
    known_j
  where
    world : World
    world = played match steps

    go : (a : Option ℕ) → left_of world i p ≡ a → (b : Option ℕ) → left_of world j p ≡ b
        → (f ≤ has_at world i p) ⊎ IsSome a → (f ≤ has_at world j p) ⊎ IsSome b
        → option_map_or (λ n. min n f) a f ≡ option_map_or (λ n. min n f) b f
    go None ea None eb ki kj = refl
    go (Some n) ea None eb ki (inr none) = absurd (false≢true none)
    go (Some n) ea None eb ki (inl l) =
        omega (arith, l, who_stays_has_as_many match steps i j p n in_j ea i_j)
    go None ea (Some m) eb (inr none) kj = absurd (false≢true none)
    go None ea (Some m) eb (inl l) kj =
        omega (arith, l, who_stays_has_as_many match steps j i p m in_i eb j_i)
    go (Some n) ea (Some m) eb ki kj = ap (λ (k : ℕ). min k f)
        (sym (has_left match steps i p n ea) ∙ who_stays_has_as_many match steps j i p m in_i eb j_i)

-- what is closed is there
closed_had : (match : Match) (steps : List Step) (i p f : ℕ)
    → IsKnown (played match steps) i p f
    → closed_at (played match steps) i p f ≤ has_at (played match steps) i p
closed_had match steps i p f known = go (left_of (played match steps) i p) refl known
  where
    go : (a : Option ℕ) → left_of (played match steps) i p ≡ a
        → (f ≤ has_at (played match steps) i p) ⊎ IsSome a
        → option_map_or (λ n. min n f) a f ≤ has_at (played match steps) i p
    go None ea (inl l) = l
    go None ea (inr none) = absurd (false≢true none)
    go (Some n) ea known = omega (arith, has_left match steps i p n ea)

-- what is closed is a first part of what the owner has
closed_owned : (match : Match) (steps : List WordStep) (i p f : ℕ)
    → IsKnown (played match (map counted steps)) i p f
    → take (closed_at (played match (map counted steps)) i p f)
    (words_at (words_played match steps) i p)
    ≡ take (closed_at (played match (map counted steps)) i p f)
    (owned match (words_played match steps) p)
closed_owned match steps i p f known =
    let k = always_kept match steps in
    let world = words_played match steps in
    let closed = closed_at (played match (map counted steps)) i p f in
    ap (take closed) (k.front i p)
    ∙ take-take closed (count world i p) (owned match world p)
    (omega (
      arith,
      closed_had match (map counted steps) i p f known,
      count_is world i p,
      ap (λ (w : World). has_at w i p) (counts_are_played match steps),
    ))

pub of_one_count_one_past : OfOneCountOnePast
of_one_count_one_past match steps i j p f in_i in_j known_i known_j alike =
    closed_owned match steps i p f known_i
    ∙ (ap (λ (c : ℕ). take c (owned match (words_played match steps) p)) alike
    ∙ sym (closed_owned match steps j p f known_j))
