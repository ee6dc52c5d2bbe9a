-- In a world of words counts rise, and who has left has left.
use Rattle.std.proofs.Common.{◌≡◌, ◌∙◌, ◌⊎◌, ℕ, ◌≤◌, List, [], ◌∷◌, ◌++◌, map, refl, ap, sym, arith, inl, inr, Some}
use Rattle.std.specs.Prelude.{slice_index}
use Rattle.std.proofs.lemmas.List.{map-append}
use Rattle.roll_mesh.proofs.Agreement.{has_left, steps_stay}
use Rattle.roll_mesh.proofs.Handed.{count}
use Rattle.roll_mesh.proofs.Holders.{counts_are_played, machine_of}
use Rattle.roll_mesh.proofs.Moves.{step_moves, Moves, Telling}
use Rattle.roll_mesh.specs.Laws.{machine_at}
use Rattle.roll_mesh.specs.Machines.{left_at}
use Rattle.roll_mesh.specs.Words.{counted, counts_of, first_words, holder_at, words_after_all, WordStep, WordWorld}
use Rattle.roll_mesh.specs.Worlds.{after, after_all, first_world, played, Match, Step, World}
use Rattle.roll_mesh.specs.declared.machine.Machine.{Machine}
use Rattle.roll_peer.proofs.Coming.{after_both}
use Rattle.roll_peer.proofs.Standing.{IsFrom}

world_both : (match : Match) (w : World) (xs ys : List Step) → after_all match w (xs ++ ys) ≡ after_all match (after_all match w xs) ys
world_both match w [] ys = refl
world_both match w (x ∷ xs) ys = world_both match (after match w x) xs ys

steps_rise : (match : Match) (w : World) (steps : List Step) (i p : ℕ)
    → slice_index (machine_at w i).has p ≤ slice_index (machine_at (after_all match w steps) i).has p
steps_rise match w [] i p = omega arith
steps_rise match w (step ∷ steps) i p = go (step_moves match w step) (steps_rise match (after match w step) steps i p)
  where
    go : Moves match w (after match w step) ⊎ Telling match w (after match w step)
        → slice_index (machine_at (after match w step) i).has p ≤ slice_index (machine_at (after_all match (after match w step) steps) i).has p
        → slice_index (machine_at w i).has p ≤ slice_index (machine_at (after_all match (after match w step) steps) i).has p
    go (inl moves) more = omega (arith, (moves.each i).rises p, more)
    go (inr t) more = omega (arith, ap (λ (x : World). slice_index (machine_at x i).has p) t.is, more)

module _ (match : Match) (old : WordWorld) (from : IsFrom match old) where
  counts_old : counts_of old ≡ played match (map counted from.0)
  counts_old = ap counts_of (sym from.1) ∙ counts_are_played match from.0

  -- who has left has left at as many words as there are
  pub had_left : (i p n : ℕ) → left_at (holder_at old i).mesh p ≡ Some n → count old i p ≡ n
  had_left i p n e =
      ap (λ (m : Machine). slice_index m.has p) (sym (machine_of old i))
      ∙ ap (λ (w : World). slice_index (machine_at w i).has p) counts_old
      ∙ has_left match (map counted from.0) i p n
      (ap (λ (w : World). left_at (machine_at w i) p) (sym counts_old) ∙ ap (λ (m : Machine). left_at m p) (machine_of old i) ∙ e)

  module _ (more : List WordStep) where
    abbrev new : WordWorld
    new = words_after_all match old more

    counts_new : counts_of new ≡ after_all match (counts_of old) (map counted more)
    counts_new =
        ap (λ (w : WordWorld). counts_of (words_after_all match w more)) (sym from.1)
        ∙ ap counts_of (sym (after_both match (first_words match) from.0 more))
        ∙ counts_are_played match (from.0 ++ more)
        ∙ ap (λ (steps : List Step). after_all match (first_world match) steps) (map-append counted from.0 more)
        ∙ world_both match (first_world match) (map counted from.0) (map counted more)
        ∙ ap (λ (w : World). after_all match w (map counted more)) (sym counts_old)

    pub rise : (i p : ℕ) → count old i p ≤ count new i p
    rise i p =
        let before : slice_index (machine_at (counts_of old) i).has p ≡ count old i p =
        ap (λ (m : Machine). slice_index m.has p) (machine_of old i) in
        let after_it : slice_index (machine_at (after_all match (counts_of old) (map counted more)) i).has p ≡ count new i p =
        ap (λ (w : World). slice_index (machine_at w i).has p) (sym counts_new)
        ∙ ap (λ (m : Machine). slice_index m.has p) (machine_of new i) in
        omega (arith, steps_rise match (counts_of old) (map counted more) i p, before, after_it)

    pub stay : (i p n : ℕ) → left_at (holder_at old i).mesh p ≡ Some n → left_at (holder_at new i).mesh p ≡ Some n
    stay i p n e =
        ap (λ (m : Machine). left_at m p) (sym (machine_of new i))
        ∙ ap (λ (w : World). left_at (machine_at w i) p) counts_new
        ∙ steps_stay match (counts_of old) (map counted more) i p n (ap (λ (m : Machine). left_at m p) (machine_of old i) ∙ e)
