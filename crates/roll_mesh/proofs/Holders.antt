-- A world with the words, without them: it goes on as a world of machines does.
use Rattle.std.proofs.Common.{◌≡◌, ℕ, zero, suc, ◌<◌, ◌≤◌, List, [], ◌∷◌, length, get_or, set, map, refl, ◌∙◌, ap, inl, inr, Option, Some, None}
use Rattle.std.specs.Option.{option_map, option_map_or}
use Rattle.std.specs.Prelude.{◌⊎◌, replicate, slice_get}
use Rattle.std.proofs.Math.ListN.{get_or-map}
use Rattle.std.proofs.lemmas.Bool.{cases_eq, cases_lt}
use Rattle.std.proofs.lemmas.List.{map-set, get_or-set_same, get_or-set_other}
use Rattle.std.proofs.lemmas.Option.{slice_get-map, slice_get-get_or, slice_get_past}
use Rattle.roll_mesh.specs.declared.machine.Machine.{Machine}
use Rattle.roll_mesh.specs.declared.packet.Packet.{Packet}
use Rattle.roll_mesh.specs.Laws.{machine_at}
use Rattle.roll_mesh.specs.Machines.{give, leave, tell, hear, trimmed, left}
use Rattle.roll_mesh.specs.Worlds.{Match, World, seat_of, first_machine, first_world, changed, told, after, after_all}
use Rattle.roll_mesh.specs.Words.{Holder, Parcel, WordWorld, WordStep, Gives, Leaves, Tells, Hears, LetsLeave, give_word, tell_words, hear_words, with_machine, words_changed, words_told, words_after, words_after_all, first_words, first_holder, CountsArePlayed, counted, counts_of, no_holder, holder_at}

abbrev mesh_of : Holder → Machine
mesh_of holder = holder.mesh

abbrev packet_of : Parcel → Packet
packet_of parcel = parcel.packet

pub machine_of : (world : WordWorld) (i : ℕ)
    → machine_at (counts_of world) i ≡ (holder_at world i).mesh
machine_of world i = get_or-map mesh_of world.holders i no_holder

-- ---- a step of the counts

change_counted : (world : WordWorld) (i : ℕ) (change : Holder → Holder) (f : Machine → Machine)
    → ((holder : Holder) → (change holder).mesh ≡ f holder.mesh)
    → counts_of (words_changed world i change) ≡ changed (counts_of world) i f
unfolding words_changed changed
change_counted world i change f same =
    rw (slice_get-map mesh_of world.holders i) (go (slice_get world.holders i))
  where
    go : (found : Option Holder) → counts_of (option_map_or (λ holder. record world {
      holders = set world.holders i (change holder);
    }) found world) ≡ option_map_or (λ machine. record (counts_of world) {
      machines = set (map mesh_of world.holders) i (f machine);
    }) (option_map mesh_of found) (counts_of world)
    go None = refl
    go (Some holder) =
        rw (map-set mesh_of world.holders i (change holder), same holder) refl

tell_counted : (match : Match) (world : WordWorld) (i m : ℕ) (room : List ℕ)
    → counts_of (words_told match world i m room) ≡ told match (counts_of world) i m room
unfolding words_told told tell_words
tell_counted match world i m room =
    rw (slice_get-map mesh_of world.holders i) (go (slice_get world.holders i))
  where
    go : (found : Option Holder) → counts_of (option_map_or (λ holder. record world {
      sent = tell_words (seat_of match i) m room holder ∷ world.sent;
    }) found world) ≡ option_map_or (λ machine. record (counts_of world) {
      sent = tell (seat_of match i) m room machine ∷ map packet_of world.sent;
    }) (option_map mesh_of found) (counts_of world)
    go None = refl
    go (Some holder) = refl

hear_counted : (match : Match) (world : WordWorld) (i k : ℕ) (most : List ℕ)
    → counts_of (words_after match world (Hears i k most))
    ≡ after match (counts_of world) (counted (Hears i k most))
unfolding words_after after hear_words
hear_counted match world i k most =
    rw (slice_get-map packet_of world.sent k) (go (slice_get world.sent k))
  where
    go : (found : Option Parcel) → counts_of (option_map_or
        (λ parcel. words_changed world i (hear_words (seat_of match i) most parcel)) found world)
        ≡ option_map_or (λ packet. changed (counts_of world) i
        (hear (seat_of match i) (trimmed most packet))) (option_map packet_of found)
        (counts_of world)
    go None = refl
    go (Some parcel) =
        change_counted world i (hear_words (seat_of match i) most parcel)
        (hear (seat_of match i) (trimmed most parcel.packet)) (λ holder. refl)

pub step_counted : (match : Match) (world : WordWorld) (step : WordStep)
    → counts_of (words_after match world step) ≡ after match (counts_of world) (counted step)
unfolding words_after after give_word
step_counted match world (Gives i p w) =
    change_counted world i (give_word (seat_of match i) p w) (give (seat_of match i) p)
    (λ holder. refl)
step_counted match world (Leaves i m) =
    change_counted world i (with_machine (leave (seat_of match i) m)) (leave (seat_of match i) m)
    (λ holder. refl)
step_counted match world (Tells i m room) = tell_counted match world i m room
step_counted match world (Hears i k most) = hear_counted match world i k most
step_counted match world (LetsLeave i) =
    change_counted world i (with_machine (left (seat_of match i))) (left (seat_of match i))
    (λ holder. refl)

steps_counted : (match : Match) (world : WordWorld) (steps : List WordStep)
    → counts_of (words_after_all match world steps)
    ≡ after_all match (counts_of world) (map counted steps)
steps_counted match world [] = refl
steps_counted match world (step ∷ steps) =
    steps_counted match (words_after match world step) steps
    ∙ ap (λ (w : World). after_all match w (map counted steps)) (step_counted match world step)

-- ---- who changes

-- machine j after machine i changed
abbrev pub Alters : WordWorld → ℕ → (Holder → Holder) → ℕ → Type 0
Alters world i change j =
    ((holder_at (words_changed world i change) j ≡ holder_at world j)
    × (j ≡ i → length world.holders ≤ i))
    ⊎ ((j ≡ i) × (i < length world.holders)
    × (holder_at (words_changed world i change) j ≡ change (holder_at world i)))

pub holder_after : (world : WordWorld) (i : ℕ) (change : Holder → Holder) (j : ℕ)
    → Alters world i change j
unfolding words_changed
holder_after world i change j = go (cases_lt i (length world.holders))
  where
    go : (i < length world.holders) ⊎ (length world.holders ≤ i)
        → ((holder_at (option_map_or (λ holder. record world
        { holders = set world.holders i (change holder) }) (slice_get world.holders i) world) j
        ≡ holder_at world j) × (j ≡ i → length world.holders ≤ i))
        ⊎ ((j ≡ i) × (i < length world.holders)
        × (holder_at (option_map_or (λ holder. record world
        { holders = set world.holders i (change holder) }) (slice_get world.holders i) world) j
        ≡ change (holder_at world i)))
    go (inr g) = rw (slice_get_past world.holders i g) (inl (refl, λ e. g))
    go (inl l) = rw (slice_get-get_or world.holders i no_holder l) (split (cases_eq j i))
      where
        split : (j ≡ i) ⊎ (j ≡ i → ⊥)
            → ((get_or (set world.holders i (change (holder_at world i))) j no_holder
            ≡ holder_at world j) × (j ≡ i → length world.holders ≤ i))
            ⊎ ((j ≡ i) × (i < length world.holders)
            × (get_or (set world.holders i (change (holder_at world i))) j no_holder
            ≡ change (holder_at world i)))
        split (inl e) = inr (
          e,
          l,
          rw e (get_or-set_same world.holders i (change (holder_at world i)) no_holder l),
        )
        split (inr o) = inl (
          get_or-set_other world.holders i j (change (holder_at world i)) no_holder o,
          λ e. absurd (o e),
        )

meshes : (n : ℕ) → map mesh_of (replicate n first_holder) ≡ replicate n first_machine
meshes zero = refl
meshes (suc n) = ap (λ (machines : List Machine). first_machine ∷ machines) (meshes n)

pub first_counted : (match : Match) → counts_of (first_words match) ≡ first_world match
first_counted match =
    ap (λ (machines : List Machine). record { machines = machines; sent = [] })
    (meshes match.machines)

pub counts_are_played : CountsArePlayed
counts_are_played match steps =
    steps_counted match (first_words match) steps
    ∙ ap (λ (w : World). after_all match w (map counted steps)) (first_counted match)
