-- The workers of a pool in their threads.
use Rattle.std.specs.Prelude.{◌≡◌, ◌≤◌, ℕ, List, [], map}
use Rattle.roll_pool.specs.Rings.{Place}
use Rattle.roll_pool.specs.Served.{Member}

-- room for what they hand back
abbrev pub HasRoomFor : {T : Type 0} → ℕ → List T → ℕ → Type 0
HasRoomFor workers items room = (items ≡ []) × (workers ≤ room)

-- their places, in order
abbrev pub places_in : {D : Type 0} → List (Member D) → List Place
places_in crew = map (λ member. member.end.place) crew
