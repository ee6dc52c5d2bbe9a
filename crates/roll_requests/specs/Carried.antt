-- What carrying out requests makes of the states elsewhere.
use Rattle.std.specs.Prelude.{ℕ, eqb, List, [], ◌∷◌, Option, Some, None, unwrap_or, if◌then◌else◌}
use Rattle.roll_frame.specs.declared.row.Cell.{Cell}
use Rattle.roll_requests.specs.declared.request.Request.{Request}
use Rattle.roll_requests.specs.declared.request.Request.TheVariants.{Load, Save, Advance, Free, LoadAside, SaveAside, AdvanceAside}

-- the current state elsewhere, the one that is run aside, and those in the slots
pub record Elsewhere (V : Type 0) : Type 0 where
  pub current : V
  pub aside : V
  pub slots : ℕ → Option V

module _ {V : Type 0} where
  -- the slots once one of them is filled or emptied
  abbrev pub stored : ℕ → Option V → (ℕ → Option V) → ℕ → Option V
  stored slot state slots k = if eqb k slot then state else slots k

  -- at first the opening is current, and in slot 0
  abbrev pub first : V → Elsewhere V
  first opening = record { current = opening; aside = opening; slots = stored 0 (Some opening) (λ k. None) }

  -- what carrying out a request makes of the states elsewhere, where a row makes this of a state
  abbrev pub carried : (V → List Cell → V) → Request → Elsewhere V → Elsewhere V
  carried step (Load slot) there =
      record there { current = unwrap_or (there.slots slot) there.current }
  carried step (Save slot) there =
      record there { slots = stored slot (Some there.current) there.slots }
  carried step (Advance row) there = record there { current = step there.current row }
  carried step (Free slot) there = record there { slots = stored slot None there.slots }
  carried step (LoadAside slot) there =
      record there { aside = unwrap_or (there.slots slot) there.current }
  carried step (SaveAside slot) there =
      record there { slots = stored slot (Some there.aside) there.slots }
  carried step (AdvanceAside row) there = record there { aside = step there.aside row }

  -- what carrying out a list of them in order makes of those states
  abbrev pub carried_all : (V → List Cell → V) → List Request → Elsewhere V → Elsewhere V
  carried_all step [] there = there
  carried_all step (request ∷ requests) there =
      carried_all step requests (carried step request there)

  abbrev pub carried_out : (V → List Cell → V) → V → List Request → Elsewhere V
  carried_out step opening requests = carried_all step requests (first opening)
