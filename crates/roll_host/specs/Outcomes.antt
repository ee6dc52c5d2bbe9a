-- What a host does with a link's next item.
use Rattle.std.specs.Prelude.{◌≡◌, [], ◌∷◌, Option, None, Some}
use Rattle.roll_frame.specs.declared.refusal.Refusal.{Refusal}
use Rattle.roll_link.specs.Linked.{Linked, left}
use Rattle.roll_link.specs.declared.remote.Remote.{Remote}
use Rattle.roll_session.specs.Seen.{Seen, Step}
use Rattle.roll_host.specs.Heard.{IsHeard}
use Rattle.roll_host.specs.Pumps.{AreTaken, HoldsFor}
use Rattle.roll_host.specs.declared.pump.Outcome.{Outcome}
use Rattle.roll_host.specs.declared.pump.Outcome.TheVariants.{Applied, Held, Empty}

-- one item was applied, and refused for this, if it was
pub record Applies (step : Step) (old : Seen) (before : Linked) (new : Seen) (after : Linked) (why : Option Refusal) : Type 0 where
  pub item : Remote
  pub taken : AreTaken before after (item ∷ [])
  pub heard : IsHeard step old new item why
  pub free : after.held ≡ None

abbrev pub IsOutcome : Step → Seen → Linked → Seen → Linked → Outcome → Type 0
IsOutcome step old before new after (Applied why) = Applies step old before new after why
IsOutcome step old before new after (Held why) = (new ≡ old) × AreTaken before after [] × HoldsFor step new after.held (Some why)
IsOutcome step old before new after Empty = (new ≡ old) × AreTaken before after [] × (after.held ≡ None) × (left after ≡ [])
