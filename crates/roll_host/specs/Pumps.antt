-- What a pump makes of a session and its links.
use Rattle.std.specs.Prelude.{◌≡◌, ◌≤◌, ◌⊎◌, true, List, [], ◌∷◌, ◌++◌, length, map, Option, None, Some, IfNone}
use Rattle.std.specs.List.{flat_map}
use Rattle.std.specs.Option.{option_or}
use Rattle.roll_frame.specs.declared.refusal.Refusal.{Refusal}
use Rattle.roll_link.specs.Linked.{Begins, Linked, left}
use Rattle.roll_link.specs.declared.remote.Remote.{Remote}
use Rattle.roll_session.specs.Answered.{IsPlayed}
use Rattle.roll_session.specs.Seen.{Seen, Step}
use Rattle.roll_host.specs.Heard.{events_of, AreHeard, IsHeldFor}
use Rattle.roll_host.specs.declared.limits.TheConstants.{TURN_LIMIT}
use Rattle.roll_host.specs.declared.pump.Pumped.{Pumped}

-- these items of a link, its next ones, were applied
pub record AreTaken (before after : Linked) (items : List Remote) : Type 0 where
  pub ring : after.ring ≡ before.ring
  pub ended : after.ended ≡ before.ended
  pub applied : after.applied ≡ before.applied ++ items
  pub next : Begins (left before) (items ++ left after)
  pub all : before.ended ≡ true → items ++ left after ≡ left before

-- a link holds an item where and only where there is a refusal to wait for
abbrev pub HoldsFor : Step → Seen → Option Remote → Option Refusal → Type 0
HoldsFor step s None None = Unit {0}
HoldsFor step s None (Some why) = ⊥
HoldsFor step s (Some item) None = ⊥
HoldsFor step s (Some item) (Some why) = IsHeldFor step s item why

-- a link's turn in a pump: the items that it applied, and why it holds one, if it does
pub record LinkTurn : Type 0 where
  pub before : Linked
  pub after : Linked
  pub items : List Remote
  pub held : Option Refusal

pub record IsLinkTurn (step : Step) (old new : Seen) (turn : LinkTurn) : Type 0 where
  pub taken : AreTaken turn.before turn.after turn.items
  pub played : IsPlayed step old new (events_of turn.items)
  pub most : length turn.items ≤ TURN_LIMIT
  pub least : IfNone turn.held ((length turn.items ≡ TURN_LIMIT) ⊎ (left turn.after ≡ []))
  pub holds : HoldsFor step new turn.after.held turn.held

-- one link was pumped
pub record PumpsLink (step : Step) (old : Seen) (before : Linked) (new : Seen) (after : Linked) (pumped : Pumped) : Type 0 where
  pub items : List Remote
  pub turn : IsLinkTurn step old new (record { before = before; after = after; items = items; held = pumped.held })
  pub heard : AreHeard step old new items pumped.refused pumped.refusal
  pub count : pumped.applied ≡ length items

-- turns one after another
abbrev pub AreLinkTurns : Step → Seen → List LinkTurn → Seen → Type 0
AreLinkTurns step old [] new = new ≡ old
AreLinkTurns step old (turn ∷ turns) new = (mid : Seen) × IsLinkTurn step old mid turn × AreLinkTurns step mid turns new

-- the items of all turns
abbrev pub items_of : List LinkTurn → List Remote
items_of turns = flat_map (λ turn. turn.items) turns

-- why the last turn that holds an item does
abbrev pub last_held : List LinkTurn → Option Refusal
last_held [] = None
last_held (turn ∷ turns) = option_or (last_held turns) turn.held

-- each link had one turn, in order
pub record IsPumped (step : Step) (old : Seen) (links : List Linked) (new : Seen) (links_after : List Linked) (pumped : Pumped) : Type 0 where
  pub turns : List LinkTurn
  pub before_are : map (λ turn. turn.before) turns ≡ links
  pub after_are : map (λ turn. turn.after) turns ≡ links_after
  pub are_turns : AreLinkTurns step old turns new
  pub heard : AreHeard step old new (items_of turns) pumped.refused pumped.refusal
  pub count : pumped.applied ≡ length (items_of turns)
  pub held_is : pumped.held ≡ last_held turns
