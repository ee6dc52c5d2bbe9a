-- The ends of a link as a clause sees them.
use Rattle.std.specs.Prelude.{◌≡◌, ◌-◌, Bool, List, [], ◌∷◌, ◌++◌, length, take, Option, Some, None}
use Rattle.roll_link.specs.Rings.{Ring}
use Rattle.roll_link.specs.declared.remote.Remote.{Remote}

-- the end that sends, or what is left of it: the link, and what was sent by it
pub record Sending : Type 0 where
  pub ring : Ring
  pub sent : List Remote

-- the end that takes
pub record Linked : Type 0 where
  pub ring : Ring
  -- the items that were taken for good, in order
  pub applied : List Remote
  -- the item that was taken and given back
  pub held : Option Remote
  -- the items that are known to come next
  pub known : List Remote
  -- the sender has finished, and all that it sent is known
  pub ended : Bool

abbrev pub held_list : Option Remote → List Remote
held_list None = []
held_list (Some item) = item ∷ []

-- the items that are known to have been sent, and aren't applied
abbrev pub left : Linked → List Remote
left l = held_list l.held ++ l.known

-- the second list is the first one, and maybe more
abbrev pub Begins : List Remote → List Remote → Type 0
Begins items all = (more : List Remote) × (items ++ more ≡ all)

-- the list without its last item
abbrev pub but_last : List Remote → List Remote
but_last items = take (length items - 1) items

-- what was popped, but for the last items, which aren't applied
abbrev pub but_waiting : List Remote → List Remote → List Remote
but_waiting popped waiting = take (length popped - length waiting) popped
