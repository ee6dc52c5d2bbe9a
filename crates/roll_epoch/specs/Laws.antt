-- What holds of epochs: of those who know the same of an epoch's rows, and of the owners of the next one.
use Rattle.std.specs.Prelude.{◌≡◌, ◌⊎◌, ℕ, ◌<◌, ◌≤◌, List, Option, Some, true, false, length, is_some, None, slice_index_or}
use Rattle.roll_mesh.specs.Groups.{AreAlike as AreWhole}
use Rattle.roll_mesh.specs.declared.limits.TheConstants.{PLAYER_LIMIT}
use Rattle.roll_epoch.specs.Ends.{IsEnd, Told, mark_in, owner_of}
use Rattle.roll_epoch.specs.Ids.{leaving_at}
use Rattle.roll_epoch.specs.Seats.{absent}
use Rattle.roll_epoch.specs.Successions.{free_seat, kept_owners, next_owners, stays, successor}
use Rattle.roll_epoch.specs.declared.limits.TheConstants.{FREE, NO_MACHINE}
use Rattle.roll_epoch.specs.declared.marks.Ending.{Ending}
use Rattle.roll_epoch.specs.declared.terms.Terms.{Terms}

-- ---- the end

-- two know the same of the rows before a frame: the same marks of words of players who hadn't left
pub record AreAlike (one other : Told) (end : ℕ) : Type 0 where
  pub terms : one.terms ≡ other.terms
  pub rows : (p : ℕ) → p < PLAYER_LIMIT → mark_in one end p ≡ mark_in other end p

-- of what is known there is one end
abbrev pub EndsAreOne : Type 0
EndsAreOne = (told : Told) (settled : ℕ) (e f : Ending) → IsEnd told settled e → IsEnd told settled f → e ≡ f

-- who knows the same of the rows before a frame finds the same end there, once as many rows are settled
abbrev pub OfOnePastOneEnd : Type 0
OfOnePastOneEnd =
    (one other : Told) (end settled more : ℕ) (e : Ending) → AreAlike one other end → e.frame ≤ end
    → end ≤ more → IsEnd one settled e → IsEnd other more e

-- an end that was found stays when more rows are settled
abbrev pub EndsStay : Type 0
EndsStay =
    (told : Told) (settled more : ℕ) (e : Ending) → settled ≤ more → IsEnd told settled e → IsEnd told more e

-- ---- the next epoch

-- two know the same of where players left before a frame: who left later, or hasn't left, is as one who left there
pub record LeftAlike (end : ℕ) (left other : List (Option ℕ)) : Type 0 where
  pub many : length left ≡ length other
  pub places : (p : ℕ) → leaving_at end (slice_index_or left p None) ≡ leaving_at end (slice_index_or other p None)

-- who knows the same of where players left before the end opens the same next epoch
abbrev pub OfOnePastOneNext : Type 0
OfOnePastOneNext =
    (terms : Terms) (e : Ending) (left other : List (Option ℕ)) → LeftAlike e.frame left other
    → successor terms e left ≡ successor terms e other

-- a player's owner in the next epoch is the one that it had, if that one stays. Else it is free, or that of whoever comes, whose number
-- is the lowest that nobody has who stays; and so is a player that was free
pub record AreNext (terms : Terms) (e : Ending) (left : List (Option ℕ)) : Type 0 where
  pub kept : (p : ℕ) → p < PLAYER_LIMIT → stays terms.owners left e.frame (owner_of terms.owners p) ≡ true
      → (owner_of terms.owners p ≡ FREE → ⊥)
      → owner_of (next_owners terms e left) p ≡ owner_of terms.owners p
  pub lost : (p : ℕ) → p < PLAYER_LIMIT → stays terms.owners left e.frame (owner_of terms.owners p) ≡ false
      → (owner_of terms.owners p ≡ NO_MACHINE → ⊥)
      → owner_of (kept_owners terms.owners left e.frame) p ≡ FREE
  pub free : (p : ℕ) → p < PLAYER_LIMIT → owner_of terms.owners p ≡ FREE
      → owner_of (kept_owners terms.owners left e.frame) p ≡ FREE
  pub others : (p : ℕ) → p < PLAYER_LIMIT
      → (owner_of (next_owners terms e left) p ≡ owner_of (kept_owners terms.owners left e.frame) p)
      ⊎ ((owner_of (kept_owners terms.owners left e.frame) p ≡ FREE)
      × (free_seat (kept_owners terms.owners left e.frame) ≡ Some (owner_of (next_owners terms e left) p)))
  pub apart : (seat p : ℕ) → free_seat (kept_owners terms.owners left e.frame) ≡ Some seat → p < PLAYER_LIMIT
      → owner_of (kept_owners terms.owners left e.frame) p ≡ seat → ⊥

abbrev pub NobodyLosesAPlayer : Type 0
NobodyLosesAPlayer = (terms : Terms) (e : Ending) (left : List (Option ℕ)) → AreNext terms e left

-- a match has the same players in each epoch
pub record HasSamePlayer (terms : Terms) (e : Ending) (left : List (Option ℕ)) (p : ℕ) : Type 0 where
  pub none : owner_of terms.owners p ≡ NO_MACHINE → owner_of (next_owners terms e left) p ≡ NO_MACHINE
  pub some : owner_of (next_owners terms e left) p ≡ NO_MACHINE → owner_of terms.owners p ≡ NO_MACHINE

abbrev pub PlayersStay : Type 0
PlayersStay =
    (terms : Terms) (e : Ending) (left : List (Option ℕ)) (p : ℕ) → p < PLAYER_LIMIT
    → HasSamePlayer terms e left p

-- if each input has one owner, each has one in the next epoch
abbrev pub InputsStayWhole : Type 0
InputsStayWhole =
    (terms : Terms) (e : Ending) (left : List (Option ℕ)) → AreWhole terms.words (owner_of terms.owners)
    → AreWhole terms.words (owner_of (next_owners terms e left))

-- if a player is free, there is a machine that owns none
abbrev pub SomebodyIsAbsent : Type 0
SomebodyIsAbsent =
    (terms : Terms) (p : ℕ) → length terms.owners ≤ PLAYER_LIMIT → p < length terms.owners
    → owner_of terms.owners p ≡ FREE → is_some (absent terms.owners) ≡ true
