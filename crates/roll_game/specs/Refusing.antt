-- A game of which one call is refused.
use Rattle.std.specs.Prelude.{◌≡◌, ◌≢◌, ℕ, ◌-◌, Bool, true, false, if◌then◌else◌}
use Rattle.roll_game.specs.declared.counts.Call.{Call}
use Rattle.roll_game.specs.declared.counts.Counts.{Counts}
use Rattle.roll_game.specs.Counts.{counted}

-- a game, the kind of call that is refused, the calls of that kind up to the refused one, 0 where none will
-- be, and whether it was refused
pub record Wrapped (R : Type 0) : Type 0 where
  pub game : R
  pub call : Call
  pub due : ℕ
  pub refused : Bool

-- the next call of this kind is the one to refuse
abbrev pub IsDue : {R : Type 0} → Wrapped R → Call → Type 0
IsDue w call = (w.call ≡ call) × (w.due ≡ 1)

-- the game's counts, and in them the call that did not reach it
abbrev pub counts_of : {R : Type 0} → (R → Counts) → Wrapped R → Counts
counts_of counts w = if w.refused then counted w.call false (counts w.game) else counts w.game

-- what a call of this kind does, given the game's counts: one that is due is refused and leaves the game as
-- it was, and another is asked of the game once, which grants or refuses it
pub record TakesCall {R : Type 0} (counts : R → Counts) (call : Call) (old new : Wrapped R) (granted : Bool)
    : Type 0 where
  pub refused : IsDue old call → granted ≡ false
  pub spent : IsDue old call → new ≡ record old { due = 0; refused = true }
  pub passed : ¬ IsDue old call → counts new.game ≡ counted call granted (counts old.game)
  pub nearer : ¬ IsDue old call → old.call ≡ call → new ≡ record old { game = new.game; due = old.due - 1 }
  pub others : old.call ≢ call → new ≡ record old { game = new.game }
