-- The rule of the game: what a frame makes of the two fighters.
use Rattle.std.specs.Prelude.{ℕ, ◌+◌, ◌-◌, List, Bool, not, ◌&&◌, ◌==◌, nat_le, min, if◌then◌else◌, bit_and, slice_get}
use Rattle.std.specs.Int.{abs_diff}
use Rattle.std.specs.Option.{option_map_or}
use Rattle.fazgrond.specs.Cell.{Cell}
use Rattle.fazgrond.specs.Words.{word_of}
use Rattle.game_fighter.specs.declared.buttons.Buttons.{Buttons}
use Rattle.game_fighter.specs.declared.fighter.Fighter.{Fighter}
use Rattle.game_fighter.specs.declared.state.State.{State}

-- the word of the player at a place of the row, 0 for player 1; it is 0 for a player who is gone or not in the row
abbrev pub word_at : ℕ → List Cell → ℕ
word_at place row = option_map_or word_of (slice_get row place) 0

-- a button is a bit of the word
abbrev pub is_pressed : ℕ → ℕ → Bool
is_pressed word button = not (bit_and word button == 0)

abbrev pub buttons_of : ℕ → Buttons
buttons_of word = record { left = is_pressed word 1; right = is_pressed word 2; hit = is_pressed word 4 }

-- 1. a fighter cools; here a - b is 0 where b is more than a
abbrev pub cooled : Fighter → Fighter
cooled fighter = record fighter { cool = fighter.cool - 1 }

-- 2. and walks, left without right, or right without left
abbrev pub walked : Buttons → Fighter → Fighter
walked buttons fighter =
    if buttons.left && not buttons.right then record fighter { place = fighter.place - 4 }
    else (if buttons.right && not buttons.left then record fighter { place = min (fighter.place + 4) 999 } else fighter)

abbrev pub moved : Buttons → Fighter → Fighter
moved buttons fighter = walked buttons (cooled fighter)

-- 3. who hits the other: one who presses, has cooled and is near enough
abbrev pub hits : Buttons → Fighter → Fighter → Bool
hits buttons fighter other = buttons.hit && (fighter.cool == 0) && nat_le (abs_diff fighter.place other.place) 40

-- 4. a fighter who hits has to cool, and one who is hit has less health
abbrev pub after_hits : Bool → Bool → Fighter → Fighter
after_hits gives takes fighter =
    record fighter { cool = if gives then 12 else fighter.cool; health = if takes then fighter.health - 10 else fighter.health }

-- 3 and 4, for both at the same time
abbrev pub fought : Buttons → Buttons → Fighter → Fighter → State
fought first second one two =
    record { one = after_hits (hits first one two) (hits second two one) one; two = after_hits (hits second two one) (hits first one two) two }

-- a frame with the buttons of both players
abbrev pub played : Buttons → Buttons → State → State
played first second state = fought first second (moved first state.one) (moved second state.two)

-- a frame with a row
abbrev pub frame_of : State → List Cell → State
frame_of state row = played (buttons_of (word_at 0 row)) (buttons_of (word_at 1 row)) state

-- how a fight begins
abbrev pub placed : ℕ → Fighter
placed place = record { place = place; health = 100; cool = 0 }

abbrev pub opening : State
opening = record { one = placed 470; two = placed 530 }
