-- For how many turns a word waits, whatever is done in between.
use Rattle.std.specs.Prelude.{◌≡◌, ◌≤◌, ℕ, List, [], ◌∷◌, Bool, true, false, count_by, drop, length, min, take}
use Rattle.std.specs.List.{Contains}
use Rattle.roll_inputs.specs.declared.remote_word.RemoteWord.{RemoteWord}
use Rattle.roll_session.specs.Seen.{Seen}
use Rattle.roll_relay.specs.Told.{roomier, told}
use Rattle.roll_relay.specs.Turns.{after_turn, due, lessened}
use Rattle.roll_relay.specs.Waits.{Waits, WasTold}
use Rattle.roll_relay.specs.declared.held.Held.{Held}
use Rattle.roll_relay.specs.declared.held.TheConstants.{TURN_LIMIT}

-- a session, and the words that are held back from it
pub record Moment : Type 0 where
  pub seen : Seen
  pub held : Held

-- how many have waited for how many turns, once this turn is over
abbrev pub waited_then : Held → List ℕ
waited_then held = after_turn (length held.words.items) held.waited.items

-- and how many for as many as they may
abbrev pub due_then : Held → ℕ
due_then held = min (length held.words.items) (due held.turns (waited_then held))

-- room is made for all that wait, and the first so many are handed over, where so many had waited for one turn, two turns and so on
pub record HandsOver (count : ℕ) (waited : List ℕ) (old new : Moment) : Type 0 where
  pub told_are : new.seen ≡ told (roomier (length old.held.words.items) old.seen) (take count old.held.words.items)
  pub rest : new.held.words.items ≡ drop count old.held.words.items
  pub waited_is : new.held.waited.items ≡ lessened count waited
  pub turns_are : new.held.turns ≡ old.held.turns

-- what is done beside words that wait: a turn of them, which goes well; the first of them are handed over before they are due; or they
-- go on to wait, as when something is heard, sent, given or played
pub data Deed : Type 0 where
  Turn : Deed
  Hand : ℕ → Deed
  Other : Deed

abbrev pub is_turn : Deed → Bool
is_turn Turn = true
is_turn (Hand count) = false
is_turn Other = false

abbrev pub Does : Deed → (old new : Moment) → Type 0
Does Turn old new = HandsOver (due_then old.held) (waited_then old.held) old new
Does (Hand count) old new = HandsOver (min count (length old.held.words.items)) old.held.waited.items old new
Does Other old new = Waits old.seen new.seen old.held new.held

-- one after another
abbrev pub AreDone : List Deed → (old new : Moment) → Type 0
AreDone [] old new = new ≡ old
AreDone (deed ∷ deeds) old new = (next : Moment) × Does deed old next × AreDone deeds next new

-- whatever else is done: after as many turns as words may wait, their session was told each that waited before the first
abbrev pub NoWordWaitsLonger : Type 0
NoWordWaitsLonger =
    (deeds : List Deed) (old new : Moment) → 1 ≤ old.held.turns → old.held.turns ≤ TURN_LIMIT
    → AreDone deeds old new → old.held.turns ≤ count_by is_turn deeds
    → (w : RemoteWord) → Contains old.held.words.items w → WasTold new.seen w
