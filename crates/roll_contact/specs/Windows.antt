-- The numbers that were taken, and what it means that a window has them.
use Rattle.std.specs.Prelude.{◌≡◌, ℕ, ◌+◌, ◌/◌, ◌%◌, ◌≤◌, ◌==◌, max, List, [], ◌∷◌, Bool, not, ◌&&◌, nat_le, if◌then◌else◌, slice_index}
use Rattle.std.specs.Int.{bit_at}
use Rattle.std.specs.List.{IsDistinct, list_any}
use Rattle.roll_contact.specs.declared.window.TheConstants.{PLACES, REACH, RUN}
use Rattle.roll_contact.specs.declared.window.Window.{Window}

-- ---- a set of numbers, as a list

-- the highest of them; 0, if there is none
abbrev pub highest_of : List ℕ → ℕ
highest_of [] = 0
highest_of (number ∷ taken) = max number (highest_of taken)

abbrev pub was_taken : List ℕ → ℕ → Bool
was_taken taken number = list_any (λ other. other == number) taken

-- a number is new if it wasn't taken, and none was taken that is over 1,024 above it
abbrev pub is_new : List ℕ → ℕ → Bool
is_new taken number = nat_le (highest_of taken) (number + REACH) && not (was_taken taken number)

-- after a number came: it is taken, if it is new
abbrev pub after : List ℕ → ℕ → List ℕ
after taken number = if is_new taken number then number ∷ taken else taken

-- after any numbers came, one after another
abbrev pub all_after : List ℕ → (came : List ℕ) → List ℕ
all_after taken [] = taken
all_after taken (number ∷ came) = all_after (after taken number) came

-- of each of them: whether it was taken when it came
abbrev pub answers_of : List ℕ → (came : List ℕ) → List Bool
answers_of taken [] = []
answers_of taken (number ∷ came) = is_new taken number ∷ answers_of (after taken number) came

-- whatever numbers come, in whatever order, none is taken twice
abbrev pub NoneIsTakenTwice : Type 0
NoneIsTakenTwice = (came : List ℕ) → IsDistinct (λ one other. one == other) (all_after [] came)

-- ---- a window

-- the place of a number's run
abbrev pub place_of : ℕ → ℕ
place_of number = number / RUN % PLACES

-- whether the bit of a number is there: its place has its run, and the run's bit is 1
abbrev pub has : Window → ℕ → Bool
has window number =
    (slice_index window.runs (place_of number) == number / RUN)
    && (bit_at (slice_index window.bits (place_of number)) (number % RUN) == 1)

-- a window has the numbers that were taken: the highest of them, and of each number that isn't too old whether it is one of them
pub record IsWindowOf (taken : List ℕ) (window : Window) : Type 0 where
  pub highest : window.highest ≡ highest_of taken
  pub bits : (number : ℕ) → highest_of taken ≤ number + REACH
      → has window number ≡ was_taken taken number
