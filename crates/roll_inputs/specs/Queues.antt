-- What a queue knows of its player, and what its fields keep.
use Rattle.std.specs.Prelude.{◌≡◌, ◌<◌, ℕ, [], drop, length, slice_get, slice_index_or, Some}
use Rattle.roll_frame.specs.Cells.{Rows}
use Rattle.roll_frame.specs.Timeline.{Player, last_word, cell_at}
use Rattle.roll_frame.specs.declared.limits.TheConstants.{QUEUE_LIMIT}
use Rattle.roll_inputs.specs.declared.queue.Queue.TheInside.{Inside}

-- the player, and the frame from which on the ring has the player's words
pub record Known : Type 0 where
  pub player : Player
  pub from : ℕ

-- these are the rows below that frame, with the player's cells at this place
pub record HasPast (q : Known) (past : Rows) (place : ℕ) : Type 0 where
  pub rows : length past ≡ q.from
  pub cells : (t : ℕ) → t < q.from → slice_get (slice_index_or past t []) place ≡ Some (cell_at t q.player)

abbrev pub known : Inside → Known
known q = record { player = record { words = q.history.words; before = q.before; mask = q.mask; local = q.local; gone = q.gone; given = q.given }; from = q.from }

-- the ring has the words from that frame on, and the numbers are those of the whole list
pub record IsQueue (q : Inside) : Type 0 where
  pub room : q.ring.capacity ≡ QUEUE_LIMIT
  pub words : q.ring.items ≡ drop q.from q.history.words
  pub count : q.count ≡ length q.history.words
  pub last : q.last ≡ last_word q.before q.history.words
