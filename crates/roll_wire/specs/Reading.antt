-- Reading from left to right, with the first fault that is met.
use Rattle.std.specs.Prelude.{◌≡◌, ℕ, zero, suc, ◌+◌, ◌-◌, ◌*◌, ◌/◌, ◌%◌, ◌^◌, List, [], ◌∷◌, length, take, drop, Bool, true, false, Option, Some, None, Result, Ok, Err, nat_lt, nat_le, ◌==◌, is_none, if◌then◌else◌}
use Rattle.std.specs.Int.{Width, w32, w64, byte_len, from_be_bytes}
use Rattle.std.specs.List.{list_all, list_any}
use Rattle.roll_mesh.specs.declared.limits.TheConstants.{PLAYER_LIMIT}
use Rattle.roll_mesh.specs.declared.packet.Offer.{Offer}
use Rattle.roll_mesh.specs.declared.packet.View.{View}
use Rattle.roll_wire.specs.declared.datagram.Clocks.{Clocks}
use Rattle.roll_wire.specs.declared.datagram.Envelope.{Envelope}
use Rattle.roll_wire.specs.declared.datagram.Head.{Head}
use Rattle.roll_wire.specs.declared.datagram.Hello.{Hello}
use Rattle.roll_wire.specs.declared.datagram.Mark.{Mark}
use Rattle.roll_wire.specs.declared.datagram.Marked.{Marked}
use Rattle.roll_wire.specs.declared.datagram.Newcomer.{Newcomer}
use Rattle.roll_wire.specs.declared.datagram.Settled.{Settled}
use Rattle.roll_wire.specs.declared.fault.WireFault.{WireFault}
use Rattle.roll_wire.specs.declared.fault.WireFault.TheVariants.{Short, Magic, Kind, Flag, Long, Zero, TooFar, TooMany, Mark as MarkFault, Run, Trailing}
use Rattle.roll_wire.specs.declared.limits.TheConstants.{MAGIC, WORD_LIMIT}
use Rattle.roll_wire.specs.Spelling.{Content, Greets, Plays, Leaves, Fits, Message, Turn, count_of, spelling}

infixl 10 ◌>>=◌
abbrev pub ◌>>=◌ : {A B : Type 0} → Result A WireFault → (A → Result B WireFault)
    → Result B WireFault
(Ok x) >>= f = f x
(Err e) >>= f = Err e

-- what a function returned, seen by view, is what reading gives
abbrev pub Gives : {X Y : Type 0} → (X → Y) → Result X WireFault → Result Y WireFault → Type 0
Gives view (Ok x) read = read ≡ Ok (view x)
Gives view (Err e) read = read ≡ Err e

-- a field is a value and the bytes after it
abbrev pub number_at : Width → List ℕ → Result (ℕ × List ℕ) WireFault
number_at w bytes =
    if nat_lt (length bytes) (byte_len w) then Err Short
    else Ok (from_be_bytes w (take (byte_len w) bytes), drop (byte_len w) bytes)

unfoldable pub byte_at : List ℕ → Result (ℕ × List ℕ) WireFault
byte_at [] = Err Short
byte_at (b ∷ rest) = Ok (b, rest)

unfoldable pub flag_at : List ℕ → Result (Bool × List ℕ) WireFault
flag_at [] = Err Short
flag_at (zero ∷ rest) = Ok (false, rest)
flag_at (suc zero ∷ rest) = Ok (true, rest)
flag_at (suc (suc b) ∷ rest) = Err Flag

-- a number in one byte, and so many more at most
unfoldable pub digits_at : ℕ → List ℕ → Result (ℕ × List ℕ) WireFault
digits_at zero bytes = do
  last ← byte_at bytes
  if nat_lt last.0 16 then Ok last else Err Long
digits_at (suc more) bytes = do
  byte ← byte_at bytes
  if nat_lt byte.0 128 then Ok byte
      else (do
        higher ← digits_at more byte.1
        if higher.0 == 0 then Err Long else Ok (byte.0 - 128 + 128 * higher.0, higher.1))

-- a short number
abbrev pub short_at : List ℕ → Result (ℕ × List ℕ) WireFault
short_at bytes = digits_at 4 bytes

-- whether each of so many bits is set, the lowest first
unfoldable pub bits : ℕ → ℕ → List Bool
bits zero m = []
bits (suc n) m = (m % 2 == 1) ∷ bits n (m / 2)

-- a mask of eight places
unfoldable pub mask_at : List ℕ → Result (List Bool × List ℕ) WireFault
mask_at bytes = do
  mask ← byte_at bytes
  Ok (bits 8 mask.0, mask.1)

-- a flag, and the field if it is there
unfoldable pub optional_at : {A : Type 0} → (List ℕ → Result (A × List ℕ) WireFault) → List ℕ
    → Result (Option A × List ℕ) WireFault
optional_at read bytes = do
  is_there ← flag_at bytes
  if is_there.0 then (do
    field ← read is_there.1
    Ok (Some field.0, field.1))
      else Ok (None, is_there.1)

-- a field if it is there, else what stands for one that isn't
abbrev pub place_at : {A : Type 0} → A → (List ℕ → Result (A × List ℕ) WireFault) → Bool → List ℕ
    → Result (A × List ℕ) WireFault
place_at none read is_there bytes = if is_there then read bytes else Ok (none, bytes)

unfoldable pub places_at : {A : Type 0} → A → (List ℕ → Result (A × List ℕ) WireFault) → List Bool
    → List ℕ → Result (List A × List ℕ) WireFault
places_at none read [] bytes = Ok ([], bytes)
places_at none read (is_there ∷ others) bytes = do
  first ← place_at none read is_there bytes
  behind ← places_at none read others first.1
  Ok (first.0 ∷ behind.0, behind.1)

-- a mask of the fields that are there, and then each of them
unfoldable pub masked_at : {A : Type 0} → A → (List ℕ → Result (A × List ℕ) WireFault) → List ℕ
    → Result (List A × List ℕ) WireFault
masked_at none read bytes = do
  places ← mask_at bytes
  places_at none read places.0 places.1

unfoldable pub envelope_at : List ℕ → Result (Envelope × List ℕ) WireFault
envelope_at bytes = do
  match_number ← number_at w64 bytes
  sender ← byte_at match_number.1
  Ok (record { match_number = match_number.0; sender = sender.0 }, sender.1)

unfoldable pub clocks_at : List ℕ → Result (Clocks × List ℕ) WireFault
clocks_at bytes = do
  frame ← short_at bytes
  heard_frame ← short_at frame.1
  clock ← short_at heard_frame.1
  heard_clock ← short_at clock.1
  held ← short_at heard_clock.1
  Ok (
    record {
      frame = frame.0;
      heard_frame = heard_frame.0;
      clock = clock.0;
      heard_clock = heard_clock.0;
      held = held.0;
    },
    held.1,
  )

unfoldable pub settled_at : List ℕ → Result (Settled × List ℕ) WireFault
settled_at bytes = do
  frame ← short_at bytes
  digest ← number_at w64 frame.1
  Ok (record { frame = frame.0; digest = digest.0 }, digest.1)

-- a number of words, where there are some
unfoldable pub counted_at : List ℕ → Result (ℕ × List ℕ) WireFault
counted_at bytes = do
  count ← short_at bytes
  if count.0 == 0 then Err Zero else Ok count

-- an offer of these frames, unless it is (0, 0) or leads past 32 bits
abbrev pub offered : ℕ → ℕ → List ℕ → Result (Offer × List ℕ) WireFault
offered first end rest =
    if nat_lt end (2 ^ 32) then (if end == 0 then Err Zero
    else Ok (record { first = first; end = end }, rest)) else Err TooFar

unfoldable pub offer_at : List ℕ → Result (Offer × List ℕ) WireFault
offer_at bytes = do
  first ← short_at bytes
  count ← byte_at first.1
  offered first.0 (first.0 + count.0) count.1

-- no words, where none are offered
abbrev pub no_offer : Offer
no_offer = record { first = 0; end = 0 }

-- so many of a field, one after the other
unfoldable pub repeated : {A : Type 0} → (List ℕ → Result (A × List ℕ) WireFault) → ℕ → List ℕ
    → Result (List A × List ℕ) WireFault
repeated read zero bytes = Ok ([], bytes)
repeated read (suc n) bytes = do
  first ← read bytes
  others ← repeated read n first.1
  Ok (first.0 ∷ others.0, others.1)

unfoldable pub hello_at : List ℕ → Result (Hello × List ℕ) WireFault
hello_at bytes = do
  machines ← byte_at bytes
  words ← byte_at machines.1
  owners ← repeated byte_at PLAYER_LIMIT words.1
  settings ← number_at w64 owners.1
  opening ← number_at w64 settings.1
  draw ← number_at w64 opening.1
  echo ← number_at w64 draw.1
  patience ← number_at w32 echo.1
  abilities ← byte_at patience.1
  Ok (
    record {
      machines = machines.0;
      words = words.0;
      owners = owners.0;
      settings = settings.0;
      opening = opening.0;
      draw = draw.0;
      echo = echo.0;
      patience = patience.0;
      abilities = abilities.0;
    },
    abilities.1,
  )

unfoldable pub view_at : List ℕ → Result (View × List ℕ) WireFault
view_at bytes = do
  gone ← mask_at bytes
  has ← masked_at 0 counted_at gone.1
  Ok (record { gone = gone.0; has = has.0 }, has.1)

unfoldable pub head_at : List ℕ → Result (Head × List ℕ) WireFault
head_at bytes = do
  number ← short_at bytes
  clocks ← optional_at clocks_at number.1
  view ← view_at clocks.1
  settled ← optional_at settled_at view.1
  offers ← masked_at no_offer offer_at settled.1
  Ok (
    record {
      number = number.0;
      clocks = clocks.0;
      view = view.0;
      settled = settled.0;
      offers = offers.0;
    },
    offers.1,
  )

-- the run that the next word stands in: the one that was begun, or one that begins
unfoldable pub run_at : Option ℕ → List ℕ → Result (ℕ × List ℕ) WireFault
run_at None bytes = byte_at bytes
run_at (Some run) bytes = Ok (run, bytes)

-- a word, and what is left of its run: the word before it, or a changed one, which ends the run
unfoldable pub word_at : ℕ → ℕ → List ℕ → Result (ℕ × Option ℕ × List ℕ) WireFault
word_at before zero bytes = do
  word ← short_at bytes
  if word.0 == before then Err Run else Ok (word.0, None, word.1)
word_at before (suc run) bytes = Ok (before, Some run, bytes)

unfoldable pub is_over : Option ℕ → Bool
is_over None = true
is_over (Some zero) = true
is_over (Some (suc run)) = false

-- so many words
unfoldable pub words_at : ℕ → ℕ → Option ℕ → List ℕ → Result (List ℕ × List ℕ) WireFault
words_at zero before run bytes = if is_over run then Ok ([], bytes) else Err Run
words_at (suc n) before run bytes = do
  now ← run_at run bytes
  word ← word_at before now.0 now.1
  others ← words_at n word.0 word.1 word.2
  Ok (word.0 ∷ others.0, others.1)

unfoldable pub magic_at : List ℕ → Result (ℕ × List ℕ) WireFault
magic_at bytes = do
  magic ← number_at w32 bytes
  if magic.0 == MAGIC then Ok magic else Err Magic

-- a number of words that fits
abbrev pub fitting : ℕ → Result ℕ WireFault
fitting count = if nat_le count WORD_LIMIT then Ok count else Err TooMany

-- who comes: nobody, if no player is to be its own
unfoldable pub newcomer_at : List ℕ → Result (Option Newcomer × List ℕ) WireFault
newcomer_at bytes = do
  players ← mask_at bytes
  if list_any (λ b. b) players.0 then (do
    ticket ← number_at w64 players.1
    Ok (Some (record { players = players.0; ticket = ticket.0 }), ticket.1))
      else Ok (None, players.1)

-- what is at a place where something is
unfoldable pub within_at : {A : Type 0} → (List ℕ → Result (A × List ℕ) WireFault) → List ℕ
    → Result (Option A × List ℕ) WireFault
within_at read bytes = do
  field ← read bytes
  Ok (Some field.0, field.1)

unfoldable pub mark_at : List ℕ → Result (Mark × List ℕ) WireFault
mark_at bytes = do
  newcomer ← newcomer_at bytes
  delays ← masked_at None (within_at byte_at) newcomer.1
  threshold ← byte_at delays.1
  Ok (
    record { newcomer = newcomer.0; delays = delays.0; threshold = threshold.0 },
    threshold.1,
  )

unfoldable pub marked_at : List ℕ → Result (Marked × List ℕ) WireFault
marked_at bytes = do
  frame ← short_at bytes
  mark ← mark_at frame.1
  Ok (record { frame = frame.0; mark = mark.0 }, mark.1)

-- at most one mark of each player
abbrev pub marks_at : List ℕ → Result (List (Option Marked) × List ℕ) WireFault
marks_at bytes = masked_at None (within_at marked_at) bytes

unfoldable pub turn_at : List ℕ → Result (Turn × List ℕ) WireFault
turn_at bytes = do
  head ← head_at bytes
  count ← fitting (count_of head.0.offers)
  marks ← marks_at head.1
  words ← words_at count 0 None marks.1
  Ok (record { head = head.0; marks = marks.0; words = words.0 }, words.1)

-- the kind, and what follows it
unfoldable pub content_at : List ℕ → Result (Content × List ℕ) WireFault
content_at [] = Err Short
content_at (zero ∷ rest) = do
  hello ← hello_at rest
  Ok (Greets hello.0, hello.1)
content_at (suc zero ∷ rest) = do
  turn ← turn_at rest
  Ok (Plays turn.0, turn.1)
content_at (suc (suc zero) ∷ rest) = do
  why ← byte_at rest
  Ok (Leaves why.0, why.1)
content_at (suc (suc (suc kind)) ∷ rest) = Err Kind

-- the whole of the bytes
unfoldable pub all_of : List ℕ → Result Message WireFault
all_of bytes = do
  magic ← magic_at bytes
  envelope ← envelope_at magic.1
  content ← content_at envelope.1
  if length content.1 == 0 then Ok (record { envelope = envelope.0; content = content.0 })
      else Err Trailing

-- whether no word has a mark
abbrev pub is_unmarked : Content → Bool
is_unmarked (Greets h) = true
is_unmarked (Plays t) = list_all is_none t.marks
is_unmarked (Leaves why) = true

-- the whole of the bytes, if no word has a mark
abbrev pub unmarked : Message → Result Message WireFault
unmarked m = if is_unmarked m.content then Ok m else Err MarkFault

unfoldable pub unmarked_of : List ℕ → Result Message WireFault
unmarked_of bytes = do
  m ← all_of bytes
  unmarked m

-- the text of a datagram is read as that datagram
abbrev pub ReadAgain : Type 0
ReadAgain = (m : Message) → Fits m → all_of (spelling m) ≡ Ok m
