-- What a datagram says, and its one spelling: fixed numbers with the highest byte first, short ones with the lowest.
use Rattle.std.specs.Prelude.{◌≡◌, ℕ, zero, suc, ◌+◌, ◌-◌, ◌*◌, ◌/◌, ◌%◌, ◌<◌, ◌≤◌, ◌^◌, ◌==◌, List, [], ◌∷◌, ◌++◌, length, map, Bool, ◌&&◌, not, nat_lt, nat_le, if◌then◌else◌, true, false, Option, Some, None, is_some, IfSome}
use Rattle.std.specs.List.{flat_map, list_all, list_any, sum_by, AllByRecursion}
use Rattle.std.specs.Int.{w32, w64, to_be_bytes, from_bool}
use Rattle.roll_mesh.specs.declared.limits.TheConstants.{MACHINE_LIMIT, PLAYER_LIMIT}
use Rattle.roll_mesh.specs.declared.packet.Offer.{Offer}
use Rattle.roll_mesh.specs.declared.packet.View.{View}
use Rattle.roll_wire.specs.declared.datagram.Body.{Body}
use Rattle.roll_wire.specs.declared.datagram.Body.TheVariants.{Hello as HelloBody, Play as PlayBody, Bye as ByeBody}
use Rattle.roll_wire.specs.declared.datagram.Clocks.{Clocks}
use Rattle.roll_wire.specs.declared.datagram.Datagram.{Datagram}
use Rattle.roll_wire.specs.declared.datagram.Envelope.{Envelope}
use Rattle.roll_wire.specs.declared.datagram.Head.{Head}
use Rattle.roll_wire.specs.declared.datagram.Hello.{Hello}
use Rattle.roll_wire.specs.declared.datagram.Mark.{Mark}
use Rattle.roll_wire.specs.declared.datagram.Marked.{Marked}
use Rattle.roll_wire.specs.declared.datagram.Newcomer.{Newcomer}
use Rattle.roll_wire.specs.declared.datagram.Play.{Play}
use Rattle.roll_wire.specs.declared.datagram.Settled.{Settled}
use Rattle.roll_wire.specs.declared.limits.TheConstants.{MAGIC, WORD_LIMIT}

-- a turn's words as a list
pub record Turn : Type 0 where
  pub head : Head
  pub marks : List (Option Marked)
  pub words : List ℕ

pub data Content : Type 0 where
  Greets : Hello → Content
  Plays : Turn → Content
  -- why it leaves
  Leaves : (why : ℕ) → Content

pub record Message : Type 0 where
  pub envelope : Envelope
  pub content : Content

abbrev pub turn : Play → Turn
turn p = record { head = p.head; marks = p.marks; words = p.words.items }

abbrev pub content : Body → Content
content (HelloBody h) = Greets h
content (PlayBody p) = Plays (turn p)
content (ByeBody why) = Leaves why

-- what a datagram says
abbrev pub message : Datagram → Message
message d = record { envelope = d.envelope; content = content d.body }

abbrev pub number : ℕ → List ℕ
number n = to_be_bytes w32 n

abbrev pub long : ℕ → List ℕ
long n = to_be_bytes w64 n

abbrev pub byte : ℕ → List ℕ
byte n = n ∷ []

abbrev pub flag : Bool → List ℕ
flag b = (if b then 1 else 0) ∷ []

-- a number in one byte, and so many more at most: 7 bits a byte, the lowest first, and the high bit
-- where another byte follows
unfoldable pub digits : ℕ → ℕ → List ℕ
digits zero n = n ∷ []
digits (suc more) n = if nat_lt n 128 then n ∷ [] else (128 + n % 128) ∷ digits more (n / 128)

-- what has digits in one byte and so many more is below this
unfoldable pub digits_limit : ℕ → ℕ
digits_limit zero = 16
digits_limit (suc more) = 128 * digits_limit more

-- a number of 32 bits in 1 to 5 bytes
abbrev pub short : ℕ → List ℕ
short n = digits 4 n

-- a bit for each place: the lowest for place 0
unfoldable pub mask : List Bool → ℕ
mask [] = 0
mask (b ∷ bs) = from_bool b + 2 * mask bs

-- a flag, and the field if it is there
abbrev pub optional : {A : Type 0} → (A → List ℕ) → Option A → List ℕ
optional text None = flag false
optional text (Some x) = flag true ++ text x

-- a field that stands only where its mask says so
abbrev pub present : {A : Type 0} → (A → Bool) → (A → List ℕ) → A → List ℕ
present is_there text x = if is_there x then text x else []

-- a mask of the fields that are there, and then each of them
abbrev pub masked : {A : Type 0} → (A → Bool) → (A → List ℕ) → List A → List ℕ
masked is_there text xs = byte (mask (map is_there xs)) ++ flat_map (present is_there text) xs

abbrev pub envelope : Envelope → List ℕ
envelope e = long e.match_number ++ byte e.sender

abbrev pub hello : Hello → List ℕ
hello h =
    byte h.machines
    ++ (byte h.words ++ (flat_map byte h.owners ++ (long h.settings ++ (long h.opening
    ++ (long h.draw ++ (long h.echo ++ (number h.patience ++ byte h.abilities)))))))

abbrev pub clocks : Clocks → List ℕ
clocks c =
    short c.frame
    ++ (short c.heard_frame ++ (short c.clock ++ (short c.heard_clock ++ short c.held)))

-- whether there are words of a player
abbrev pub is_counted : ℕ → Bool
is_counted n = not (n == 0)

abbrev pub view : View → List ℕ
view v = byte (mask v.gone) ++ masked is_counted short v.has

abbrev pub settled : Settled → List ℕ
settled s = short s.frame ++ long s.digest

-- whether an offer isn't (0, 0): as it doesn't end before it begins, its end tells
abbrev pub is_offered : Offer → Bool
is_offered o = not (o.end == 0)

-- the first frame, and how many words
abbrev pub offer : Offer → List ℕ
offer o = short o.first ++ byte (o.end - o.first)

abbrev pub head : Head → List ℕ
head h =
    short h.number
    ++ (optional clocks h.clocks
    ++ (view h.view ++ (optional settled h.settled ++ masked is_offered offer h.offers)))

-- the players of a newcomer and its ticket, or no players if nobody comes
abbrev pub newcomer : Option Newcomer → List ℕ
newcomer None = byte 0
newcomer (Some n) = byte (mask n.players) ++ long n.ticket

-- the field of a place where something is
abbrev pub within : {A : Type 0} → (A → List ℕ) → Option A → List ℕ
within text None = []
within text (Some x) = text x

-- a mark, but for its word's frame
abbrev pub mark : Mark → List ℕ
mark m =
    newcomer m.newcomer ++ (masked is_some (within byte) m.delays ++ byte m.threshold)

abbrev pub marked : Marked → List ℕ
marked m = short m.frame ++ mark m.mark

abbrev pub marks : List (Option Marked) → List ℕ
marks ms = masked is_some (within marked) ms

-- how often the words begin with the one before them
abbrev pub repeats : ℕ → List ℕ → ℕ
repeats before [] = 0
repeats before (w ∷ ws) = if w == before then suc (repeats before ws) else 0

-- the length of the run that the words begin with, if there are words
abbrev pub lead : ℕ → List ℕ → List ℕ
lead before [] = []
lead before (w ∷ ws) = repeats before (w ∷ ws) ∷ []

-- the words behind the length of their first run: nothing for a word that is the one before it;
-- else the word, and the length of the next run
abbrev pub rest_of : ℕ → List ℕ → List ℕ
rest_of before [] = []
rest_of before (w ∷ ws) =
    if w == before then rest_of before ws else short w ++ (lead w ws ++ rest_of w ws)

-- words of which some may have been spelled: in the middle of a run, or at its beginning
abbrev pub pending : Bool → ℕ → List ℕ → List ℕ
pending inside before ws = if inside then rest_of before ws else lead before ws ++ rest_of before ws

-- words as runs; the word before the first one is 0
abbrev pub runs : List ℕ → List ℕ
runs ws = lead 0 ws ++ rest_of 0 ws

-- the kind, and what follows it
abbrev pub body : Content → List ℕ
body (Greets h) = byte 0 ++ hello h
body (Plays t) = byte 1 ++ (head t.head ++ (marks t.marks ++ runs t.words))
body (Leaves why) = byte 2 ++ byte why

-- the bytes of a datagram
abbrev pub spelling : Message → List ℕ
spelling m = number MAGIC ++ (envelope m.envelope ++ body m.content)

-- how many words are offered
abbrev pub count_of : List Offer → ℕ
count_of offers = sum_by (λ o. o.end - o.first) offers

-- whether an offer doesn't end before it begins, and a byte counts its words
abbrev pub is_offer : Offer → Bool
is_offer o = nat_le o.first o.end && nat_lt (o.end - o.first) 256

abbrev pub are_offers : List Offer → Bool
are_offers offers = list_all is_offer offers

-- whether somebody who comes is to own a player
abbrev pub has_players : Option Newcomer → Bool
has_players None = true
has_players (Some n) = list_any (λ b. b) n.players

-- whether each mark's newcomer has a player
abbrev pub is_spelled : Option Marked → Bool
is_spelled None = true
is_spelled (Some m) = has_players m.mark.newcomer

abbrev pub are_spelled : List (Option Marked) → Bool
are_spelled ms = list_all is_spelled ms

-- whether a turn has the words that it offers, and no more than fit, and marks that have a spelling
abbrev pub is_turn : Turn → Bool
is_turn t =
    are_offers t.head.offers && (count_of t.head.offers == length t.words)
    && nat_le (length t.words) WORD_LIMIT
    && are_spelled t.marks

abbrev pub is_whole : Content → Bool
is_whole (Greets h) = true
is_whole (Plays t) = is_turn t
is_whole (Leaves why) = true

abbrev pub IsByte : ℕ → Type 0
IsByte n = n < 256

abbrev pub IsNumber : ℕ → Type 0
IsNumber n = n < 2 ^ 32

abbrev pub IsLong : ℕ → Type 0
IsLong n = n < 2 ^ 64

abbrev pub IsEnvelope : Envelope → Type 0
IsEnvelope e = IsLong e.match_number × IsByte e.sender

abbrev pub IsHello : Hello → Type 0
IsHello h =
    IsByte h.machines
    × (IsByte h.words × (((length h.owners ≡ PLAYER_LIMIT) × AllByRecursion IsByte h.owners)
    × (IsLong h.settings × (IsLong h.opening × (IsLong h.draw × (IsLong h.echo
    × (IsNumber h.patience × IsByte h.abilities)))))))

abbrev pub IsClocks : Clocks → Type 0
IsClocks c =
    IsNumber c.frame
    × (IsNumber c.heard_frame
    × (IsNumber c.clock × (IsNumber c.heard_clock × IsNumber c.held)))

abbrev pub IsSettled : Settled → Type 0
IsSettled s = IsNumber s.frame × IsLong s.digest

abbrev pub IsOffer : Offer → Type 0
IsOffer o = IsNumber o.end × ((o.first ≤ o.end) × IsByte (o.end - o.first))

-- a head that has a spelling
pub record IsHead (h : Head) : Type 0 where
  pub number : IsNumber h.number
  pub clocks : IfSome h.clocks IsClocks
  pub gone : length h.view.gone ≡ MACHINE_LIMIT
  pub has : (length h.view.has ≡ PLAYER_LIMIT) × AllByRecursion IsNumber h.view.has
  pub settled : IfSome h.settled IsSettled
  pub offers : (length h.offers ≡ PLAYER_LIMIT) × AllByRecursion IsOffer h.offers

abbrev pub IsNewcomer : Newcomer → Type 0
IsNewcomer n =
    ((length n.players ≡ PLAYER_LIMIT) × (list_any (λ b. b) n.players ≡ true)) × IsLong n.ticket

abbrev pub IsMark : Mark → Type 0
IsMark m =
    IfSome m.newcomer IsNewcomer
    × (((length m.delays ≡ PLAYER_LIMIT) × AllByRecursion (λ d. IfSome d IsByte) m.delays)
    × IsByte m.threshold)

abbrev pub IsMarked : Marked → Type 0
IsMarked m = IsNumber m.frame × IsMark m.mark

-- a turn that has a spelling
pub record IsTurn (t : Turn) : Type 0 where
  pub head : IsHead t.head
  pub marks : (length t.marks ≡ PLAYER_LIMIT) × AllByRecursion (λ m. IfSome m IsMarked) t.marks
  pub words : length t.words ≡ count_of t.head.offers
  pub few : count_of t.head.offers ≤ WORD_LIMIT
  pub are_words : AllByRecursion IsNumber t.words

abbrev pub IsContent : Content → Type 0
IsContent (Greets h) = IsHello h
IsContent (Plays t) = IsTurn t
IsContent (Leaves why) = IsByte why

-- what has a spelling
pub record Fits (m : Message) : Type 0 where
  pub envelope : IsEnvelope m.envelope
  pub content : IsContent m.content

-- no two datagrams have one text
abbrev pub OneText : Type 0
OneText = (m n : Message) → Fits m → Fits n → spelling m ≡ spelling n → m ≡ n
