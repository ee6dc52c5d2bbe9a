-- What a host tells a viewer: the settled rows of its session from those on that the viewer has.
use Rattle.std.specs.Prelude.{ℕ, ◌+◌, ◌-◌, ◌/◌, List, [], ◌∷◌, ◌++◌, length, map, max, min, replicate, take, Bool, false, not, ◌||◌, Option, None, if◌then◌else◌}
use Rattle.roll_frame.specs.Core.{Core, settled}
use Rattle.roll_frame.specs.Timeline.{Player}
use Rattle.roll_member.specs.Telling.{words_at}
use Rattle.roll_mesh.specs.Machines.{none_offered}
use Rattle.roll_mesh.specs.declared.limits.TheConstants.{MACHINE_LIMIT, PLAYER_LIMIT}
use Rattle.roll_mesh.specs.declared.packet.Offer.{Offer}
use Rattle.roll_wire.specs.Spelling.{Turn}
use Rattle.roll_wire.specs.declared.datagram.Clocks.{Clocks}
use Rattle.roll_wire.specs.declared.limits.TheConstants.{WORD_LIMIT}
use Rattle.roll_viewer.specs.Rows.{has_words}

-- a list filled up to a place for each player that a match can have
abbrev pub padded : {A : Type 0} → A → List A → List A
padded none xs = take PLAYER_LIMIT (xs ++ replicate PLAYER_LIMIT none)

-- in how many settled rows a player has a word: in the others it is gone
abbrev pub has_of : (settled : ℕ) → Player → ℕ
has_of settled player = min settled (length player.words)

-- how many rows more a datagram tells a viewer who has so many: all that are settled, or as many as fit
abbrev pub room_after : Core → (had : ℕ) → ℕ
room_after core had = min (settled core - had) (WORD_LIMIT / max 1 (length core.players))

-- where a player's words stand in these rows
abbrev pub span_of : (settled had room : ℕ) → Player → Offer
span_of settled had room player = record {
  first = had;
  end = max had (min (has_of settled player) (had + room));
}

abbrev pub spans_to : Core → (had : ℕ) → List Offer
spans_to core had =
    padded none_offered (map (span_of (settled core) had (room_after core had)) core.players)

-- the words of these players in these spans
abbrev pub words_in : List Player → List Offer → List ℕ
words_in [] spans = []
words_in (player ∷ players) [] = []
words_in (player ∷ players) (span ∷ spans) =
    words_at player.words span ++ words_in players spans

-- how a span is said, if its first row was said before or is to be: one without words is left out
abbrev pub said_as : (is_said : Bool) → Offer → Offer
said_as is_said span =
    if not (has_words span) then none_offered
    else (if is_said then record { first = 0; end = span.end - span.first } else span)

-- the offers of spans that begin at one row: the first that has words says it, and the others say 0
abbrev pub said_once : (is_said : Bool) → List Offer → List Offer
said_once is_said [] = []
said_once is_said (span ∷ spans) =
    said_as is_said span ∷ said_once (is_said || has_words span) spans

abbrev pub offers_to : Core → (had : ℕ) → List Offer
offers_to core had = said_once false (spans_to core had)

abbrev pub has_by : Core → List ℕ
has_by core = padded 0 (map (has_of (settled core)) core.players)

-- what a host tells a viewer who has so many rows
unfoldable pub told_to : Core → (had : ℕ) → Turn
told_to core had = record {
  head = record {
    number = 0;
    clocks = None;
    view = record { gone = replicate MACHINE_LIMIT false; has = has_by core };
    settled = None;
    offers = offers_to core had;
  };
  marks = replicate PLAYER_LIMIT None;
  words = words_in core.players (spans_to core had);
}

-- the same with a number and clocks
abbrev pub with_clocks : (number : ℕ) → Option Clocks → Turn → Turn
with_clocks number clocks t = record t { head = record t.head { number = number; clocks = clocks } }
