-- What was seen of a player, and how likely words are by that.
use Rattle.std.specs.Prelude.{ℕ, ◌+◌, ◌-◌, ◌*◌, ◌/◌, ◌^◌, List, [], ◌∷◌, ◌++◌, length, drop, min, count_by, fold, Bool, not, ◌&&◌, ◌||◌, ◌==◌, nat_lt, if◌then◌else◌, slice_index_or, slice_set}
use Rattle.std.specs.List.{list_any}
use Rattle.roll_guess.specs.declared.habits.Habits.{Habits}
use Rattle.roll_guess.specs.declared.habits.Held.{Held}
use Rattle.roll_guess.specs.declared.habits.Tally.{Tally}
use Rattle.roll_guess.specs.declared.habits.Turn.{Turn}
use Rattle.roll_guess.specs.declared.limits.TheConstants.{CERTAIN, KNOWN_LIMIT, PLAIN_WEIGHT, TURN_LIMIT, TURN_WEIGHT}

-- what is held once the next word came
abbrev pub held_after : Held → ℕ → Held
held_after held word =
    if word == held.word then record { word = word; age = min (held.age + 1) (2 ^ 32 - 1) }
    else record { word = word; age = 1 }

-- the class of an age, of a word that was held for so many frames
abbrev pub age_class : ℕ → ℕ
age_class age = if nat_lt age 4 then 0 else (if nat_lt age 16 then 1 else 2)

-- a tally at its end is halved
abbrev pub faded : Tally → Tally
faded tally =
    if (tally.seen == 255) || (tally.turned == 255)
    then record { seen = tally.seen / 2; turned = tally.turned / 2 } else tally

-- one more was seen, and it turned or didn't
abbrev pub tallied : Tally → Bool → Tally
tallied tally turned =
    record { seen = (faded tally).seen + 1; turned = (faded tally).turned + (if turned then 1 else 0) }

-- a list of at most n with one more: where it is full, without the first
abbrev pub slid : {X : Type 0} → ℕ → List X → X → List X
slid n xs x = (if length xs == n then drop 1 xs else xs) ++ x ∷ []

-- the words that are known, with one more, unless it is known
abbrev pub known_after : List ℕ → ℕ → List ℕ
known_after known word = if list_any (λ k. k == word) known then known else slid KNOWN_LIMIT known word

-- the last changes, once the next word came
abbrev pub turns_after : List Turn → ℕ → ℕ → List Turn
turns_after turns last word =
    if word == last then turns else slid TURN_LIMIT turns (record { from = last; to = word })

abbrev pub no_tally : Tally
no_tally = record { seen = 0; turned = 0 }

-- what was counted of words of an age
abbrev pub tally_of : Habits → ℕ → Tally
tally_of habits age = slice_index_or habits.tallies (age_class age) no_tally

-- nothing was seen yet, and these words are likely
abbrev pub first_habits : List ℕ → Habits
first_habits likely =
    record {
      held = record { word = 0; age = 0 };
      tallies = no_tally ∷ no_tally ∷ no_tally ∷ [];
      turns = record { items = [] };
      known = record { items = fold known_after (known_after [] 0) likely };
    }

-- the habits once the next word came
abbrev pub noted : Habits → ℕ → Habits
noted habits word =
    let age = habits.held.age in
    record {
      held = held_after habits.held word;
      tallies = slice_set habits.tallies (age_class age) (tallied (tally_of habits age) (not (word == habits.held.word)));
      turns = record { items = turns_after habits.turns.items habits.held.word word };
      known = record { items = known_after habits.known.items word };
    }

-- a part of a chance
abbrev pub portion : ℕ → ℕ → ℕ
portion chance of = min (chance * of) (2 ^ 32 - 1) / CERTAIN

-- the chance of a change: as often as it was counted, as if one in eight had come before
abbrev pub turning : Tally → ℕ
turning tally = min ((tally.turned + 1) * CERTAIN / (tally.seen + 8)) CERTAIN

-- the chance that a word of this age changes
abbrev pub turning_of : Habits → ℕ → ℕ
turning_of habits age = turning (tally_of habits age)

-- the weight of a change: a change to this word counts once among the last ones, and from this word four times more
abbrev pub weight_of : Habits → ℕ → ℕ → ℕ
weight_of habits from to =
    PLAIN_WEIGHT + count_by (λ turn. turn.to == to) habits.turns.items
    + TURN_WEIGHT * count_by (λ turn. (turn.from == from) && (turn.to == to)) habits.turns.items

-- the weight of all changes from a word, to any of 8
abbrev pub weights_of : Habits → ℕ → ℕ
weights_of habits from =
    KNOWN_LIMIT * PLAIN_WEIGHT + length habits.turns.items
    + TURN_WEIGHT * count_by (λ turn. turn.from == from) habits.turns.items

-- the chance that a change from this word is one to that word
abbrev pub share_of : Habits → ℕ → ℕ → ℕ
share_of habits from to = weight_of habits from to * CERTAIN / weights_of habits from

-- the chance that this word comes next
abbrev pub chance_of : Habits → Held → ℕ → ℕ
chance_of habits held word =
    if word == held.word then CERTAIN - turning_of habits held.age
    else portion (turning_of habits held.age) (share_of habits held.word word)
