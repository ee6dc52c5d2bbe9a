-- The words of a packet become remote words of a session.
use Rattle.std.specs.Prelude.{◌≡◌, ℕ, zero, suc, ◌+◌, ◌-◌, ◌*◌, ◌<◌, ◌≤◌, ◌==◌, ◌&&◌, ◌||◌, ◌⊎◌, min, nat_le, not, Bool, true, false, List, [], ◌∷◌, ◌++◌, length, drop, map, max, take, Option, None, if◌then◌else◌, slice_index, slice_index_or, IfSome, IfNone}
use Rattle.std.specs.List.{list_all, range_with_len}
use Rattle.std.specs.Option.{option_or}
use Rattle.roll_frame.specs.Core.{settled}
use Rattle.roll_frame.specs.Events.{CoreEvent}
use Rattle.roll_frame.specs.Inputs.{of_player}
use Rattle.roll_frame.specs.declared.entry.Entry.TheVariants.{Remote}
use Rattle.roll_frame.specs.declared.limits.TheConstants.{QUEUE_LIMIT}
use Rattle.roll_frame.specs.declared.refusal.Refusal.{Refusal}
use Rattle.roll_mesh.specs.Groups.{first_of, AreAlike}
use Rattle.roll_mesh.specs.Machines.{is_orphan, none_offered}
use Rattle.roll_mesh.specs.declared.limits.TheConstants.{INPUT_LIMIT, PLAYER_LIMIT}
use Rattle.roll_mesh.specs.declared.machine.Machine.{Machine}
use Rattle.roll_mesh.specs.declared.packet.Offer.{Offer}
use Rattle.roll_mesh.specs.declared.seat.Seat.{Seat}
use Rattle.roll_session.specs.Answered.{IsPlayed}
use Rattle.roll_session.specs.Changes.{remote_refusal, reserve_refusal, FitsLog, IsRefused, IsWhy}
use Rattle.roll_session.specs.Headline.{words_of}
use Rattle.roll_session.specs.Seen.{plain, Seen, Step}
use Rattle.roll_wire.specs.Spelling.{count_of}
use Rattle.roll_wire.specs.declared.limits.TheConstants.{WORD_LIMIT}
use Rattle.roll_member.specs.Joined.{is_awaited}
use Rattle.roll_member.specs.declared.words.Took.{Took}

-- remote words of player p, the first of which is that of frame `first`
abbrev pub remotes : ℕ → ℕ → List ℕ → List CoreEvent
remotes p first [] = []
remotes p first (word ∷ words) = plain (Remote p first word) ∷ remotes p (first + 1) words

-- the same players are there, local, and gone
pub record KeepsPlayers (old new : Seen) : Type 0 where
  pub local : (p : ℕ) → of_player (λ player. player.local) new.core.players p
      ≡ of_player (λ player. player.local) old.core.players p
  pub remote : (p : ℕ) → of_player (λ player. not player.local) new.core.players p
      ≡ of_player (λ player. not player.local) old.core.players p
  pub gone : (p : ℕ) → of_player (λ player. player.gone) new.core.players p
      ≡ of_player (λ player. player.gone) old.core.players p
  pub many : length new.core.players ≡ length old.core.players

-- a remote word is refused, or there is no memory for it
abbrev pub Stops : Seen → ℕ → ℕ → Refusal → Type 0
Stops s p frame why = IsRefused (remote_refusal s p frame) s s why

-- so many events were taken, each into a place of the log that was reserved, if there were such
pub record IsUsed (old new : Seen) (events : ℕ) : Type 0 where
  pub settings : new.settings ≡ old.settings
  pub logged : new.core.logged ≡ old.core.logged + events
  pub reserved : new.reserved ≡ old.reserved - events

-- words of player p were taken, one after another
pub record IsTaken (step : Step) (old new : Seen) (p first : ℕ) (words : List ℕ) : Type 0 where
  pub played : IsPlayed step old new (remotes p first words)
  pub words_are : (q : ℕ) → words_of new q ≡ words_of old q ++ (if q == p then words else [])
  pub players : KeepsPlayers old new
  pub used : IsUsed old new (length words)

-- all words of player p were taken, or those before the first that is refused
pub record TakesWords (step : Step) (old new : Seen) (p first : ℕ) (words : List ℕ) (took : Took)
    : Type 0 where
  pub few : took.count ≤ length words
  pub taken : IsTaken step old new p first (take took.count words)
  pub all : IfNone took.why (took.count ≡ length words)
  pub stopped : IfSome took.why
      (λ why. (took.count < length words) × Stops new p (first + took.count) why)

-- what a session says that has taken so many words of player p from a frame on: who comes with the same frames isn't refused them
pub record IsLed (s : Seen) (p first count : ℕ) : Type 0 where
  pub remote : 1 ≤ count → of_player (λ player. not player.local) s.core.players p ≡ true
  pub queue : 1 ≤ count → first + count ≤ settled s.core + QUEUE_LIMIT

-- and there is room in its log for as many of each other word of the input
pub record Leads (input : ℕ) (s : Seen) (p first count : ℕ) : Type 0 where
  pub led : IsLed s p first count
  pub room : 2 ≤ input → (input - 1) * count ≤ s.reserved
  pub fits : 2 ≤ input → 1 ≤ count → FitsLog s ((input - 1) * count)

-- a session takes so many words more of player p, from a frame on
pub record CanTake (s : Seen) (p first count : ℕ) : Type 0 where
  pub next : 1 ≤ count → first ≡ length (words_of s p)
  pub led : IsLed s p first count
  pub stays : 1 ≤ count → of_player (λ player. player.gone) s.core.players p ≡ false
  pub room : count ≤ s.reserved
  pub fits : 1 ≤ count → FitsLog s count

-- for how many of so many frames of an input there is room in the log, where it has several words: for all that a packet can have, else
-- for one, or none
pub record HasRoom (input : ℕ) (s : Seen) (wanted frames : ℕ) (why : Option Refusal) : Type 0 where
  pub alone : input ≡ 1 → (frames ≡ wanted) × (why ≡ None)
  pub few : frames ≤ wanted
  pub all : IfNone why ((frames ≡ wanted) ⊎ (frames ≡ WORD_LIMIT))
  pub short : IfSome why (λ why. (2 ≤ input) × (frames ≤ 1)
      × IsWhy (reserve_refusal s (input * min wanted WORD_LIMIT)) why)

-- the words of an input's first player were taken, as far as there is room for them and for as many of each other word of the input
pub record TakesFirst (step : Step) (input : ℕ) (old new : Seen) (p first : ℕ) (words : List ℕ)
    (took : Took) : Type 0 where
  pub room : ℕ
  pub frames : ℕ
  pub short : Option Refusal
  pub inner : Took
  pub roomy : HasRoom input old (length words) frames short
  pub alone : input ≡ 1 → room ≡ old.reserved
  pub more : old.reserved ≤ room
  pub taken : TakesWords step (record old { reserved = room }) new p first (take frames words) inner
  pub is : took ≡ record { count = inner.count; why = option_or inner.why short }

-- whether the player at a place is the first word of an input of so many words
abbrev pub is_first : (input place : ℕ) → Bool
is_first input p = first_of input p == p

-- words of the player at a place were taken: of an input's first word as far as the session takes them, and of another as many as of that
pub record TakesPlace (step : Step) (input p first led : ℕ) (words : List ℕ) (old new : Seen)
    (took : Took) : Type 0 where
  pub lead : is_first input p ≡ true → TakesFirst step input old new (p + 1) first words took
  pub follow : is_first input p ≡ false → IsTaken step old new (p + 1) first (take led words)
      × (took ≡ record { count = led; why = None })

-- of a player's words in a packet, those from the count on that there was, up to another count
abbrev pub news : Offer → List ℕ → (has most : ℕ) → List ℕ
news offer words has most = drop (has - offer.first) (take (most - offer.first) words)

-- the words of a packet, shared out to the players that they are of
abbrev pub shares : List Offer → List ℕ → List (List ℕ)
shares [] words = []
shares (offer ∷ offers) words =
    take (offer.end - offer.first) words ∷ shares offers (drop (offer.end - offer.first) words)

-- a packet's words as a member hears them: up to what counts, of what is offered
pub record Hearing : Type 0 where
  -- how many words an input has
  pub input : ℕ
  pub offers : List Offer
  -- those of each player
  pub words : List (List ℕ)
  -- how many of each player there were, and may be
  pub has : List ℕ
  pub most : List ℕ

-- whether all words of player p before the end are there, if so many of each player count; none comes of a player who isn't awaited
abbrev pub is_full : Seat → Machine → (end : ℕ) → (most : List ℕ) → ℕ → Bool
is_full seat machine end most p = not (is_awaited seat machine p) || nat_le end (slice_index most p)

-- whether no word before the end is waited for
unfoldable pub are_full : Seat → Machine → (end : ℕ) → (most : List ℕ) → Bool
are_full seat machine end most =
    list_all (is_full seat machine end most) (range_with_len 0 PLAYER_LIMIT)

-- how many words of player p count, if none of a frame from the end on does; but of a player whose owner is gone those do, as long as
-- words before the end are waited for
abbrev pub counted_to : Seat → (gone : List Bool) → (full : Bool) → (end : ℕ) → (most : List ℕ) → ℕ → ℕ
counted_to seat gone full end most p =
    if is_orphan seat gone p && not full then slice_index most p else min end (slice_index most p)

-- how many words of each player may be taken of a packet of which so many count
unfoldable pub up_to : Seat → Machine → (end : ℕ) → (most : List ℕ) → List ℕ
up_to seat machine end most =
    map (λ p. max (slice_index machine.has p)
    (counted_to seat machine.gone (are_full seat machine end most) end most p))
    (range_with_len 0 PLAYER_LIMIT)

-- the new words of the player at a place
abbrev pub news_at : Hearing → ℕ → List ℕ
news_at h p =
    news (slice_index_or h.offers p none_offered) (slice_index_or h.words p [])
    (slice_index h.has p) (slice_index h.most p)

-- a session hears the same frames of all words of an input: it has as many words of each, new ones are there of all, and none of who is
-- gone
pub record IsFair (h : Hearing) (s : Seen) : Type 0 where
  pub word : 1 ≤ h.input
  pub few : h.input ≤ INPUT_LIMIT
  pub counts : AreAlike h.input (slice_index h.has)
  pub lengths : AreAlike h.input (λ p. length (news_at h p))
  pub next : (p : ℕ) → p < PLAYER_LIMIT → 1 ≤ length (news_at h p)
      → slice_index h.has p ≡ length (words_of s (p + 1))
  pub remote : (p : ℕ) → p < PLAYER_LIMIT
      → of_player (λ player. not player.local) s.core.players (first_of h.input p + 1) ≡ true
      → of_player (λ player. not player.local) s.core.players (p + 1) ≡ true
  pub stays : (p : ℕ) → p < PLAYER_LIMIT → 1 ≤ length (news_at h p)
      → of_player (λ player. player.gone) s.core.players (p + 1) ≡ false

-- the new words of the first so many players were taken, player by player, and so many of the last of these; the last that was refused,
-- was so for this
abbrev pub TakesAll : Step → Hearing → Seen → (places : ℕ) → Seen → (led : ℕ) → Option Refusal
    → Type 0
TakesAll step h old zero new led why = (new ≡ old) × (why ≡ None)
TakesAll step h old (suc p) new led why =
    (mid : Seen) × (before : Option Refusal) × (took : Took) × (lead : ℕ)
    × TakesAll step h old p mid lead before
    × TakesPlace step h.input p (slice_index h.has p) lead (news_at h p) mid new took
    × (led ≡ took.count)
    × (why ≡ option_or took.why before)

-- the words of a packet, unless there are fewer than it offers, and an input has several
abbrev pub words_heard : (input : ℕ) → List Offer → List ℕ → List ℕ
words_heard input offers words =
    if (input == 1) || nat_le (count_of offers) (length words) then words else []
