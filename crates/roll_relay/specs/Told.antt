-- Words that are held back from a session, and the session as if it had heard them.
use Rattle.std.specs.Prelude.{◌≡◌, ◌≢◌, ℕ, ◌+◌, List, [], ◌∷◌, length, map, max, take, not, Bool, true, false, ◌==◌, ◌&&◌, is_none, nat_lt, None, if◌then◌else◌, slice_get}
use Rattle.std.specs.List.{list_all, range_with_len}
use Rattle.std.specs.Option.{option_map_or}
use Rattle.roll_frame.specs.Core.{settled}
use Rattle.roll_frame.specs.Events.{CoreEvent}
use Rattle.roll_frame.specs.Inputs.{is_repeated, of_player}
use Rattle.roll_frame.specs.declared.entry.Entry.TheVariants.{Remote}
use Rattle.roll_frame.specs.declared.limits.TheConstants.{QUEUE_LIMIT}
use Rattle.roll_inputs.specs.declared.remote_word.RemoteWord.{RemoteWord}
use Rattle.roll_session.specs.Changes.{after_remote, remote_refusal, reserve_refusal, IsWhy}
use Rattle.roll_session.specs.Seen.{plain, Seen}
use Rattle.roll_relay.specs.declared.fault.HeldFault.{HeldFault}
use Rattle.roll_relay.specs.declared.fault.HeldFault.TheVariants.{OtherSession, Session}

-- a session after a word
abbrev pub after_word : Seen → RemoteWord → Seen
after_word s w = after_remote s w.player w.frame w.word

-- and after several, in their order
abbrev pub told : Seen → List RemoteWord → Seen
told s [] = s
told s (w ∷ words) = told (after_word s w) words

-- a session takes a word, which it wasn't told before
pub record Takes (s : Seen) (w : RemoteWord) : Type 0 where
  pub fresh : is_repeated s.core.players w.player w.frame w.word ≡ false
  pub taken : remote_refusal s w.player w.frame ≡ None

-- whether it takes each of these in its turn
abbrev pub fits : Seen → List RemoteWord → Bool
fits s [] = true
fits s (w ∷ words) =
    not (is_repeated s.core.players w.player w.frame w.word)
    && (is_none (remote_refusal s w.player w.frame) && fits (after_word s w) words)

abbrev pub Fits : Seen → List RemoteWord → Type 0
Fits s words = fits s words ≡ true

-- they are as many events
abbrev pub asked_words : List RemoteWord → List CoreEvent
asked_words words = map (λ w. plain (Remote w.player w.frame w.word)) words

-- the words of a player among these
abbrev pub words_among : List RemoteWord → ℕ → List ℕ
words_among [] p = []
words_among (w ∷ words) p =
    if w.player == p then w.word ∷ words_among words p else words_among words p

-- whether a word is the next one of a remote player who is there, after others that wait, and there is room for it
abbrev pub is_next : Seen → List RemoteWord → RemoteWord → Bool
is_next s before w =
    of_player
    (λ player. not player.local && (not player.gone
    && ((w.frame == length player.words + length (words_among before w.player))
    && nat_lt w.frame (settled s.core + QUEUE_LIMIT))))
    s.core.players w.player

-- whether the word at a place is, after those before it
abbrev pub is_next_at : Seen → List RemoteWord → ℕ → Bool
is_next_at s words k = option_map_or (is_next s (take k words)) (slice_get words k) false

-- whether each is
unfoldable pub are_next : Seen → List RemoteWord → Bool
are_next s words = list_all (is_next_at s words) (range_with_len 0 (length words))

-- a session with room for so many events more
abbrev pub with_room : ℕ → Seen → Seen
with_room room s = record s { reserved = room }

-- and where room was made for so many
abbrev pub roomier : ℕ → Seen → Seen
roomier room s = record s { reserved = max s.reserved room }

-- a session but for the number of events that there is room for
abbrev pub roomless : Seen → Seen
roomless s = with_room 0 s

-- why a session can't be told words, of which there are some: they aren't its next ones, or there is no room for them
abbrev pub IsHeldFault : Seen → List RemoteWord → HeldFault → Type 0
IsHeldFault s words OtherSession = are_next s words ≡ false
IsHeldFault s words (Session why) =
    (words ≢ []) × (are_next s words ≡ true) × IsWhy (reserve_refusal s (length words)) why

-- a session as if it had heard the words that are held back from it, where there is room for so many events more
abbrev pub as_told : Seen → List RemoteWord → ℕ → Seen
as_told s words room = with_room room (told s words)
