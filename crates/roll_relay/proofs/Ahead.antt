-- The network beside a session from which words are held back.
use Rattle.std.proofs.Common.{◌≡◌, ◌∙◌, ◌⊎◌, ◌<◌, ◌≤◌, ℕ, inl, inr, List, ap, min, refl, subst, sym, take, zero, suc, arith, ◌∷◌, [], length}
use Rattle.std.proofs.lemmas.Bool.{cases_lt}
use Rattle.std.proofs.lemmas.List.{take_all}
use Rattle.std.specs.Prelude.{Result}
use Rattle.roll_inputs.specs.declared.remote_word.RemoteWord.{RemoteWord}
use Rattle.roll_peer.specs.Peered.{Peered}
use Rattle.roll_peer.specs.Receiving.{ticking}
use Rattle.roll_peer.specs.Turning.{IsPolled}
use Rattle.roll_peer.specs.declared.refusal.PeerRefusal.{PeerRefusal}
use Rattle.roll_session.specs.Seen.{Seen}
use Rattle.roll_relay.specs.Heard.{beside, PollsHeld}
use Rattle.roll_relay.specs.Rooms.{HasRoom}
use Rattle.roll_relay.specs.Told.{after_word, as_told, roomless, told, Fits}
use Rattle.roll_relay.proofs.Told.{as_told_same, first_takes, takes_first}

-- the first of words that fit do
pub fits_take : (s : Seen) (words : List RemoteWord) (n : ℕ) → Fits s words → Fits s (take n words)
fits_take s words zero f = refl
fits_take s [] (suc n) f = refl
fits_take s (w ∷ words) (suc n) f =
    let first = first_takes s w words f in
    takes_first s w (take n words) first.0 (fits_take (after_word s w) words n first.1)

pub take_few : {X : Type 0} (n : ℕ) (xs : List X) → take (min n (length xs)) xs ≡ take n xs
take_few n xs = go (cases_lt (length xs) n)
  where
    go : (length xs < n) ⊎ (n ≤ length xs) → take (min n (length xs)) xs ≡ take n xs
    go (inl l) =
        let least : min n (length xs) ≡ length xs = omega (arith, l) in
        ap (λ m. take m xs) least ∙ take_all (length xs) xs (omega arith) ∙ sym (take_all n xs (omega (arith, l)))
    go (inr l) = let least : min n (length xs) ≡ n = omega (arith, l) in ap (λ m. take m xs) least

module _ (s later new : Seen) (words held : List RemoteWord) (room : ℕ) (same : roomless later ≡ roomless s) where
  pub before_is : as_told later words 0 ≡ as_told s words 0
  before_is = as_told_same later s words words 0 0 same refl refl

  pub polls_held : (peer next : Peered) (now : ℕ) (said : Result Unit PeerRefusal) → HasRoom (told s words) (told new held) room
      → IsPolled (as_told later words 0) (as_told new held room) (ticking now peer) next said
      → PollsHeld (beside s words peer) (beside new held next) now said
  polls_held peer next now said has polled = record {
    room = room;
    has_room = has;
    polls = subst (λ (x : Seen). IsPolled x (as_told new held room) (ticking now peer) next said) before_is polled;
  }
