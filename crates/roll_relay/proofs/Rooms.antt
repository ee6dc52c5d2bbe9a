-- For how many events there is room as something is heard.
use Rattle.std.proofs.Common.{◌≡◌, ◌∙◌, ℕ, ◌+◌, ◌-◌, List, ◌∷◌, ◌++◌, [], ap, arith, length, max, subst, sym}
use Rattle.std.specs.Prelude.{IfErr, IfOk, Option, Result, Ok, Err}
use Rattle.roll_frame.specs.declared.refusal.Refusal.{Refusal}
use Rattle.roll_inputs.specs.declared.heard.Heard.{Heard}
use Rattle.roll_inputs.specs.declared.heard.Heard.TheVariants.{Taken, Repeated}
use Rattle.roll_inputs.specs.declared.remote_word.RemoteWord.{RemoteWord}
use Rattle.roll_session.specs.Changes.{IsHeard, IsRefused}
use Rattle.roll_session.specs.Seen.{Seen}
use Rattle.roll_relay.specs.Rooms.{keep_itself, room_to, HasRoom, KeepRoom}
use Rattle.roll_relay.specs.Told.{roomier, roomless, told}
use Rattle.roll_relay.proofs.Told.{told_more, told_room, told_stays}

pub same_room : (a b : Seen) (r q : ℕ) → b ≡ a → q ≡ r → KeepRoom a b r q
same_room a b r q same kept =
    let logged = ap (λ (x : Seen). x.core.logged) same in
    record {
      upto = a.core.logged;
      past = omega arith;
      here = omega (arith, logged, ap (λ (x : Seen). x.reserved) same);
      there = omega (arith, logged, kept);
    }

-- an event came
pub one_room : (a b : Seen) (r q : ℕ) → b.core.logged ≡ a.core.logged + 1 → b.reserved ≡ a.reserved - 1 → q ≡ r - 1 → KeepRoom a b r q
one_room a b r q logged reserved kept = record {
  upto = a.core.logged + 1;
  past = omega arith;
  here = omega (arith, logged, reserved);
  there = omega (arith, logged, kept);
}

-- room was made
pub made_room : (a b : Seen) (r q events : ℕ) → b.core.logged ≡ a.core.logged → b.reserved ≡ max a.reserved events → q ≡ max r events
    → KeepRoom a b r q
made_room a b r q events logged reserved kept = record {
  upto = a.core.logged + events;
  past = omega arith;
  here = omega (arith, logged, reserved);
  there = omega (arith, logged, kept);
}

-- all that waited was told before
pub after_all : (s mid after : Seen) (words held : List RemoteWord) (r q : ℕ) → mid ≡ told s words → held ≡ [] → KeepRoom mid after r q
    → KeepRoom (told s words) (told after held) r q
after_all s mid after words held r q is none kept =
    subst (λ (ws : List RemoteWord). KeepRoom (told s words) (told after ws) r q) (sym none)
    (subst (λ (x : Seen). KeepRoom x after r q) is kept)

-- a word was heard
pub taken_room : (a b : Seen) (r q p frame word : ℕ) → IsHeard a b p frame word Taken → q ≡ r - 1 → KeepRoom a b r q
taken_room a b r q p frame word heard kept =
    one_room a b r q (ap (λ (x : Seen). x.core.logged) heard.2) (ap (λ (x : Seen). x.reserved) heard.2) kept

-- one more is held back, where there was room made for one
pub held_room : (s mid later : Seen) (words held : List RemoteWord) (w : RemoteWord) (r q : ℕ)
    → (told mid words).reserved ≡ max (told s words).reserved 1 → roomless mid ≡ roomless s → told later held ≡ told mid words
    → q ≡ r - 1 → KeepRoom (told s words) (told later (held ++ w ∷ [])) r q
held_room s mid later words held w r q made same place kept =
    let more = told_more later held (w ∷ []) in
    let logged : (told mid words).core.logged ≡ (told s words).core.logged =
    ap (λ (x : Seen). x.core.logged) (told_room mid s words same) in
    one_room (told s words) (told later (held ++ w ∷ [])) r q
    (omega (arith, ap (λ (x : Seen). x.core.logged) more, ap (λ (x : Seen). x.core.logged) place, logged))
    (omega (arith, ap (λ (x : Seen). x.reserved) more, ap (λ (x : Seen). x.reserved) place, made))
    kept

-- what the other one has, which began with no room, says what this one has
pub has_room : (s mid new : Seen) (words held : List RemoteWord) (room : ℕ) → mid ≡ roomier (length words) s
    → KeepRoom (told mid words) (told new held) 0 room → HasRoom (told s words) (told new held) room
has_room s mid new words held room made kept =
    let one = told_stays s words in
    let other = told_stays mid words in
    omega (
      arith,
      kept.past,
      kept.here,
      kept.there,
      one.logged,
      one.reserved,
      other.logged,
      other.reserved,
      ap (λ (x : Seen). x.core.logged) made,
      ap (λ (x : Seen). x.reserved) made,
    )
