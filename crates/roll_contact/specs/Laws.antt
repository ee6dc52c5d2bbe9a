-- Laws of connections.
use Rattle.std.specs.Prelude.{◌≡◌, ◌≢◌, ◌≤◌, ◌<◌, ◌^◌, ℕ, List, [], ◌∷◌, length, true, false, Option, Some, None, All, IsSome, nat_lt, ◌-◌}
use Rattle.roll_wire.specs.declared.datagram.Clocks.{Clocks}
use Rattle.roll_wire.specs.declared.datagram.Hello.{Hello}
use Rattle.roll_contact.specs.Contacts.{after_hello, after_play, is_before, is_newer, is_playing, is_silent, refused}
use Rattle.roll_contact.specs.Keys.{block_of}
use Rattle.roll_contact.specs.Seals.{HasNumber, sealed, tag, unsealed}
use Rattle.roll_contact.specs.declared.contact.Contact.{Contact}
use Rattle.roll_contact.specs.declared.contact.Opening.{Opening}
use Rattle.roll_contact.specs.declared.key.Key.{Key}
use Rattle.roll_contact.specs.declared.terms.Field.{Field}

-- a draw is believed only by a hello that says this opening's own
pub record OnlyAnEchoIsBelieved : Type 0 where
  -- whoever comes to be played with has said it
  pub echoed : (own : Opening) (mismatch : Option Field) (hello : Hello) (now : ℕ) (contact : Contact)
      → is_playing contact.stage ≡ false
      → is_playing (after_hello own mismatch hello now contact).stage ≡ true
      → hello.echo ≡ own.draw
  -- and means the same match
  pub alike : (own : Opening) (mismatch : Option Field) (hello : Hello) (now : ℕ) (contact : Contact)
      → is_playing contact.stage ≡ false
      → is_playing (after_hello own mismatch hello now contact).stage ≡ true
      → mismatch ≡ None
  -- no hello without it takes the place of a draw
  pub changed : (own : Opening) (mismatch : Option Field) (hello : Hello) (now : ℕ) (contact : Contact)
      → is_playing contact.stage ≡ true
      → (after_hello own mismatch hello now contact).draw ≢ contact.draw → hello.echo ≡ own.draw
  -- and none at all once a play of that opening was heard
  pub lasts : (own : Opening) (mismatch : Option Field) (hello : Hello) (now : ℕ) (contact : Contact)
      → is_playing contact.stage ≡ true → contact.confirmed ≡ true
      → (after_hello own mismatch hello now contact).draw ≡ contact.draw
  -- a restart is found out only by one that says this opening's own draw, and another than the one that is believed
  pub restarted : (own : Opening) (mismatch : Option Field) (hello : Hello) (now : ℕ) (contact : Contact)
      → (after_hello own mismatch hello now contact).restarted ≢ contact.restarted
      → hello.echo ≡ own.draw

-- plays that come one after the other, each with its clocks if it has some, at a frame and a moment
pub record Coming : Type 0 where
  pub number : ℕ
  pub clocks : Option Clocks
  pub frame : ℕ
  pub now : ℕ

unfoldable pub after_plays : List Coming → Contact → Contact
after_plays [] contact = contact
after_plays (play ∷ plays) contact =
    after_plays plays (after_play play.number play.clocks play.frame play.now contact)

-- its clocks came back before: none, or one that isn't newer than the newest
abbrev pub IsOld : ℕ → Coming → Type 0
IsOld newest play = (clocks : Clocks) → play.clocks ≡ Some clocks
    → is_before newest clocks.heard_clock ≡ false

-- whoever is only copied falls silent as one who sends nothing
abbrev pub CopiesEndNoSilence : Type 0
CopiesEndNoSilence = (plays : List Coming) (contact : Contact) (now silent_after : ℕ)
    → contact.confirmed ≡ true → All (IsOld contact.answered) plays
    → is_silent (after_plays plays contact) now silent_after ≡ is_silent contact now silent_after

-- what is refused changes no silence
abbrev pub RefusalsEndNoSilence : Type 0
RefusalsEndNoSilence = (contact : Contact) (now silent_after : ℕ)
    → is_silent (refused contact) now silent_after ≡ is_silent contact now silent_after

-- what comes of an end: a hello, a play, or what is refused
pub data Came : Type 0 where
  Greeting : Option Field → Hello → (now : ℕ) → Came
  Turn : Coming → Came
  Refusal : Came

abbrev pub after_one : Opening → Came → Contact → Contact
after_one own (Greeting mismatch hello now) contact = after_hello own mismatch hello now contact
after_one own (Turn play) contact = after_play play.number play.clocks play.frame play.now contact
after_one own Refusal contact = refused contact

-- one after the other
unfoldable pub after_all : Opening → List Came → Contact → Contact
after_all own [] contact = contact
after_all own (one ∷ more) contact = after_all own more (after_one own one contact)

-- a play is newer once
pub record HeardIsOld : Type 0 where
  -- as it is heard, the number rises from which on others are
  pub passes : (play : Coming) (contact : Contact) → play.number < 2 ^ 32 - 1
      → nat_lt contact.after (after_play play.number play.clocks play.frame play.now contact).after
      ≡ is_newer contact play.number
  -- and it isn't newer again, whatever comes in between
  pub lasts : (own : Opening) (play : Coming) (came : List Came) (contact : Contact)
      → play.number < 2 ^ 32 - 1
      → is_newer (after_all own (Turn play ∷ came) contact) play.number ≡ false

abbrev pub IsKey : Key → Type 0
IsKey key = (key.number < 2 ^ 64) × ((key.from < 2 ^ 64) × (key.to < 2 ^ 64))

-- keys, and what is sealed by them
pub record KeysDiffer : Type 0 where
  -- two keys whose bytes are the same are the same
  pub one_key : (one other : Key) → IsKey one → IsKey other → block_of one ≡ block_of other → one ≡ other
  -- what was sealed by one key is opened by another only if both make the same tag
  pub one_tag : (one other : Key) (text : List ℕ) → 12 ≤ length text → one.number ≡ other.number
      → HasNumber one.number text → IsSome (unsealed other (sealed one text)) → tag other text ≡ tag one text
